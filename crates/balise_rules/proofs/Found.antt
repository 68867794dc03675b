-- What soundness says of a group, telegram, packet and field that is found.
-- From the records of soundness and the numbering of fields.
-- The laws speak of what is found under tags, never of places in lists.
use Rattle.std.proofs.Common.{◌≡◌, ℕ, suc, ◌+◌, ◌-◌, ◌≤◌, ◌&&◌, Bool, true, eqb, IsTrue, List, [], ◌∷◌, length, Some, sym, ap, subst, ◌∙◌, arith}
use Rattle.std.proofs.lemmas.Bool.{and_parts}
use Rattle.balise_rules.specs.declared.tag.Tag.{Tag}
use Rattle.balise_rules.specs.declared.identity.Id.{Id}
use Rattle.balise_rules.specs.Variables.{width_of}
use Rattle.balise_rules.specs.Bits.{fits}
use Rattle.balise_rules.specs.Tagged.{find, Distinct}
use Rattle.balise_rules.specs.Tags.{Key, same_tag, same_key}
use Rattle.balise_rules.specs.Forms.{Form, done, shut, never, valued, Fields, Matches}
use Rattle.balise_rules.specs.Packet.{Packet, IsSpelt}
use Rattle.balise_rules.specs.Telegram.{Telegram, version_of}
use Rattle.balise_rules.specs.Plan.{Group, Plan, identity_of, telegram_at, IsSoundTelegram, SoundFrom, IsSoundGroup, IsSound}
use Rattle.balise_rules.proofs.Tests.{split_on, split_keys, key_test, tag_test, nat_test}
use Rattle.balise_rules.proofs.Cases.{found, unsome}
use Rattle.balise_rules.proofs.AllItems.{all_found}
use Rattle.balise_rules.proofs.Keys.{numbered_distinct}

pub group_sound : (plan : Plan) → IsSound plan → (g : Tag) → (ys : Group) → find same_tag g plan ≡ Some ys → IsSoundGroup ys
group_sound plan s g ys h = all_found IsSoundGroup same_tag plan s.groups g ys h

-- a telegram of a group stands at one of its places
pub record IsPlaced (ys : Group) (y : Telegram) : Type 0 where
  pub place : ℕ
  pub within : place ≤ length ys - 1
  pub sound : IsSoundTelegram (identity_of ys) (length ys - 1) place y

placed_from : (i : Id) → (last n : ℕ) → (ys : Group) → SoundFrom i last n ys → (t : ℕ) → (y : Telegram) → find eqb t ys ≡ Some y → (m : ℕ) × (suc m ≤ n + length ys) × IsSoundTelegram i last m y
placed_from i last n [] s t y h = absurd cc
placed_from i last n (z ∷ zs) s t y h =
    split_on (eqb t z.0)
    (λ e. let w : Some z.1 ≡ Some y = simp e at h in (n, omega arith, subst (λ x. IsSoundTelegram i last n x) (unsome w) s.0))
    (λ e. let w : find eqb t zs ≡ Some y = simp e at h in let r = placed_from i last (suc n) zs s.1 t y w in let b = r.1 in (r.0, omega (arith, b), r.2))

pub placed : (ys : Group) → IsSoundGroup ys → (t : ℕ) → (y : Telegram) → find eqb t ys ≡ Some y → IsPlaced ys y
placed ys s t y h =
    let r = placed_from (identity_of ys) (length ys - 1) 0 ys s.telegrams t y h in let b = r.1 in
    record { place = r.0; within = omega (arith, b); sound = r.2 }

-- a telegram that is found stands in a group
pub record InGroup (g : Tag) (t : ℕ) (plan : Plan) (y : Telegram) : Type 0 where
  pub group : Group
  pub has_group : find same_tag g plan ≡ Some group
  pub has_telegram : find eqb t group ≡ Some y

pub in_group : (g : Tag) → (t : ℕ) → (plan : Plan) → (y : Telegram) → telegram_at g t plan ≡ Some y → InGroup g t plan y
in_group g t plan y h =
    found (find same_tag g plan)
    (λ e. absurd (let k = simp e at h in cc))
    (λ ys e. let k : find eqb t ys ≡ Some y = simp e at h in record { group = ys; has_group = e; has_telegram = k })

-- a telegram of the plan, with its group
pub record Stood (g : Tag) (t : ℕ) (plan : Plan) (y : Telegram) : Type 0 where
  pub group : Group
  pub has_group : find same_tag g plan ≡ Some group
  pub has_telegram : find eqb t group ≡ Some y
  pub group_is : IsSoundGroup group
  pub placed : IsPlaced group y

pub stood : (g : Tag) → (t : ℕ) → (plan : Plan) → IsSound plan → (y : Telegram) → telegram_at g t plan ≡ Some y → Stood g t plan y
stood g t plan s y h =
    let i = in_group g t plan y h in
    let w = group_sound plan s g i.group i.has_group in
    record { group = i.group; has_group = i.has_group; has_telegram = i.has_telegram; group_is = w; placed = placed i.group w t y i.has_telegram }

-- keys are distinct
pub head_distinct : {i : Id} {last n : ℕ} → (y : Telegram) → IsSoundTelegram i last n y → Distinct same_key y.head
head_distinct y s = numbered_distinct [] y.head s.numbered

pub packet_spelt : {i : Id} {last n : ℕ} → (y : Telegram) → IsSoundTelegram i last n y → (p : Tag) → (x : Packet) → find same_tag p y.packets ≡ Some x → IsSpelt (version_of y) x
packet_spelt y s p x h = all_found (IsSpelt (version_of y)) same_tag y.packets s.packets p x h

pub fields_distinct : (version : ℕ) → (x : Packet) → IsSpelt version x → Distinct same_key x.fields
fields_distinct version x s = numbered_distinct [] x.fields s.numbered

-- a field that is found fits its width
pub field_fits : (form : Form) → (fs : Fields) → (rest : List Bool) → Matches form fs rest → (key : Key) → (n : ℕ) → find same_key key fs ≡ Some n → IsTrue (fits (width_of key.0) n)
field_fits form [] rest m key n h = absurd cc
field_fits done (f ∷ fs) rest m key n h = absurd m
field_fits shut (f ∷ fs) rest m key n h = absurd m
field_fits never (f ∷ fs) rest m key n h = absurd m
field_fits (valued v next) (f ∷ fs) rest m key n h =
    split_keys key_test key f.0
    (λ e q. let w : Some f.1 ≡ Some n = simp e at h in
    let z : v ≡ key.0 = sym m.0 ∙ ap (λ (c : Key). c.0) (sym q) in
    subst (λ a. IsTrue (fits (width_of key.0) a)) (unsome w) (subst (λ a. IsTrue (fits (width_of a) f.1)) z m.1))
    (λ e. let w : find same_key key fs ≡ Some n = simp e at h in field_fits (next f.1) fs rest m.2 key n w)

-- the same place
pub place_is : (g0 g : Tag) → (t0 t : ℕ) → (plan : Plan) → (same_tag g0 g && eqb t0 t) ≡ true → telegram_at g0 t0 plan ≡ telegram_at g t plan
place_is g0 g t0 t plan e =
    let h = and_parts (same_tag g0 g) (eqb t0 t) e in
    ap (λ u. telegram_at u t0 plan) (tag_test.one g0 g h.0) ∙ ap (λ u. telegram_at g u plan) (nat_test.one t0 t h.1)
