-- The identity that the element at a place names, and what edits of fields make of it.
use Rattle.std.proofs.Common.{◌≡◌, ℕ, Bool, true, false, ◌&&◌, [], ◌∷◌, Option, Some, None, refl, sym, ap, subst, ◌∙◌}
use Rattle.std.specs.Prelude.{option_and_then, unwrap_or}
use Rattle.std.specs.Option.{option_map}
use Rattle.std.proofs.lemmas.Bool.{true≢false}
use Rattle.balise_rules.specs.declared.tag.Tag.{Tag}
use Rattle.balise_rules.specs.declared.identity.Id.{Id}
use Rattle.balise_rules.specs.declared.variable.Var.TheVariants.{NidBg, NidC}
use Rattle.balise_rules.specs.Tagged.{find, each, Distinct}
use Rattle.balise_rules.specs.Tags.{Key, is_of, same_tag, same_key, same_id}
use Rattle.balise_rules.specs.Forms.{Fields}
use Rattle.balise_rules.specs.Packet.{Packet, field_of, value}
use Rattle.balise_rules.specs.Telegram.{Telegram}
use Rattle.balise_rules.specs.Plan.{Group, Plan, IsSound, country_of, telegram_at, identity_of, group_named, IdentitiesDiffer}
use Rattle.balise_rules.specs.Names.{is_real, is_it, country_at}
use Rattle.balise_rules.proofs.Tests.{split_on, split_keys, tag_test, key_test, id_test}
use Rattle.balise_rules.proofs.Lists.{find-each}
use Rattle.balise_rules.proofs.Cases.{unsome}
use Rattle.balise_edit_laws.proofs.Naming.{no_group_from}
use Rattle.balise_rules.proofs.Each.{found_later}
use Rattle.balise_index.specs.declared.link_place.LinkPlace.{LinkPlace}
use Rattle.balise_plan.specs.Links.{named_at, named_in_telegram, named_in_packet}

abbrev pub id_in_packet : ℕ → ℕ → Packet → Option Id
id_in_packet c k x = option_map (λ v. record { country = country_at c k x.fields; number = v }) (field_of NidBg k x.fields)

abbrev pub id_in_telegram : LinkPlace → Telegram → Option Id
id_in_telegram w y = option_and_then (id_in_packet (country_of y) w.element) (find same_tag w.packet y.packets)

-- the identity of the element at a place
abbrev pub id_at : LinkPlace → Plan → Option Id
id_at w plan = option_and_then (id_in_telegram w) (telegram_at w.group w.telegram plan)

abbrev pub is_the : Id → Option Id → Bool
is_the q None = false
is_the q (Some j) = same_id j q

calls-is : (c k : ℕ) (fs : Fields) (q : Id) (o : Option ℕ) → is_it (country_at c k fs) q o ≡ is_the q (option_map (λ v. record { country = country_at c k fs; number = v }) o)
calls-is c k fs q None = refl
calls-is c k fs q (Some v) = refl

pub in-packet : (c k : ℕ) (q : Id) (o : Option Packet) → named_in_packet c q k o ≡ is_the q (option_and_then (id_in_packet c k) o)
in-packet c k q None = refl
in-packet c k q (Some x) = calls-is c k x.fields q (field_of NidBg k x.fields)

in-telegram : (w : LinkPlace) (q : Id) (o : Option Telegram) → named_in_telegram q w o ≡ is_the q (option_and_then (id_in_telegram w) o)
in-telegram w q None = refl
in-telegram w q (Some y) = in-packet (country_of y) w.element q (find same_tag w.packet y.packets)

pub named-is : (q : Id) (w : LinkPlace) (plan : Plan) → named_at q w plan ≡ (is_real q && is_the q (id_at w plan))
named-is q w plan = ap (λ b. is_real q && b) (in-telegram w q (telegram_at w.group w.telegram plan))

pub the-one : (q : Id) (o : Option Id) → is_the q o ≡ true → o ≡ Some q
the-one q None e = absurd cc
the-one q (Some j) e = ap Some (id_test.one j q e)

-- what an identity says of its number and its country
pub id-parts : (c : ℕ) (i : Id) (o : Option ℕ) → option_map (λ (v : ℕ). let j : Id = record { country = c; number = v } in j) o ≡ Some i → (o ≡ Some i.number) × (c ≡ i.country)
id-parts c i None e = absurd cc
id-parts c i (Some v) e = (ap (λ (j : Id). Some j.number) (unsome e), ap (λ (j : Id). j.country) (unsome e))

-- ---- countries stay

pub country-each : (h : Key → ℕ → ℕ) → ((key : Key) (v : ℕ) → is_of NidC key ≡ true → h key v ≡ v) → (c k : ℕ) (fs : Fields) → country_at c k (each h fs) ≡ country_at c k fs
country-each h s c k [] = refl
country-each h s c k (y ∷ ys) =
    split_on (is_of NidC y.0)
    (λ e. let a = s y.0 y.1 e in simp (e, a) (country-each h s y.1 k ys))
    (λ e. split_on (same_key (NidBg, k) y.0) (λ d. simp (e, d)) (λ d. simp (e, d) (country-each h s c k ys)))

value-each : (h : Key → ℕ → ℕ) → ((v : ℕ) → h (NidC, 0) v ≡ v) → (fs : Fields) → value NidC 0 (each h fs) ≡ value NidC 0 fs
value-each h s fs = ap (λ o. unwrap_or o 0) (find-each key_test h (NidC, 0) fs) ∙ by (find same_key (NidC, 0) fs)
  where
    by : (o : Option ℕ) → unwrap_or (option_map (h (NidC, 0)) o) 0 ≡ unwrap_or o 0
    by None = refl
    by (Some v) = s v

-- ---- an edit of fields

-- what a change of each field makes of the element k of a packet, where it leaves countries
link-after : (h : Key → ℕ → ℕ) (r : Id → Id) (c k : ℕ) (x : Packet) → ((key : Key) (v : ℕ) → is_of NidC key ≡ true → h key v ≡ v)
    → ((v : ℕ) → record { country = country_at c k x.fields; number = h (NidBg, k) v } ≡ r (record { country = country_at c k x.fields; number = v }))
    → id_in_packet c k (record { fields = each h x.fields; rest = x.rest }) ≡ option_map r (id_in_packet c k x)
link-after h r c k x s e = rw (country-each h s c k x.fields, find-each key_test h (NidBg, k) x.fields) (by (field_of NidBg k x.fields))
  where
    by : (o : Option ℕ) → option_map (λ v. record { country = country_at c k x.fields; number = v }) (option_map (h (NidBg, k)) o) ≡ option_map r (option_map (λ v. record { country = country_at c k x.fields; number = v }) o)
    by None = refl
    by (Some v) = ap Some (e v)

-- what an edit of fields makes of the element at a place
pub id-after : (w : LinkPlace) (r : Id → Id) (hh : Telegram → Key → ℕ → ℕ) (hf : Telegram → Tag → Packet → Key → ℕ → ℕ) (plan new : Plan) →
    telegram_at w.group w.telegram new ≡ option_map (λ y. record { head = each (hh y) y.head; packets = each (λ p x. record { fields = each (hf y p x) x.fields; rest = x.rest }) y.packets; padding = y.padding }) (telegram_at w.group w.telegram plan) →
    ((y : Telegram) (v : ℕ) → hh y (NidC, 0) v ≡ v) →
    ((y : Telegram) (p : Tag) (x : Packet) (key : Key) (v : ℕ) → is_of NidC key ≡ true → hf y p x key v ≡ v) →
    ((y : Telegram) (p : Tag) (x : Packet) (k v : ℕ) → record { country = country_at (country_of y) k x.fields; number = hf y p x (NidBg, k) v } ≡ r (record { country = country_at (country_of y) k x.fields; number = v })) →
    id_at w new ≡ option_map r (id_at w plan)
id-after w r hh hf plan new e sh sf link = ap (option_and_then (id_in_telegram w)) e ∙ by (telegram_at w.group w.telegram plan)
  where
    after : Telegram → Telegram
    after y = record { head = each (hh y) y.head; packets = each (λ p x. record { fields = each (hf y p x) x.fields; rest = x.rest }) y.packets; padding = y.padding }

    inner : (y : Telegram) (o : Option Packet) → option_and_then (id_in_packet (country_of y) w.element) (option_map (λ x. record { fields = each (hf y w.packet x) x.fields; rest = x.rest }) o) ≡ option_map r (option_and_then (id_in_packet (country_of y) w.element) o)
    inner y None = refl
    inner y (Some x) = link-after (hf y w.packet x) r (country_of y) w.element x (sf y w.packet x) (link y w.packet x w.element)

    by : (o : Option Telegram) → option_and_then (id_in_telegram w) (option_map after o) ≡ option_map r (option_and_then (id_in_telegram w) o)
    by None = refl
    by (Some y) = rw (value-each (hh y) (sh y) y.head, find-each tag_test _ w.packet y.packets) (inner y (find same_tag w.packet y.packets))

-- ---- the group of an identity

first-named : (i : Id) (xs : Plan) → IdentitiesDiffer xs → (g : Tag) (ys : Group) → find same_tag g xs ≡ Some ys → same_id (identity_of ys) i ≡ true → option_map (λ (y : Tag × Group). y.0) (group_named i xs) ≡ Some g
first-named i [] d g ys e m = absurd cc
first-named i (y ∷ rest) d g ys e m =
    split_keys tag_test g y.0
    (λ t q. let w : Some y.1 ≡ Some ys = simp t at e in
    let n : same_id (identity_of y.1) i ≡ true = ap (λ z. same_id (identity_of z) i) (unsome w) ∙ m in
    simp n (sym (ap Some q)))
    (λ t. let w : find same_tag g rest ≡ Some ys = simp t at e in
    split_on (same_id (identity_of y.1) i)
    (λ n. absurd (let o = no_group_from (identity_of y.1) rest d.0 g ys w in
    let k : same_id (identity_of ys) (identity_of y.1) ≡ true = ap (same_id (identity_of ys)) (id_test.one (identity_of y.1) i n) ∙ m in
    true≢false (sym k ∙ o)))
    (λ n. simp n (first-named i rest d.1 g ys w m)))

pub tag-named : (i : Id) (plan : Plan) → IsSound plan → (g : Tag) (ys : Group) → find same_tag g plan ≡ Some ys → same_id (identity_of ys) i ≡ true → option_map (λ (y : Tag × Group). y.0) (group_named i plan) ≡ Some g
tag-named i plan s g ys e m = first-named i plan s.identities g ys e m

-- the group that is found by its identity
pub named-found : (i : Id) (plan : Plan) → Distinct same_tag plan → (y : Tag × Group) → group_named i plan ≡ Some y → (find same_tag y.0 plan ≡ Some y.1) × (same_id (identity_of y.1) i ≡ true)
named-found i [] u y e = absurd cc
named-found i (z ∷ zs) u y e =
    split_on (same_id (identity_of z.1) i)
    (λ m. let w : Some z ≡ Some y = simp m at e in
    subst (λ x. (find same_tag x.0 (z ∷ zs) ≡ Some x.1) × (same_id (identity_of x.1) i ≡ true)) (unsome w)
    (let r = tag_test.itself z.0 in (simp r, m)))
    (λ m. let w : group_named i zs ≡ Some y = simp m at e in
    let h = named-found i zs u.1 y w in
    (found_later tag_test z zs u.0 y.0 y.1 h.0, h.1))
