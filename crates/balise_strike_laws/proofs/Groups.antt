-- Groups and their identities, before and after any edit.
-- Proves that a group keeps its identity, or the edit changes both the old and the new one; and reads a turn forward and back.
-- From that each telegram has its group's identity.
use Rattle.std.proofs.Common.{◌≡◌, ℕ, ◌⊎◌, inl, inr, ⊎_elim, Bool, true, false, eqb, [], ◌∷◌, reverse, Some, None, refl, sym, ap, subst, ◌∙◌}
use Rattle.std.proofs.lemmas.Bool.{both_ways}
use Rattle.std.specs.Option.{option_map}
use Rattle.balise_rules.specs.declared.tag.Tag.{Tag}
use Rattle.balise_rules.specs.declared.identity.Id.{Id}
use Rattle.balise_rules.specs.declared.variable.Var.TheVariants.{NidBg}
use Rattle.balise_rules.specs.Tagged.{find, each, Distinct}
use Rattle.balise_rules.specs.Tags.{same_tag, same_id, same_key}
use Rattle.balise_rules.specs.Forms.{Fields}
use Rattle.balise_rules.specs.Packet.{value}
use Rattle.balise_rules.specs.Telegram.{Telegram}
use Rattle.balise_rules.specs.Plan.{Group, Plan, identity_of, identity_in, country_of}
use Rattle.balise_rules.specs.Edits.{Edit, Item, group_after, telegram_after, head_after}
use Rattle.balise_rules.specs.declared.tagged_edit.TaggedEdit.TheVariants.{SetHead, Renumber, TurnGroup}
use Rattle.balise_rules.specs.Notes.{Note, no_identity, nothing, note_group, noted}
use Rattle.balise_rules.specs.Doing.{done}
use Rattle.balise_rules.specs.Accepting.{Lawful, Accepted}
use Rattle.balise_rules.specs.Paths.{Part, At, Turn, Whose, changes}
use Rattle.balise_rules.proofs.Tests.{split_on, flip_no, tag_test, nat_test, var_test, id_test}
use Rattle.balise_rules.proofs.Cases.{found, some_is}
use Rattle.balise_rules.proofs.Reversed.{each-reverse, find-reverse}
use Rattle.balise_rules.proofs.Values.{value-each, value_kept}
use Rattle.balise_strike_laws.proofs.Cases.{drop1}
use Rattle.balise_strike_laws.proofs.Fields.{identity}
use Rattle.balise_strike_laws.proofs.Headers.{country-kept}
use Rattle.balise_strike_laws.proofs.Places.{In, first_of, later_of, Clear, Reads}
use Rattle.balise_strike_laws.proofs.Facts.{Facts}
use Rattle.balise_strike_laws.proofs.Settings.{lawful-head}
use Rattle.balise_strike_laws.proofs.Locals.{spared-from, find-group, Forward, Back}

abbrev pub renames : Edit → Tag → Bool
renames (Renumber g1 x) g = same_tag g1 g
renames f g = false

number-kept : (f : Edit) → Lawful f → (g : Tag) → (t : ℕ) → renames f g ≡ false → (hs : Fields) → (v : ℕ) → head_after f g t hs (NidBg, 0) v ≡ v
number-kept (SetHead g0 t0 v0 x) l g t n hs v = let r = flip_no var_test NidBg v0 (lawful-head (SetHead g0 t0 v0 x) l).1 in simp r
number-kept (Renumber g0 x) l g t n hs v = simp n
number-kept f l g t n hs v = refl

pub identity_in-kept : (f : Item) → Lawful f.1 → (j : Id) → (g : Tag) → (t : ℕ) → renames f.1 g ≡ false → (y : Telegram) →
    identity_in (telegram_after f j g t y) ≡ identity_in y
identity_in-kept f l j g t n y = ap (λ c. identity c (value NidBg 0 (telegram_after f j g t y).head)) (country-kept f.1 (lawful-head f.1 l) g t y.head)
    ∙ ap (λ v. identity (country_of y) v) (value_kept (head_after f.1 g t y.head) NidBg 0 y.head (number-kept f.1 l g t n y.head))

identity-each : (f : Item) → Lawful f.1 → (j : Id) → (g : Tag) → renames f.1 g ≡ false → (xs : Group) → identity_of (each (telegram_after f j g) xs) ≡ identity_of xs
identity-each f l j g n [] = refl
identity-each f l j g n (y ∷ ys) = identity_in-kept f l j g y.0 n y.1

identity-all : (i : Id) → (l : Group) → ((t : ℕ) → (y : Telegram) → find eqb t l ≡ Some y → identity_in y ≡ i) → (l ≡ [] → no_identity ≡ i) → identity_of l ≡ i
identity-all i [] h e = e refl
identity-all i (y ∷ ys) h e = let r = nat_test.itself y.0 in h y.0 y.1 (simp r)

not-empty : (xs : Group) → Distinct eqb xs → reverse xs ≡ [] → xs ≡ []
not-empty [] u e = refl
not-empty (y ∷ ys) u e = let r = nat_test.itself y.0 in
    let k : find eqb y.0 (reverse (y ∷ ys)) ≡ Some y.1 = find-reverse nat_test y.0 (y ∷ ys) u ∙ simp r in
    let d : find eqb y.0 (reverse (y ∷ ys)) ≡ None = ap (find eqb y.0) e in absurd (let w = sym k ∙ d in cc)

identity-reverse : (xs : Group) → Distinct eqb xs → ((t : ℕ) → (y : Telegram) → find eqb t xs ≡ Some y → identity_in y ≡ identity_of xs) →
    identity_of (reverse xs) ≡ identity_of xs
identity-reverse xs u h = identity-all (identity_of xs) (reverse xs) (λ t y e. h t y (sym (find-reverse nat_test t xs u) ∙ e)) (λ e. ap identity_of (sym (not-empty xs u e)))

order-reverse : (f : Item) → (j : Id) → (g : Tag) → (xs : Group) → renames f.1 g ≡ false → Lawful f.1 → Distinct eqb xs →
    ((t : ℕ) → (y : Telegram) → find eqb t xs ≡ Some y → identity_in y ≡ identity_of xs) → identity_of (group_after f j g xs) ≡ identity_of xs
order-reverse (serial1, TurnGroup g1) j g xs n l u h = split_on (same_tag g1 g)
    (λ e. simp e (ap identity_of (sym (each-reverse (telegram_after (serial1, TurnGroup g1) j g) xs)) ∙ identity-each (serial1, TurnGroup g1) l j g refl (reverse xs) ∙ identity-reverse xs u h))
    (λ e. simp e (identity-each (serial1, TurnGroup g1) l j g refl xs))
order-reverse f j g xs n l u h = identity-each f l j g n xs

-- the identity after is that before, or the edit changes both
pub identity-cases : (f : Item) → (plan : Plan) → Facts plan → Lawful f.1 → (g : Tag) → (xs : Group) → find same_tag g plan ≡ Some xs →
    (identity_of (group_after f (noted f.1 plan).own g xs) ≡ identity_of xs) ⊎ (In (Whose (identity_of xs) ∷ []) (changes (f, noted f.1 plan)) × In (Whose (identity_of (group_after f (noted f.1 plan).own g xs)) ∷ []) (changes (f, noted f.1 plan)))
identity-cases (serial1, Renumber g1 x) plan s l g xs h = split_on (same_tag g1 g) (λ e. here e xs h) (λ e. inl (identity-each (serial1, Renumber g1 x) l (noted (Renumber g1 x) plan).own g e xs)) where
  here : same_tag g1 g ≡ true → (xs : Group) → find same_tag g plan ≡ Some xs →
      (identity_of (group_after (serial1, Renumber g1 x) (noted (Renumber g1 x) plan).own g xs) ≡ identity_of xs) ⊎ (In (Whose (identity_of xs) ∷ []) (changes ((serial1, Renumber g1 x), noted (Renumber g1 x) plan)) × In (Whose (identity_of (group_after (serial1, Renumber g1 x) (noted (Renumber g1 x) plan).own g xs)) ∷ []) (changes ((serial1, Renumber g1 x), noted (Renumber g1 x) plan)))
  here e [] h = inl refl
  here e (y ∷ ys) h =
      let o : (noted (Renumber g1 x) plan).own ≡ identity_in y.1 = ap (λ u. (note_group (find same_tag u plan)).own) (tag_test.one g1 g e) ∙ ap (λ u. (note_group u).own) h in
      let j = (noted (Renumber g1 x) plan).own in
      let ck = country-kept (Renumber g1 x) tt g y.0 y.1.head in
      let vk = value-each (head_after (Renumber g1 x) g y.0 y.1.head) NidBg 0 y.1.head in
      found (find same_key (NidBg, 0) y.1.head)
      (λ n. inl (ap (λ c. identity c (value NidBg 0 (each (head_after (Renumber g1 x) g y.0 y.1.head) y.1.head))) ck ∙ ap (λ v. identity (country_of y.1) v) (vk ∙ simp n)))
      (λ v n. let a : identity_of (group_after (serial1, Renumber g1 x) j g (y ∷ ys)) ≡ (identity j.country x) =
      ap (λ c. identity c (value NidBg 0 (each (head_after (Renumber g1 x) g y.0 y.1.head) y.1.head))) ck ∙ ap (λ v. identity (country_of y.1) v) (vk ∙ simp (n, e)) ∙ ap (λ i. (identity i.country x)) (sym o) in
      inr (
        subst (λ i. In (Whose i ∷ []) (changes ((serial1, Renumber g1 x), noted (Renumber g1 x) plan))) o (later_of first_of),
        subst (λ i. In (Whose i ∷ []) (changes ((serial1, Renumber g1 x), noted (Renumber g1 x) plan))) (sym a) (later_of (later_of first_of)),
      ))
identity-cases e plan s l g xs h = inl (order-reverse e (noted e.1 plan).own g xs refl l (s.telegrams g xs h) (s.agree g xs h))

pub clash : (f : Item) → (m : Note) → (i : Id) → Clear (f, m) (Whose i ∷ []) → In (Whose i ∷ []) (changes (f, m)) → ⊥
clash f m i k h = both_ways (same_id i i) (drop1 (same_id i i) (k (Whose i ∷ []) h)) (id_test.itself i)

pub group-forward : (g : Tag) → (a : Part) → (f : Item) → (plan : Plan) → Facts plan → Lawful f.1 → Clear (f, noted f.1 plan) (At g ∷ a ∷ []) → (xs : Group) →
    find same_tag g plan ≡ Some xs → Clear (f, noted f.1 plan) (Whose (identity_of xs) ∷ []) →
    (find same_tag g (done f plan) ≡ Some (group_after f (noted f.1 plan).own g xs)) × (identity_of (group_after f (noted f.1 plan).own g xs) ≡ identity_of xs)
group-forward g a f plan s l k xs h c = (
  find-group f (noted f.1 plan).own g plan (spared-from f (noted f.1 plan) g a [] k) ∙ ap (option_map (group_after f (noted f.1 plan).own g)) h,
  ⊎_elim (λ e. e) (λ e. absurd (clash f (noted f.1 plan) (identity_of xs) c e.0)) (identity-cases f plan s l g xs h),
)

pub group-back : (g : Tag) → (a : Part) → (f : Item) → (plan : Plan) → Facts plan → Lawful f.1 → Clear (f, noted f.1 plan) (At g ∷ a ∷ []) → (zs : Group) →
    find same_tag g (done f plan) ≡ Some zs → Clear (f, noted f.1 plan) (Whose (identity_of zs) ∷ []) →
    (xs : Group) × (find same_tag g plan ≡ Some xs) × (zs ≡ group_after f (noted f.1 plan).own g xs) × (identity_of zs ≡ identity_of xs)
group-back g a f plan s l k zs h c =
    some_is (find same_tag g plan) (group_after f (noted f.1 plan).own g) zs (sym (find-group f (noted f.1 plan).own g plan (spared-from f (noted f.1 plan) g a [] k)) ∙ h)
    (λ xs e d. (xs, e, d, ap identity_of d ∙ ⊎_elim (λ q. q) (λ q. absurd (clash f (noted f.1 plan) (identity_of (group_after f (noted f.1 plan).own g xs)) (subst (λ u. Clear (f, noted f.1 plan) (Whose (identity_of u) ∷ [])) d c) q.1)) (identity-cases f plan s l g xs e)))

-- a turn, read
pub turn-forward : (serial : ℕ) → (g : Tag) → (f : Item) → (plan : Plan) → Facts plan → Accepted (TurnGroup g) plan → Lawful f.1 →
    Reads ((serial, TurnGroup g), noted (TurnGroup g) plan) (f, noted f.1 plan) → Forward (serial, TurnGroup g) f plan
turn-forward serial g f plan s a l r =
    let n = ap note_group a.1.1 in
    let k = group-forward g Turn f plan s l (r (At g ∷ Turn ∷ []) first_of) a.1.0 a.1.1 (subst (λ u. Clear (f, noted f.1 plan) (Whose u.own ∷ [])) n (r (Whose (noted (TurnGroup g) plan).own ∷ []) (later_of first_of))) in
    ((tt, (group_after f (noted f.1 plan).own g a.1.0, k.0)), ap note_group k.0 ∙ ap (λ i. record nothing { old = i.number; own = i }) k.1 ∙ sym n)

pub turn-back : (serial : ℕ) → (g : Tag) → (f : Item) → (plan : Plan) → Facts plan → Accepted (TurnGroup g) (done f plan) → Lawful f.1 →
    Reads ((serial, TurnGroup g), noted (TurnGroup g) (done f plan)) (f, noted f.1 plan) → Back (serial, TurnGroup g) f plan
turn-back serial g f plan s a l r =
    let n = ap note_group a.1.1 in
    let k = group-back g Turn f plan s l (r (At g ∷ Turn ∷ []) first_of) a.1.0 a.1.1 (subst (λ u. Clear (f, noted f.1 plan) (Whose u.own ∷ [])) n (r (Whose (noted (TurnGroup g) (done f plan)).own ∷ []) (later_of first_of))) in
    ((tt, (k.0, k.1)), ap note_group k.1 ∙ ap (λ i. record nothing { old = i.number; own = i }) (sym k.3) ∙ sym n)
