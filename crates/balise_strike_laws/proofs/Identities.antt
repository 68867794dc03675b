-- Names and groups of the plan, before and after any edit.
-- Proves that an identity that an edit neither changes nor needs is named, or is a group's, before it exactly where it is after it.
-- From the names in telegrams, and the added and the dropped group, whose names and identity are noted.
use Rattle.std.proofs.Common.{◌≡◌, ℕ, ◌⊎◌, inl, inr, ⊎_elim, true, false, eqb, [], ◌∷◌, ◌++◌, Some, None, sym, ap, subst, ◌∙◌}
use Rattle.std.specs.Option.{option_map}
use Rattle.balise_rules.specs.declared.tag.Tag.{Tag}
use Rattle.balise_rules.specs.declared.tag.Tag.TheVariants.{Fresh}
use Rattle.balise_rules.specs.declared.identity.Id.{Id}
use Rattle.balise_rules.specs.Tagged.{find, behind, put, without}
use Rattle.balise_rules.specs.Tags.{same_tag, same_id}
use Rattle.balise_rules.specs.Telegram.{Telegram}
use Rattle.balise_rules.specs.Plan.{Group, Plan, identity_of, telegram_at}
use Rattle.balise_rules.specs.Names.{is_real, names_in}
use Rattle.balise_rules.specs.Edits.{Edit, Item, group_of, group_after, telegram_after}
use Rattle.balise_rules.specs.declared.tagged_edit.TaggedEdit.TheVariants.{AddGroup, DropGroup}
use Rattle.balise_rules.specs.Notes.{Note, note_drop, noted}
use Rattle.balise_rules.specs.Doing.{done}
use Rattle.balise_rules.specs.Accepting.{NoName, NoGroup, Accepted, Unused}
use Rattle.balise_rules.specs.Paths.{Whose, Path, meet, changes, needs}
use Rattle.balise_rules.proofs.Tests.{split_keys, tag_test}
use Rattle.balise_rules.proofs.Lists.{find-without_same}
use Rattle.balise_rules.proofs.Cases.{unsome, some_is}
use Rattle.balise_rules.proofs.Anchors.{find-put_same}
use Rattle.balise_strike_laws.proofs.Places.{In, first_of, later_of, in-left, in-right, in-ids}
use Rattle.balise_strike_laws.proofs.Facts.{Facts}
use Rattle.balise_strike_laws.proofs.Named.{whose_apart}
use Rattle.balise_strike_laws.proofs.Kept.{real-apart}
use Rattle.balise_strike_laws.proofs.Locals.{GroupSpared, find-group, telegram-done}
use Rattle.balise_strike_laws.proofs.Groups.{identity-cases}
use Rattle.balise_strike_laws.proofs.NamesThere.{InTelegram, InPlan, no-name-from, no-name-at, Touched, group-names, telegram-back, telegram-forward}

-- and the groups
abbrev pub GroupSpecial : Item → Note → Plan → Plan → Tag → Type 0
GroupSpecial f m plan plan1 g = ((t : ℕ) → (y : Telegram) → telegram_at g t plan ≡ Some y → (q : Id) → InTelegram y q → Touched (f, m) q) ×
    ((t : ℕ) → (y : Telegram) → telegram_at g t plan1 ≡ Some y → (q : Id) → InTelegram y q → Touched (f, m) q) ×
    ((xs : Group) → find same_tag g plan ≡ Some xs → In (Whose (identity_of xs) ∷ []) (changes (f, m))) × ((xs : Group) → find same_tag g plan1 ≡ Some xs → In (Whose (identity_of xs) ∷ []) (changes (f, m)))

group-special : (plan : Plan) → (f : Item) → Accepted f.1 plan → Unused f.0 plan → (g : Tag) → GroupSpared f g ⊎ GroupSpecial f (noted f.1 plan) plan (done f plan) g
group-special plan (s1, AddGroup a1 bs1) a un g = split_keys tag_test g (Fresh s1)
    (λ d r0. let r : Fresh s1 ≡ g = sym r0 in let there : find same_tag g (put same_tag a1 (Fresh s1, group_of bs1) plan) ≡ Some (group_of bs1) = ap (λ u. find same_tag u (put same_tag a1 (Fresh s1, group_of bs1) plan)) (sym r) ∙ find-put_same a1 (Fresh s1, group_of bs1) plan a.1.0 un.groups in
    let none : find same_tag g plan ≡ None = ap (λ u. find same_tag u plan) (sym r) ∙ un.groups in
    inr (
      (λ t y h q w. absurd (let k = simp none at h in cc)),
      (λ t y h q w n. let k : find eqb t (group_of bs1) ≡ Some y = simp there at h in
          in-right (Whose q ∷ []) (changes ((s1, AddGroup a1 bs1), noted (AddGroup a1 bs1) plan)) (needs ((s1, AddGroup a1 bs1), noted (AddGroup a1 bs1) plan)) (in-ids q (names_in (group_of bs1)) (group-names (group_of bs1) t y k q w n))),
      (λ xs h. absurd (let b = sym none ∙ h in cc)),
      (λ xs h. let k : Some (group_of bs1) ≡ Some xs = sym there ∙ h in subst (λ u. In (Whose (identity_of u) ∷ []) (changes ((s1, AddGroup a1 bs1), noted (AddGroup a1 bs1) plan))) (unsome k) (later_of (later_of first_of))),
    ))
    (λ d. inl d)
group-special plan (serial1, DropGroup g1) a un g = split_keys tag_test g g1
    (λ d r0. let r : g1 ≡ g = sym r0 in let gone : find same_tag g (without same_tag g1 plan) ≡ None = ap (λ u. find same_tag g (without same_tag u plan)) r ∙ find-without_same same_tag g plan in
    let f1 : Edit = DropGroup g1 in
    inr (
      (λ t y h q w n. let st : find same_tag g plan ≡ Some a.1.0 = ap (λ u. find same_tag u plan) (sym r) ∙ a.1.1 in
          let k : find eqb t a.1.0 ≡ Some y = simp st at h in
          let ns : (noted (DropGroup g1) plan).names ≡ names_in a.1.0 = ap (λ u. (note_drop (behind same_tag g1 plan) u).names) a.1.1 in
          in-right (Whose q ∷ []) (changes ((serial1, DropGroup g1), noted (DropGroup g1) plan)) (needs ((serial1, DropGroup g1), noted (DropGroup g1) plan)) (in-ids q (noted (DropGroup g1) plan).names (rw ns (group-names a.1.0 t y k q w n)))),
      (λ t y h q w. absurd (let k = simp gone at h in cc)),
      (λ xs h. let k : Some a.1.0 ≡ Some xs = sym a.1.1 ∙ ap (λ u. find same_tag u plan) r ∙ h in
          let o : (noted (DropGroup g1) plan).own ≡ identity_of xs = ap (λ u. (note_drop (behind same_tag g1 plan) u).own) a.1.1 ∙ ap identity_of (unsome k) in
          subst (λ u. In (Whose u ∷ []) (changes ((serial1, DropGroup g1), noted (DropGroup g1) plan))) o (later_of (later_of first_of))),
      (λ xs h. absurd (let b = sym gone ∙ h in cc)),
    ))
    (λ d. inl d)
group-special plan f a un g = inl tt

module _ (plan : Plan) (s : Facts plan) (f : Item) (a : Accepted f.1 plan) (un : Unused f.0 plan) where
  pub names-back : (q : Id) → InPlan plan q → InPlan (done f plan) q ⊎ Touched (f, noted f.1 plan) q
  names-back q (g, t, y, at, w) = ⊎_elim
      (λ n. ⊎_elim (λ r. inl (g, t, telegram_after f (noted f.1 plan).own g t y, telegram-done f (noted f.1 plan).own g t plan s n ∙ ap (option_map (telegram_after f (noted f.1 plan).own g t)) at, r)) (λ r. inr r)
      (telegram-back plan s f a un g t y at q w))
      (λ n. inr (n.0 t y at q w))
      (group-special plan f a un g)

  pub names-forward : (q : Id) → InPlan (done f plan) q → InPlan plan q ⊎ Touched (f, noted f.1 plan) q
  names-forward q (g, t, z, at, w) = ⊎_elim
      (λ n. some_is (telegram_at g t plan) (telegram_after f (noted f.1 plan).own g t) z (sym (telegram-done f (noted f.1 plan).own g t plan s n) ∙ at)
      (λ y h d. ⊎_elim (λ r. inl (g, t, y, h, r)) (λ r. inr r) (telegram-forward plan s f a un g t y h q (subst (λ u. InTelegram u q) d w))))
      (λ n. inr (n.1 t z at q w))
      (group-special plan f a un g)

  -- an identity that f neither changes nor needs
  module _ (i : Id) (real_i : is_real i ≡ true) (clear : (pl : Path) → In pl (changes (f, noted f.1 plan) ++ needs (f, noted f.1 plan)) → meet (Whose i ∷ []) pl ≡ false) where
    other : (q : Id) → Touched (f, noted f.1 plan) q → same_id q i ≡ false
    other q h = real-apart q i real_i (λ n. whose_apart i q (clear (Whose q ∷ []) (h n)))

    other-changed : (q : Id) → In (Whose q ∷ []) (changes (f, noted f.1 plan)) → same_id q i ≡ false
    other-changed q h = whose_apart i q (clear (Whose q ∷ []) (in-left (Whose q ∷ []) (changes (f, noted f.1 plan)) (needs (f, noted f.1 plan)) h))

    pub no-name-back : NoName i (done f plan) → NoName i plan
    no-name-back h = no-name-from i plan (λ q w. ⊎_elim (λ r. no-name-at i real_i (done f plan) h q r) (λ r. other q r) (names-back q w))

    pub no-name-forward : NoName i plan → NoName i (done f plan)
    no-name-forward h = no-name-from i (done f plan) (λ q w. ⊎_elim (λ r. no-name-at i real_i plan h q r) (λ r. other q r) (names-forward q w))

    pub no-group-back : NoGroup i (done f plan) → NoGroup i plan
    no-group-back h g xs e = ⊎_elim
        (λ n. ⊎_elim (λ r. ap (λ u. same_id u i) (sym r) ∙ h g (group_after f (noted f.1 plan).own g xs) (find-group f (noted f.1 plan).own g plan n ∙ ap (option_map (group_after f (noted f.1 plan).own g)) e)) (λ r. other-changed (identity_of xs) r.0) (identity-cases f plan s a.0 g xs e))
        (λ n. other-changed (identity_of xs) (n.2 xs e))
        (group-special plan f a un g)

    pub no-group-forward : NoGroup i plan → NoGroup i (done f plan)
    no-group-forward h g zs e = ⊎_elim
        (λ n. some_is (find same_tag g plan) (group_after f (noted f.1 plan).own g) zs (sym (find-group f (noted f.1 plan).own g plan n) ∙ e)
        (λ xs e1 d. ap (λ u. same_id (identity_of u) i) d ∙ ⊎_elim (λ r. ap (λ u. same_id u i) r ∙ h g xs e1) (λ r. other-changed (identity_of (group_after f (noted f.1 plan).own g xs)) r.1) (identity-cases f plan s a.0 g xs e1)))
        (λ n. other-changed (identity_of zs) (n.3 zs e))
        (group-special plan f a un g)
