-- What taking a group out makes of a plan and of its indexes.
use Rattle.std.proofs.Common.{◌≡◌, Bool, false, cond, eqb, ◌&&◌, Option, Some, None, sym, ap, subst, ◌∙◌, arith, true}
use Rattle.std.specs.Prelude.{option_and_then, is_none}
use Rattle.std.specs.Option.{option_map}
use Rattle.std.specs.BTreeSet as set
use Rattle.std.specs.Map.{remove_entry}
use Rattle.std.proofs.lemmas.Bool.{true≢false}
use Rattle.balise_rules.specs.declared.tag.Tag.{Tag}
use Rattle.balise_rules.specs.declared.identity.Id.{Id}
use Rattle.balise_rules.specs.Tagged.{find, behind, without}
use Rattle.balise_rules.specs.Tags.{same_tag, same_id}
use Rattle.balise_rules.specs.Plan.{Group, IsSound, IsSoundGroup, identity_of}
use Rattle.balise_rules.specs.Plan as rules
use Rattle.balise_rules.specs.Names.{is_real}
use Rattle.balise_rules.specs.Doing.{when}
use Rattle.balise_rules.specs.declared.tagged_edit.TaggedEdit.TheVariants.{DropGroup}
use Rattle.balise_rules.specs.Notes.{noted, note_drop}
use Rattle.balise_rules.specs.declared.refusal.Refusal.TheVariants.{NoSuchGroup}
use Rattle.balise_rules.proofs.Tests.{split_keys, test-sym, tag_test, id_test}
use Rattle.balise_rules.proofs.Cases.{unsome}
use Rattle.balise_rules.proofs.Lists.{find-without, find-without_same}
use Rattle.balise_rules.proofs.Distincts.{distinct-without}
use Rattle.balise_rules.proofs.AllItems.{all-without}
use Rattle.balise_rules.proofs.Found.{group_sound}
use Rattle.balise_edit_laws.proofs.Naming.{no_group_to}
use Rattle.balise_edit_laws.proofs.Identities.{differ_apart, apart_differ, apart_without}
use Rattle.balise_index.specs.declared.link_place.LinkPlace.{LinkPlace}
use Rattle.balise_index.specs.NameIndex.{held, indexed, IndexOf}
use Rattle.balise_index.specs.Identities.{is_id}
use Rattle.balise_plan.specs.Links.{named_at, named_in_telegram}
use Rattle.balise_plan.specs.GroupLinks.{links_in_group, SetsAll}
use Rattle.balise_plan.specs.Held.{IsHeld, tag_named}
use Rattle.balise_plan.proofs.plans.Outcomes.{Outcome}
use Rattle.balise_index.proofs.identities.Equal.{id_is}
use Rattle.balise_plan.proofs.naming.OfGroup.{listed-names}
use Rattle.balise_plan.proofs.items.KeyPlaces.{removed-without}
use Rattle.balise_plan.proofs.turned.Plans.{tags-same}

-- the tag of an identity that no group has
pub no-tag : (i : Id) (plan : rules.Plan) → IsSound plan → ((g : Tag) (ys : Group) → find same_tag g plan ≡ Some ys → same_id (identity_of ys) i ≡ false) → tag_named i plan ≡ None
no-tag i plan s h = ap (option_map (λ (y : Tag × Group). y.0)) (no_group_to i plan s.tags h)

dropped-sound : (g : Tag) (plan : rules.Plan) → IsSound plan → IsSound (without same_tag g plan)
dropped-sound g plan s =
    let u = distinct-without same_tag g plan s.tags in
    record {
      tags = u;
      identities = apart_differ (without same_tag g plan) u (apart_without g plan (differ_apart plan s.identities));
      groups = all-without IsSoundGroup same_tag g plan s.groups;
    }

module _ (plan : rules.Plan) (ids : IndexOf Tag) (names : IndexOf (set.BTreeSet LinkPlace)) (held_is : IsHeld ids names plan) (g : Tag) (ys : Group) (here : find same_tag g plan ≡ Some ys) where
  abbrev rest : rules.Plan
  rest = without same_tag g plan

  group-is : IsSoundGroup ys
  group-is = group_sound plan held_is.sound g ys here

  -- what is found without the group was found, and isn't the group
  was : (h : Tag) (zs : Group) → find same_tag h rest ≡ Some zs → (find same_tag h plan ≡ Some zs) × (same_tag h g ≡ false)
  was h zs e =
      split_keys tag_test h g
      (λ d q. absurd (let w = sym e ∙ ap (λ u. find same_tag u rest) q ∙ find-without_same same_tag g plan in cc))
      (λ d. (sym (find-without tag_test h g d plan) ∙ e, d))

  tags-dropped : (q : Id) → tag_named q rest ≡ cond (same_id (identity_of ys) q) None (tag_named q plan)
  tags-dropped q =
      split_keys id_test (identity_of ys) q
      (λ a k. simp a (no-tag q rest (dropped-sound g plan held_is.sound) (λ h zs e.
      let w = was h zs e in ap (same_id (identity_of zs)) (sym k) ∙ differ_apart plan held_is.sound.identities h g zs ys w.0 here w.1)))
      (λ a. simp a (tags-same plan rest held_is.sound (dropped-sound g plan held_is.sound) q
      (λ h zs e m.
      let d : same_tag h g ≡ false = split_keys tag_test h g
      (λ d k. absurd (let w : zs ≡ ys = unsome (sym e ∙ ap (λ u. find same_tag u plan) k ∙ here) in true≢false (sym m ∙ ap (λ u. same_id (identity_of u) q) w ∙ a))) (λ d. d) in
      (zs, find-without tag_test h g d plan ∙ e, m))
      (λ h zs e m. (zs, (was h zs e).0, m))))

  names-dropped : (after : IndexOf (set.BTreeSet LinkPlace)) → SetsAll false (links_in_group g ys) names after → (q : Id) (w : LinkPlace) → held after q w ≡ named_at q w rest
  names-dropped after f q w =
      f q w ∙ ap (λ b. cond b false (held names q w)) (listed-names g ys group-is q w) ∙ ap (cond (is_real q && (same_tag g w.group && there)) false) (held_is.named q w)
      ∙ taken (is_real q) (same_tag g w.group) there (named_at q w plan) (named_at q w rest)
      (λ d. ap named (ap (λ u. find same_tag u plan) (sym (tag_test.one g w.group d)) ∙ here))
      (λ d. ap named (ap (λ u. find same_tag u rest) (sym (tag_test.one g w.group d)) ∙ find-without_same same_tag g plan))
      (λ d. ap named (find-without tag_test w.group g (test-sym tag_test w.group g ∙ d) plan))
    where
      there : Bool
      there = named_in_telegram q w (find eqb w.telegram ys)

      named : Option Group → Bool
      named o = is_real q && named_in_telegram q w (option_and_then (find eqb w.telegram) o)

      taken : (r s x old new : Bool) → (s ≡ true → old ≡ (r && x)) → (s ≡ true → new ≡ (r && false)) → (s ≡ false → new ≡ old) → cond (r && (s && x)) false old ≡ new
      taken r s x old new h k l = grind arith

  module _ (after : IndexOf (set.BTreeSet LinkPlace)) (forgets : SetsAll false (links_in_group g ys) names after) (i : Id) (is_own : i ≡ identity_of ys) (left : IndexOf Tag) (out : (q : Id) → indexed left q ≡ cond (is_id i q) None (indexed ids q)) where
    -- the group is taken out of the plan and of both indexes
    pub dropped : Outcome (DropGroup g) left after plan (remove_entry (same_tag g) plan)
    dropped =
        let e = removed-without tag_test g plan held_is.sound.tags in
        record {
          accepted = ap (λ o. when (is_none o) NoSuchGroup) here;
          is = e;
          held = subst (IsHeld left after) (sym e) (record {
            sound = dropped-sound g plan held_is.sound;
            tags = λ q. out q ∙ ap (λ j. cond (is_id j q) None (indexed ids q)) is_own ∙ ap (λ b. cond b None (indexed ids q)) (id_is (identity_of ys) q)
                ∙ ap (cond (same_id (identity_of ys) q) None) (held_is.tags q) ∙ sym (tags-dropped q);
            named = names-dropped after forgets;
          });
        }

  pub noted-group : (noted (DropGroup g) plan).group ≡ Some ys
  noted-group = ap (λ o. (note_drop (behind same_tag g plan) o).group) here

  pub noted-before : (noted (DropGroup g) plan).before ≡ behind same_tag g plan
  noted-before = ap (λ o. (note_drop (behind same_tag g plan) o).before) here
