-- What turning a group makes of a plan and of its indexes.
use Rattle.std.proofs.Common.{◌≡◌, ℕ, Bool, true, false, cond, eqb, not, ◌&&◌, reverse, Option, Some, None, refl, sym, ap, subst, ◌∙◌}
use Rattle.std.specs.Option.{option_map}
use Rattle.std.specs.BTreeSet as set
use Rattle.std.proofs.lemmas.Bool.{ne_eqb, false_from_ne_true, true≢false}
use Rattle.std.proofs.lemmas.Iterator.Adapters.{option_map_id}
use Rattle.balise_rules.specs.declared.tag.Tag.{Tag}
use Rattle.balise_rules.specs.declared.identity.Id.{Id}
use Rattle.balise_rules.specs.declared.variable.Var.TheVariants.{NidC, QDir, QLinkorientation}
use Rattle.balise_rules.specs.Tagged.{find, each, Distinct}
use Rattle.balise_rules.specs.Tags.{same_tag, same_id}
use Rattle.balise_rules.specs.Plan.{Group, IsSound, reserved, country_of, telegram_at, identity_of, group_named}
use Rattle.balise_rules.specs.Plan as rules
use Rattle.balise_rules.specs.Names.{is_real}
use Rattle.balise_rules.specs.Accepting.{Accepted}
use Rattle.balise_rules.specs.Notes.{note_group}
use Rattle.balise_rules.specs.Edits.{effect, field_after, telegram_after, head_after, group_after}
use Rattle.balise_rules.specs.declared.tagged_edit.TaggedEdit.TheVariants.{TurnGroup}
use Rattle.balise_rules.proofs.Tests.{tag_test, nat_test}
use Rattle.balise_rules.proofs.Lists.{find-each}
use Rattle.balise_rules.proofs.Distincts.{distinct-each}
use Rattle.balise_rules.proofs.Found.{group_sound}
use Rattle.balise_edit_laws.proofs.Naming.{no_group_from, no_group_to}
use Rattle.balise_edit_laws.proofs.Refusing.{refused_exactly}
use Rattle.balise_rules.proofs.Reversed.{find-reverse}
use Rattle.balise_edit_laws.proofs.SoundKept.{groups_kept, sound_parts}
use Rattle.balise_index.specs.declared.link_place.LinkPlace.{LinkPlace}
use Rattle.balise_plan.specs.declared.links.change.Change.TheVariants.{Flip}
use Rattle.balise_index.specs.NameIndex.{in_links, indexed, IndexOf}
use Rattle.balise_plan.specs.Links.{named_at}
use Rattle.balise_plan.specs.Walks.{change_all, places_of, turned_in}
use Rattle.balise_plan.specs.Held.{IsHeld, tag_named}
use Rattle.balise_plan.proofs.naming.Walking.{among_after, change-all, all-same, all-flip, found-each}
use Rattle.balise_index.specs.Places.{among, Once}
use Rattle.balise_plan.proofs.renumbering.Fields.{keyed}
use Rattle.balise_plan.proofs.plans.Outcomes.{Outcome}
use Rattle.balise_plan.proofs.renumbering.Plans.{not_other}
use Rattle.balise_plan.proofs.turned.Fields.{turn-is}
use Rattle.balise_plan.proofs.naming.Identities.{id_at, is_the, named-is, id-after, tag-named, named-found}

-- the tag of an identity, where a group has it before and afterwards
pub tags-same : (plan new : rules.Plan) → IsSound plan → IsSound new → (q : Id) →
    ((g : Tag) (ys : Group) → find same_tag g plan ≡ Some ys → same_id (identity_of ys) q ≡ true → (zs : Group) × (find same_tag g new ≡ Some zs) × (same_id (identity_of zs) q ≡ true)) →
    ((g : Tag) (zs : Group) → find same_tag g new ≡ Some zs → same_id (identity_of zs) q ≡ true → (ys : Group) × (find same_tag g plan ≡ Some ys) × (same_id (identity_of ys) q ≡ true)) →
    tag_named q new ≡ tag_named q plan
tags-same plan new s t q to from = by (group_named q plan) refl
  where
    by : (o : Option (Tag × Group)) → group_named q plan ≡ o → tag_named q new ≡ option_map (λ (y : Tag × Group). y.0) (group_named q plan)
    by None e =
        ap (option_map (λ (y : Tag × Group). y.0)) (no_group_to q new t.tags (λ g zs h. false_from_ne_true (same_id (identity_of zs) q) (λ m. let w = from g zs h m in true≢false (sym w.2 ∙ no_group_from q plan e g w.0 w.1)))
        ∙ sym e)
    by (Some y) e =
        let h = named-found q plan s.tags y e in
        let w = to y.0 y.1 h.0 h.1 in
        tag-named q new t y.0 w.0 w.1 w.2 ∙ sym (ap (option_map (λ (y : Tag × Group). y.0)) e)

-- ---- any edit that keeps each group's identity

module _ (plan new : rules.Plan) (sound : IsSound plan) (new_sound : IsSound new) (F : Tag → Group → Group) (is : new ≡ each F plan) (kept : (g : Tag) (ys : Group) → find same_tag g plan ≡ Some ys → identity_of (F g ys) ≡ identity_of ys) where
  new_here : (g : Tag) (ys : Group) → find same_tag g plan ≡ Some ys → find same_tag g new ≡ Some (F g ys)
  new_here g ys e = ap (find same_tag g) is ∙ find-each tag_test F g plan ∙ ap (option_map (F g)) e

  pub tags-kept : (q : Id) → tag_named q new ≡ tag_named q plan
  tags-kept q =
      tags-same plan new sound new_sound q (λ g ys e m. (F g ys, new_here g ys e, ap (λ u. same_id u q) (kept g ys e) ∙ m))
      (λ g zs h m. found-each tag_test F g zs plan (ap (find same_tag g) (sym is) ∙ h) (λ ys f z. (ys, f, ap (λ u. same_id u q) (sym (kept g ys f)) ∙ ap (λ u. same_id (identity_of u) q) (sym z) ∙ m)))

-- ---- turning

module _ (plan : rules.Plan) (ids : IndexOf Tag) (names : IndexOf (set.BTreeSet LinkPlace)) (held_is : IsHeld ids names plan) (g0 : Tag) (ys0 : Group) (here : find same_tag g0 plan ≡ Some ys0) where
  accepted : Accepted (TurnGroup g0) plan
  accepted = (tt, (ys0, here))

  abbrev new : rules.Plan
  new = effect (0, TurnGroup g0) (identity_of ys0) plan

  new_sound : IsSound new
  new_sound = sound_parts (0, TurnGroup g0) (identity_of ys0) plan held_is.sound accepted (λ g t y h. tt)

  telegram-turned : (g : Tag) (t : ℕ) → telegram_at g t new ≡ option_map (telegram_after (0, TurnGroup g0) (identity_of ys0) g t) (telegram_at g t plan)
  telegram-turned g t = by (find same_tag g plan) refl
    where
      either : (b : Bool) (zs : Group) → Distinct eqb zs → find eqb t (cond b (reverse zs) zs) ≡ find eqb t zs
      either true zs u = find-reverse nat_test t zs u
      either false zs u = refl

      by : (o : Option Group) → find same_tag g plan ≡ o → telegram_at g t new ≡ option_map (telegram_after (0, TurnGroup g0) (identity_of ys0) g t) (telegram_at g t plan)
      by None e = let a : find same_tag g new ≡ None = find-each tag_test _ g plan ∙ ap (option_map _) e in simp (a, e)
      by (Some ys) e =
          let a : find same_tag g new ≡ Some (group_after (0, TurnGroup g0) (identity_of ys0) g ys) = find-each tag_test _ g plan ∙ ap (option_map (group_after (0, TurnGroup g0) (identity_of ys0) g)) e in
          let s = group_sound plan held_is.sound g ys e in
          simp (a, e) (either (same_tag g0 g) (each (telegram_after (0, TurnGroup g0) (identity_of ys0) g) ys) (distinct-each nat_test _ ys s.tags) ∙ find-each nat_test (telegram_after (0, TurnGroup g0) (identity_of ys0) g) t ys)

  id_new : (w : LinkPlace) → id_at w new ≡ id_at w plan
  id_new w =
      id-after w (λ j. j) (λ y. head_after (TurnGroup g0) w.group w.telegram y.head) (λ y p x. field_after (TurnGroup g0) (identity_of ys0) w.group w.telegram (country_of y) p x.fields) plan new (telegram-turned w.group w.telegram)
      (λ y v. refl)
      (λ y p x key v e. let n = not_other NidC QLinkorientation key refl e in let m = not_other NidC QDir key refl e in simp (n, m))
      (λ y p x k v. refl)
      ∙ option_map_id (id_at w plan)

  kept : (g : Tag) (ys : Group) → find same_tag g plan ≡ Some ys → identity_of (group_after (0, TurnGroup g0) (identity_of ys0) g ys) ≡ identity_of ys
  kept g ys e = (groups_kept (0, TurnGroup g0) (identity_of ys0) plan held_is.sound accepted (λ g t y h. tt) g ys e).identity

  new_held : IsHeld ids names new
  new_held = record {
    sound = new_sound;
    tags = λ q. held_is.tags q ∙ sym (tags-kept plan new held_is.sound new_sound (group_after (0, TurnGroup g0) (identity_of ys0)) refl kept q);
    named = λ q w. held_is.named q w ∙ named-is q w plan ∙ ap (λ o. is_real q && is_the q o) (sym (id_new w)) ∙ sym (named-is q w new);
  }

  real : is_real (identity_of ys0) ≡ true
  real = ap not (ne_eqb (identity_of ys0).number reserved (group_sound plan held_is.sound g0 ys0 here).number)

  among_is : (w : LinkPlace) → among w (places_of (indexed names (identity_of ys0))) ≡ named_at (identity_of ys0) w plan
  among_is w = in-places (indexed names (identity_of ys0)) ∙ held_is.named (identity_of ys0) w
    where
      in-places : (o : Option (set.BTreeSet LinkPlace)) → among w (places_of o) ≡ in_links o w
      in-places None = refl
      in-places (Some s) = refl

  turned : (walked groups : rules.Plan) → Once (places_of (indexed names (identity_of ys0))) → walked ≡ change_all Flip (places_of (indexed names (identity_of ys0))) plan → groups ≡ turned_in g0 walked → Outcome (TurnGroup g0) ids names plan groups
  turned walked groups once links heads =
      let ws = places_of (indexed names (identity_of ys0)) in
      let e : groups ≡ new = heads ∙ ap (turned_in g0) (links ∙ change-all Flip ws plan (keyed plan held_is.sound) ∙ all-same _ (among_after Flip ws) (λ g t p key v. all-flip ws once g t p key v) plan)
      ∙ turn-is 0 g0 (identity_of ys0) ws plan held_is.sound real among_is in
      record {
        accepted = (refused_exactly (TurnGroup g0) plan held_is.sound).1 accepted;
        is = e ∙ ap (λ o. effect (0, TurnGroup g0) (note_group o).own plan) (sym here);
        held = subst (IsHeld ids names) (sym e) new_held;
      }

  -- the same of the identity that the code has
  pub turn : (own : Id) → own ≡ identity_of ys0 → (walked groups : rules.Plan) → Once (places_of (indexed names own)) → walked ≡ change_all Flip (places_of (indexed names own)) plan → groups ≡ turned_in g0 walked → Outcome (TurnGroup g0) ids names plan groups
  turn own e walked groups once links heads =
      turned walked groups (subst (λ i. Once (places_of (indexed names i))) e once) (links ∙ ap (λ i. change_all Flip (places_of (indexed names i)) plan) e) heads
