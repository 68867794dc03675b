use Rattle.std.proofs.Common.{rules, ◌≡◌, ◌∙◌, position, option_map, slice_get, sym, ap, subst, Some, None, false}
use Rattle.std.specs.Map.{keys_of, remove_entry}
use Rattle.balise_rules.specs.declared.tag.Tag.{Tag}
use Rattle.balise_rules.specs.Tagged.{behind}
use Rattle.balise_rules.specs.Tags.{same_tag}
use Rattle.balise_rules.specs.declared.tagged_edit.TaggedEdit.TheVariants.{DropGroup}
use Rattle.balise_rules.specs.Notes.{noted}
use Rattle.balise_rules.specs.Plan.{Group, IsSoundGroup}
use Rattle.balise_rules.proofs.Cases.{unsome}
use Rattle.balise_index.specs.NameIndex.{names_of, tags_of, Updates}
use Rattle.balise_plan.specs.GroupLinks.{links_in_group, SetsAll}
use Rattle.balise_plan.proofs.groups.Dropped.{dropped, noted-group, noted-before}
use Rattle.balise_plan.proofs.items.KeyPlaces.{at-key, behind-place}
use Rattle.balise_plan.proofs.plans.Pushed.{changed-to}
use Rattle.balise_plan.proofs.plans.Outcomes.{Outcome, does, of-plan}
use Rattle.balise_plan.proofs.plan.Plan.take_group.Goals as goal
use Rattle.balise_plan.proofs.plan.Plan.take_group.Goals.{After-remove}

-- what is left once the group, its names and its identity are gone
left : (c : After-remove) → Outcome (DropGroup c.args.g) (tags_of c.forget_tag.new.self) (names_of c.forget_tag.new.self) c.self.inside.groups.entries (remove_entry (same_tag c.args.g) c.self.inside.groups.entries)
left c =
    let ids = tags_of c.self.inside.index in
    let gone : Updates (tags_of c.forget_group.new.index) (tags_of c.forget_tag.new.self) c.sound_identity-own.result None = search rules in
    let out = subst (λ t. Updates t (tags_of c.forget_tag.new.self) c.sound_identity-own.result None) c.forget_group.ensures.tags (λ q. gone q) in
    let forgets = subst (SetsAll false (links_in_group c.args.g c.in-Some.group.now) (names_of c.self.inside.index)) (sym c.forget_tag.ensures.names) c.forget_group.ensures.forgotten in
    dropped c.self.inside.groups.entries ids (names_of c.self.inside.index) c.self.invariant.held c.args.g c.in-Some.group.now (sym c.in-Some.ensures.value) (names_of c.forget_tag.new.self) forgets c.sound_identity-own.result c.sound_identity-own.ensures.is (tags_of c.forget_tag.new.self) (λ q. out q)

pub invariant_of-self : goal.invariant_of-self
invariant_of-self c = changed-to c.self.inside.changes c.remove.ensures.entries (left (goal.at.invariant_of-self c).After-remove).held

pub returns-clause-does : goal.returns-clause-does
returns-clause-does c = does (DropGroup c.args.g) c.self.view_is c.remove.ensures.entries (left (goal.at.returns-clause-does c).After-remove)

pub returns-clause-taken : goal.returns-clause-taken
returns-clause-taken c =
    let plan = c.self.inside.groups.entries in
    let u : c.remove.result ≡ Some c.unwrap-i.result = search rules in
    let group : Some c.unwrap-i.result.1 ≡ Some c.in-Some.group.now = sym (ap (option_map (λ p. p.1)) u) ∙ c.remove.ensures.value ∙ sym c.in-Some.ensures.value in
    let place : position (same_tag c.args.g) (keys_of plan) ≡ Some c.unwrap-i.result.0 = sym c.remove.ensures.place ∙ ap (option_map (λ p. p.0)) u in
    let next : c.tag_at-before.result ≡ behind same_tag c.args.g plan = c.tag_at-before.ensures ∙ ap (λ xs. option_map (λ (p : Tag × Group). p.0) (slice_get xs c.unwrap-i.result.0)) c.remove.ensures.entries ∙ behind-place same_tag c.args.g plan c.unwrap-i.result.0 (at-key (same_tag c.args.g) plan c.unwrap-i.result.0 place) in (
      of-plan (λ gs. (noted (DropGroup c.args.g) gs).group ≡ Some c.unwrap-i.result.1) c.self.view_is (noted-group c.self.inside.groups.entries (tags_of c.self.inside.index) (names_of c.self.inside.index) c.self.invariant.held c.args.g c.in-Some.group.now (sym c.in-Some.ensures.value) ∙ sym group),
      of-plan (λ gs. (noted (DropGroup c.args.g) gs).before ≡ c.tag_at-before.result) c.self.view_is (noted-before c.self.inside.groups.entries (tags_of c.self.inside.index) (names_of c.self.inside.index) c.self.invariant.held c.args.g c.in-Some.group.now (sym c.in-Some.ensures.value) ∙ sym next),
    )

pub returns-clause-sound : goal.returns-clause-sound
returns-clause-sound c =
    let u : c.remove.result ≡ Some c.unwrap-i.result = search rules in
    let group : c.unwrap-i.result.1 ≡ c.in-Some.group.now = unsome (sym (ap (option_map (λ p. p.1)) u) ∙ c.remove.ensures.value ∙ sym c.in-Some.ensures.value) in
    subst IsSoundGroup (sym group) c.sound_identity-own.ensures.sound
