use Rattle.std.proofs.Common.{rules, ◌≡◌, ◌∙◌, None, inl, inr, subst, sym, refl, arith}
use Rattle.balise_rules.specs.declared.refusal.Refusal.TheVariants.{OutOfMemory, ValueTooWide}
use Rattle.balise_rules.specs.declared.variable.Var.TheVariants.{NidBg}
use Rattle.balise_rules.specs.Doing.{refusal}
use Rattle.balise_rules.specs.declared.tagged_edit.TaggedEdit.TheVariants.{SetVar}
use Rattle.balise_rules.specs.Notes.{noted}
use Rattle.balise_index.specs.declared.link_place.LinkPlace.{LinkPlace}
use Rattle.balise_index.specs.NameIndex.{names_of, tags_of, Keeps}
use Rattle.balise_plan.specs.Relinking.{AddsReal, ForgetsOther}
use Rattle.balise_plan.proofs.fields.Link.{link-set, none-refused, old-number_is, untold, wide-refused}
use Rattle.balise_plan.proofs.naming.Walking.{place}
use Rattle.balise_plan.proofs.packets.{held-keeps}
use Rattle.balise_plan.proofs.plans.Outcomes.{Outcome, does, fails, left-alone, of-plan}
use Rattle.balise_plan.proofs.plans.Pushed.{changed-to, kept-by, with_tags}
use Rattle.balise_plan.proofs.plan.Plan.set_link.Goals as goal
use Rattle.balise_plan.proofs.plan.Plan.set_link.Goals.{In-Some, In-Ok, After-forget_other}

-- nothing was changed in the group
alone : (c : In-Some) → (c.get_mut.follows.lender c.in-Some.group.now).entries ≡ c.self.inside.groups.entries
alone c = left-alone c.args.place.group c.self.inside.groups.entries c.in-Some.group.now _ c.in-Some.ensures.value (c.get_mut.follows.holds c.in-Some.group.now)

pub invariant_of-self-in-Err : goal.invariant_of-self-in-Err
invariant_of-self-in-Err c = kept-by c.self.invariant (alone (goal.at.invariant_of-self-in-Err c).In-Some) c.self.invariant.held

pub returns-in-Err-clause-does : goal.returns-in-Err-clause-does
returns-in-Err-clause-does c =
    let r = untold c.self.inside.groups.entries (tags_of c.self.inside.index) (names_of c.self.inside.index) c.self.invariant.held c.args.place.group c.args.place.telegram c.args.place.packet c.args.k c.in-Some.group.now (sym c.in-Some.ensures.value) c.args.value c.in-Err.fault c.in-Err.ensures.fault in
    fails (SetVar c.args.place.group c.args.place.telegram c.args.place.packet NidBg c.args.k c.args.value) c.in-Err.fault c.self.view_is (alone (goal.at.returns-in-Err-clause-does c).In-Some) (record { why = inr r; is = refl })

pub invariant_of-self-then-value-gt-NO_GROUP : goal.invariant_of-self-then-value-gt-NO_GROUP
invariant_of-self-then-value-gt-NO_GROUP c = kept-by c.self.invariant (alone (goal.at.invariant_of-self-then-value-gt-NO_GROUP c).In-Some) c.self.invariant.held

pub returns-then-value-gt-NO_GROUP-clause-does : goal.returns-then-value-gt-NO_GROUP-clause-does
returns-then-value-gt-NO_GROUP-clause-does c =
    let r = wide-refused c.self.inside.groups.entries (tags_of c.self.inside.index) (names_of c.self.inside.index) c.self.invariant.held c.args.place.group c.args.place.telegram c.args.place.packet c.args.k c.in-Some.group.now (sym c.in-Some.ensures.value) c.in-Ok.id c.in-Ok.ensures.ok c.args.value c.if-value-gt-NO_GROUP.true in
    fails (SetVar c.args.place.group c.args.place.telegram c.args.place.packet NidBg c.args.k c.args.value) ValueTooWide c.self.view_is (alone (goal.at.returns-then-value-gt-NO_GROUP-clause-does c).In-Some) (record { why = inr r; is = refl })

pub invariant_of-self-then-is_err : goal.invariant_of-self-then-is_err
invariant_of-self-then-is_err c =
    let same : Keeps (names_of c.self.inside.index) (names_of c.add_real.new.index) = search rules in
    kept-by c.self.invariant (alone (goal.at.invariant_of-self-then-is_err c).In-Some)
    (with_tags c.add_real.ensures.tags (held-keeps (tags_of c.self.inside.index) (names_of c.self.inside.index) (names_of c.add_real.new.index) c.self.inside.groups.entries c.self.invariant.held same))

pub returns-then-is_err-clause-does : goal.returns-then-is_err-clause-does
returns-then-is_err-clause-does c = fails (SetVar c.args.place.group c.args.place.telegram c.args.place.packet NidBg c.args.k c.args.value) OutOfMemory c.self.view_is (alone (goal.at.returns-then-is_err-clause-does c).In-Some) (record { why = inl refl; is = refl })

pub returns-then-is_err-clause-memory : goal.returns-then-is_err-clause-memory
returns-then-is_err-clause-memory c = λ _.
    of-plan (λ gs. refusal (SetVar c.args.place.group c.args.place.telegram c.args.place.packet NidBg c.args.k c.args.value) gs ≡ None) c.self.view_is
    (none-refused c.self.inside.groups.entries (tags_of c.self.inside.index) (names_of c.self.inside.index) c.self.invariant.held c.args.place.group c.args.place.telegram c.args.place.packet c.args.k c.in-Some.group.now (sym c.in-Some.ensures.value) c.in-Ok.id c.in-Ok.ensures.ok c.args.value (omega (arith, c.if-value-gt-NO_GROUP.false)))

-- set
outcome : (c : After-forget_other) → Outcome (SetVar c.args.place.group c.args.place.telegram c.args.place.packet NidBg c.args.k c.args.value) (tags_of c.self.inside.index) (names_of c.forget_other.new.index) c.self.inside.groups.entries (c.get_mut.follows.lender c.change_link.new.self).entries
outcome c =
    let adds : AddsReal (names_of c.self.inside.index) (names_of c.add_real.new.index) (record { country = c.in-Ok.id.country; number = c.args.value }) (place c.args.place.group c.args.place.telegram c.args.place.packet c.args.k) = search rules in
    let forgets = subst (λ (w : LinkPlace). ForgetsOther (names_of c.add_real.new.index) (names_of c.forget_other.new.index) (record { country = c.in-Ok.id.country; number = c.args.value }) c.in-Ok.id w) c.element-link.ensures c.forget_other.ensures.forgotten in
    subst (Outcome (SetVar c.args.place.group c.args.place.telegram c.args.place.packet NidBg c.args.k c.args.value) (tags_of c.self.inside.index) (names_of c.forget_other.new.index) c.self.inside.groups.entries) (sym (c.get_mut.follows.holds c.change_link.new.self))
    (link-set c.self.inside.groups.entries (tags_of c.self.inside.index) (names_of c.self.inside.index) c.self.invariant.held c.args.place.group c.args.place.telegram c.args.place.packet c.args.k c.in-Some.group.now (sym c.in-Some.ensures.value) c.in-Ok.id c.in-Ok.ensures.ok c.args.value (omega (arith, c.if-value-gt-NO_GROUP.false)) (names_of c.add_real.new.index) (names_of c.forget_other.new.index) adds forgets c.change_link.new.self c.change_link.ensures)

pub invariant_of-self-2 : goal.invariant_of-self-2
invariant_of-self-2 c = changed-to c.self.inside.changes refl (with_tags (c.forget_other.ensures.tags ∙ c.add_real.ensures.tags) (outcome (goal.at.invariant_of-self-2 c).After-forget_other).held)

pub returns-clause-does : goal.returns-clause-does
returns-clause-does c = does (SetVar c.args.place.group c.args.place.telegram c.args.place.packet NidBg c.args.k c.args.value) c.self.view_is refl (outcome (goal.at.returns-clause-does c).After-forget_other)

pub returns-clause-old : goal.returns-clause-old
returns-clause-old c =
    of-plan (λ gs. c.in-Ok.id.number ≡ (noted (SetVar c.args.place.group c.args.place.telegram c.args.place.packet NidBg c.args.k c.args.value) gs).old) c.self.view_is
    (old-number_is c.self.inside.groups.entries (tags_of c.self.inside.index) (names_of c.self.inside.index) c.self.invariant.held c.args.place.group c.args.place.telegram c.args.place.packet c.args.k c.in-Some.group.now (sym c.in-Some.ensures.value) c.in-Ok.id c.in-Ok.ensures.ok c.args.value)
