use Rattle.std.proofs.Common.{◌≡◌, Some, None, sym}
use Rattle.balise_rules.specs.Plan.{IsSound}
use Rattle.balise_rules.specs.Tagged.{find}
use Rattle.balise_rules.specs.Tags.{same_tag}
use Rattle.balise_plan.proofs.plans.Finding.{group_found, group_there, telegram_found, tags_there}
use Rattle.balise_plan.proofs.plans.Outcomes.{of-plan}
use Rattle.balise_plan.proofs.plan.Plan.find_telegram.Goals as goal

pub returns-in_default-get-clause-fault : goal.returns-in_default-get-clause-fault
returns-in_default-get-clause-fault c =
    let none = of-plan (λ gs. find same_tag c.in-Some.g gs ≡ None) c.self.view_is (sym c.in_default-get.ensures.value) in
    absurd (group_there c.args.id c.args.self.now.groups c.in-Some.g (of-plan IsSound c.self.view_is c.self.invariant.held.sound) (sym c.in-Some.ensures) none)

pub returns-in-Some-at-clause-ok : goal.returns-in-Some-at-clause-ok
returns-in-Some-at-clause-ok c =
    telegram_found c.args.id c.args.pig c.args.self.now.groups c.in-Some.g c.in-Some-get.group.now (Some (c.in-Some-at.t, c.in-Some-at.telegram.now))
    (group_found c.args.id c.args.self.now.groups c.in-Some.g c.in-Some-get.group.now (of-plan IsSound c.self.view_is c.self.invariant.held.sound) (sym c.in-Some.ensures) (of-plan (λ gs. find same_tag c.in-Some.g gs ≡ Some c.in-Some-get.group.now) c.self.view_is (sym c.in-Some-get.ensures.value))) (sym c.in-Some-at.ensures)

pub returns-in-None-clause-fault : goal.returns-in-None-clause-fault
returns-in-None-clause-fault c =
    telegram_found c.args.id c.args.pig c.args.self.now.groups c.in-Some.g c.in-Some-get.group.now None
    (group_found c.args.id c.args.self.now.groups c.in-Some.g c.in-Some-get.group.now (of-plan IsSound c.self.view_is c.self.invariant.held.sound) (sym c.in-Some.ensures) (of-plan (λ gs. find same_tag c.in-Some.g gs ≡ Some c.in-Some-get.group.now) c.self.view_is (sym c.in-Some-get.ensures.value))) (sym c.in-None.ensures)

pub returns-in-Some-at-clause-tags : goal.returns-in-Some-at-clause-tags
returns-in-Some-at-clause-tags c = tags_there c.args.self.now.groups c.in-Some.g c.in-Some-get.group.now c.args.pig c.in-Some-at.t c.in-Some-at.telegram.now (of-plan IsSound c.self.view_is c.self.invariant.held.sound) (of-plan (λ gs. find same_tag c.in-Some.g gs ≡ Some c.in-Some-get.group.now) c.self.view_is (sym c.in-Some-get.ensures.value)) (sym c.in-Some-at.ensures)
