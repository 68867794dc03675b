use Rattle.std.proofs.Common.{rules, ◌≡◌, ◌∙◌, ◌+◌, insert, length, ap, arith}
use Rattle.balise_rules.specs.declared.tag.Tag.TheVariants.{Base}
use Rattle.balise_plan.proofs.plans.Pushed.{later-new, kept-more}
use Rattle.balise_plan.proofs.plan.Plan.push_read.Goals as goal

pub put_at-requires-clause-new : goal.put_at-requires-clause-new
put_at-requires-clause-new c =
    let plan = c.self.inside.groups.entries in
    let none : c.self.inside.changes ≡ 0 = ap (λ p. p.changes) c.self.view_is ∙ c.requires.count in
    let at : 0 + length plan ≡ c.len-place.result = omega (arith, c.len-place.ensures) in
    later-new 0 c.len-place.result plan (c.self.invariant.based none) at

pub invariant_of-self-2 : goal.invariant_of-self-2
invariant_of-self-2 c =
    let n = c.len-place.result in
    let put : c.put_at.new.groups.entries ≡ insert c.self.inside.groups.entries n (Base n, c.args.group) = search rules in
    kept-more c.self.invariant c.args.group n c.len-place.ensures put c.put_at.ensures.held
