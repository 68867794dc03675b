use Rattle.std.proofs.Common.{eqb, ap, refl, sym, ◌∙◌, Err}
use Rattle.std.specs.Fn.{FnOnceReturnsAtMut}
use Rattle.balise_rules.proofs.Tests.{nat_test}
use Rattle.balise_plan.specs.OneOrMore.{tag_at}
use Rattle.balise_plan.specs.Within.{passed}
use Rattle.balise_plan.proofs.items.OneChanged.{Standing, at_none, at_place}
use Rattle.balise_plan.proofs.groups.Sound.{sound_at}
use Rattle.balise_plan.proofs.group.Group.in_telegram.Goals as goal
use Rattle.balise_plan.proofs.group.Group.in_telegram.Goals.{After-change, in-Ok, in-Err}

-- the telegram stands at its place
abbrev here : (g : _) (c : After-change g) → Standing eqb c.args.t c.self.inside.telegrams c.args.self.now c.index_mut-telegram.result.now
here g c = record { view = c.self.view_is; place = c.in-Some.i; key = tag_at c.self.inside.telegrams c.in-Some.i; found = c.in-Some.ensures; is = c.index_mut-telegram.ensures.value }

-- and is changed so
call : (g : _) (c : After-change g) → FnOnceReturnsAtMut g.F.FnOnce c.args.change c.index_mut-telegram.result.now c.change.result c.change.new.arg2
call g c = record { shown = _; shows = refl; left = _; met = c.change.ensures; leaves = refl }

pub returns-in_default : goal.returns-in_default
returns-in_default g c = at_none eqb c.args.t c.self.inside.telegrams c.args.self.now c.self.view_is c.in_default.ensures _ _

pub returns : goal.returns
returns g c =
    let a = (goal.at.returns g c).After-change in
    at_place nat_test (here g a) c.self.invariant.tags _ _ _ _ (record { answer = c.change.result; call = call g a; is = elim c.match-change.branch [ in-Ok w ↦ w.result-is ∙ sym (ap passed w.in-Ok.is) | in-Err w ↦ w.result-is ∙ ap Err w.refusal.ensures ∙ sym (ap passed w.in-Err.is) ] })

pub invariant_of-self : goal.invariant_of-self
invariant_of-self g c = let a = (goal.at.invariant_of-self g c).After-change in sound_at (here g a) c.self.invariant _ (c.requires.sound _ _ _ (call g a))
