use Rattle.std.proofs.Common.{◌∙◌, sym, ap, arith}
use Rattle.balise_rules.specs.Forms.{Form}
use Rattle.balise_codec.specs.Misfits.{misfit_along}
use Rattle.balise_items.proofs.HeaderValues.{after_ten, are_ten, header_plains, here, one_on, stops_at, value_within}
use Rattle.balise_items.proofs.header.header_misfit.Goals as goal

pub loop-place-init : goal.loop-place-init
loop-place-init c = (omega arith, ap (λ (f : Form). misfit_along f 0 c.args.values.now) header_plains)

pub returns-in-Some-clause-first : goal.returns-in-Some-clause-first
returns-in-Some-clause-first c = stops_at c.args.values.now c.loop-place.place c.in-Some.misfit c.loop-place-test.true (sym c.misfit_of.ensures ∙ c.in-Some.is) c.loop-place.invariant.1

pub loop-place-preserved : goal.loop-place-preserved
loop-place-preserved c =
    let none = sym c.misfit_of.ensures ∙ c.in_default.is in (
      value_within (here c.loop-place.place) c.args.values.now c.loop-place.place none,
      one_on c.args.values.now c.loop-place.place c.loop-place-test.true none c.loop-place.invariant.1,
    )

pub returns-then-values-gt10-clause-first : goal.returns-then-values-gt10-clause-first
returns-then-values-gt10-clause-first c = after_ten c.args.values.now c.loop-place.place (omega (arith, c.loop-place-test.false, c.loop-place.auto.place-end)) c.if-values-gt10.true c.loop-place.invariant.1

pub returns-clause-first : goal.returns-clause-first
returns-clause-first c = are_ten c.args.values.now c.loop-place.place (omega (arith, c.loop-place-test.false, c.loop-place.auto.place-end)) c.if-values-gt10.false c.loop-place.invariant.1
