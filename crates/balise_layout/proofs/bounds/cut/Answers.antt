-- Each test is one of the definition's, in its order.
use Rattle.std.proofs.Common.{arith, drop, sym, ◌∙◌}
use Rattle.std.proofs.lemmas.List.{length-drop}
use Rattle.balise_layout.proofs.Refused.{refuse_short, refuse_zero, refuse_end, refuse_few}
use Rattle.balise_layout.proofs.bounds.cut.Goals as goal

pub returns-then-left-lt8-clause-fault : goal.returns-then-left-lt8-clause-fault
returns-then-left-lt8-clause-fault c = λ version. refuse_short version (drop c.args.at c.args.bits.now) (omega (arith, length-drop c.args.at c.args.bits.now, c.requires.left, c.if-left-lt8.true))

pub returns-then-number-eq0-clause-fault : goal.returns-then-number-eq0-clause-fault
returns-then-number-eq0-clause-fault c = λ version. refuse_zero version (drop c.args.at c.args.bits.now) (omega (arith, length-drop c.args.at c.args.bits.now, c.requires.left, c.if-left-lt8.false)) (sym c.number-number.ensures ∙ c.if-number-eq0.true)

pub returns-then-number-eq255-clause-fault : goal.returns-then-number-eq255-clause-fault
returns-then-number-eq255-clause-fault c = λ version. refuse_end version (drop c.args.at c.args.bits.now) (omega (arith, length-drop c.args.at c.args.bits.now, c.requires.left, c.if-left-lt8.false)) (sym c.number-number.ensures ∙ c.if-number-eq255.true)

pub returns-clause-fault : goal.returns-clause-fault
returns-clause-fault c = λ version. refuse_few version (drop c.args.at c.args.bits.now) (omega (arith, length-drop c.args.at c.args.bits.now, c.requires.left, c.if-left-lt8.false)) (λ e. c.if-number-eq0.false (c.number-number.ensures ∙ e)) (λ e. c.if-number-eq255.false (c.number-number.ensures ∙ e)) (omega (arith, length-drop c.args.at c.args.bits.now, c.requires.left, c.requires.few))
