use Rattle.std.proofs.Common.{◌≡◌, ◌+◌, ◌*◌, ◌<◌, ◌≤◌, get_or, true, false, ◌⊎◌, inl, inr, sym, ◌∙◌, arith}
use Rattle.std.proofs.lemmas.Bool.{ltb-true, ltb-false}
use Rattle.std.proofs.lemmas.List.{length-set}
use Rattle.balise_bits.proofs.Blocks.{valued_more}
use Rattle.balise_bits.proofs.Judging.{none_good, good_byte, good_bytes}
use Rattle.balise_bits.proofs.nibbles.decoded_block.Goals as goal
use Rattle.balise_bits.proofs.nibbles.decoded_block.Goals.{then-good, else-good}

both : (c : goal.Joined-good) → c.if-good.good ≡ true → (c.loop-i.good ≡ true) × (c.chosen_value-value.result < 16)
both c e = elim c.if-good.branch [
  | then-good w ↦ (w.if-good.true, ltb-true c.chosen_value-value.result 16 (sym w.good-is ∙ e))
  | else-good w ↦ cc (w.good-is, e)
]

either : (c : goal.Joined-good) → c.if-good.good ≡ false → (c.loop-i.good ≡ false) ⊎ (16 ≤ c.chosen_value-value.result)
either c e = elim c.if-good.branch [
  | then-good w ↦ inr (ltb-false c.chosen_value-value.result 16 (sym w.good-is ∙ e))
  | else-good w ↦ inl w.if-good.false
]

pub loop-i-preserved : goal.loop-i-preserved
loop-i-preserved c = (
  valued_more c.args.text.now c.loop-i.values c.loop-i.i c.chosen_value-value.result c.loop-i.good c.if-good.good (omega (arith, c.requires.text, c.loop-i-test.true)) (omega (arith, c.loop-i.invariant.1, c.loop-i-test.true))
      c.chosen_value-value.ensures.digit c.chosen_value-value.ensures.other (both c) (either c) c.loop-i.invariant.0,
  length-set c.loop-i.values c.loop-i.i c.chosen_value-value.result ∙ c.loop-i.invariant.1,
)

pub loop-k-init : goal.loop-k-init
loop-k-init c = λ _. none_good c.args.text.now c.args.out.now

pub loop-k-preserved : goal.loop-k-preserved
loop-k-preserved c = λ e.
    let j = c.loop-i.invariant.0 in
    let k = c.loop-k.k in
    let values = c.loop-i.values in
    let first : 2 * k < c.loop-i.i = omega (arith, c.loop-k-test.true, c.loop-i-test.false) in
    let second : 2 * k + 1 < c.loop-i.i = omega (arith, c.loop-k-test.true, c.loop-i-test.false) in
    let high : get_or values (2 * k) 0 < 16 = j.small e (2 * k) first in
    let low : get_or values (2 * k + 1) 0 < 16 = j.small e (2 * k + 1) second in
    good_byte c.args.text.now c.loop-k.out k (get_or values (2 * k) 0) (get_or values (2 * k + 1) 0) _ (omega (arith, c.requires.out, c.loop-k.auto.out, c.loop-k-test.true)) (omega (arith, c.requires, c.loop-k.auto.out))
    (j.value e (2 * k) first) (j.value e (2 * k + 1) second) low (omega (arith, high, low)) (c.loop-k.invariant e)

pub returns-clause-ok : goal.returns-clause-ok
returns-clause-ok c = λ e.
    good_bytes c.args.text.now c.loop-k.out c.loop-k.k (c.loop-k.invariant e) (omega (arith, c.requires.out, c.loop-k.auto.out, c.loop-k.auto.k-end, c.loop-k-test.false)) (omega (arith, c.requires, c.loop-k.auto.out))
