use Rattle.std.proofs.Common.{◌≡◌, ◌+◌, ◌*◌, ◌≤◌, length, take, drop, ◌-◌, ap, sym, ◌∙◌, Some, arith}
use Rattle.std.specs.Prelude.{min}
use Rattle.std.proofs.lemmas.List.{length-take, length-drop}
use Rattle.balise_bits.proofs.Blocks.{block_bad, block_more}
use Rattle.balise_bits.proofs.Flat.{flat-nil}
use Rattle.balise_bits.proofs.Judging.{empty_bits}
use Rattle.balise_bits.proofs.nibbles.decoded.Goals as goal

pub loop-block-init : goal.loop-block-init
loop-block-init c =
    let start : min 0 (length c.args.out.now) ≡ 0 = omega arith in
    rw start (empty_bits ∙ ap Some (sym flat-nil))

pub returns-then-not-decoded_block-clause-bad : goal.returns-then-not-decoded_block-clause-bad
returns-then-not-decoded_block-clause-bad c = λ _. block_bad c.args.text.now (2 * c.min-at.result) _ (c.decoded_block.ensures.bad c.if-not-decoded_block.true)

pub loop-block-preserved : goal.loop-block-preserved
loop-block-preserved c =
    let at = c.min-at.result in
    let done = min (16 * c.loop-block.block) (length c.args.out.now) in
    let next : min (16 * (c.loop-block.block + 1)) (length c.args.out.now) ≡ at + 16 = omega (arith, c.min-at.ensures, c.if-count-lt-BLOCK.false, c.loop-block-test.true, c.div_ceil-block-end.ensures) in
    let low : at ≤ done = omega (arith, c.min-at.ensures) in
    let size : length c.loop-block.out ≡ length c.args.out.now = omega (arith, c.loop-block.auto.out) in
    let end : done ≤ length c.loop-block.out = omega (arith, size) in
    let within : at ≤ length c.loop-block.out = omega (arith, size, low) in
    let inside : at + 16 ≤ length c.loop-block.out = omega (arith, size, c.min-at.ensures, c.if-count-lt-BLOCK.false) in
    let few : length (take (at + 16 - at) (drop at c.loop-block.out)) ≡ 16 = omega (arith, inside, length-take (at + 16 - at) (drop at c.loop-block.out), length-drop at c.loop-block.out) in
    let full : length c.decoded_block.new.out ≡ 16 = c.decoded_block.ensures.len ∙ few in
    let more = block_more c.args.text.now c.loop-block.out c.decoded_block.new.out at done (2 * at + 32 - 2 * at) (at + 16 - at) low end within (omega (arith, size, c.requires)) full (omega arith) (c.decoded_block.ensures.ok c.if-not-decoded_block.false) c.loop-block.invariant in
    rw next more
