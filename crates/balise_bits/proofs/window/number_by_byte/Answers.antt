use Rattle.std.proofs.Common.{◌^◌, ◌<◌, ◌≤◌, length, take, get_or, ℕ, List, sym, ap, ◌∙◌, arith}
use Rattle.std.proofs.lemmas.List.{length-take, take_all}
use Rattle.balise_rules.specs.Bits.{num}
use Rattle.balise_bits.specs.Bytes.{flat}
use Rattle.balise_bits.proofs.Pieces.{num_small}
use Rattle.balise_bits.proofs.Flat.{length-flat, num-flat_nil, num-flat_more}
use Rattle.balise_bits.proofs.window.number_by_byte.Goals as goal

pub loop-byte-init : goal.loop-byte-init
loop-byte-init c = sym num-flat_nil

-- the number of the bytes before this one
small : (window : List ℕ) (i : ℕ) → i < length window → length window ≤ 8 → num (flat (take i window)) < 2 ^ 56
small window i h few = num_small (flat (take i window)) 56 (omega (arith, length-flat (take i window), length-take i window))

pub overflow_mul-number : goal.overflow_mul-number
overflow_mul-number c = omega (arith, small c.args.window.now c.loop-byte.byte-index (omega arith) (omega arith), c.loop-byte.invariant)

pub overflow_add-number : goal.overflow_add-number
overflow_add-number c =
    omega (arith, small c.args.window.now c.loop-byte.byte-index (omega arith) (omega arith), c.type_inv.window c.loop-byte.byte-index, c.loop-byte.invariant, c.from.ensures)

pub loop-byte-preserved : goal.loop-byte-preserved
loop-byte-preserved c =
    let byte : get_or c.args.window.now c.loop-byte.byte-index 0 < 256 = omega (arith, c.type_inv.window c.loop-byte.byte-index) in
    omega (arith, c.loop-byte.invariant, c.from.ensures, num-flat_more c.args.window.now c.loop-byte.byte-index c.loop-byte-test.true byte)

pub returns : goal.returns
returns c = c.loop-byte.invariant ∙ ap (λ (x : List ℕ). num (flat x)) (take_all c.loop-byte.byte-index c.args.window.now c.loop-byte-test.false)
