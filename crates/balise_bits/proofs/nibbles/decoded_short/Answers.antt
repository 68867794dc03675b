use Rattle.std.proofs.Common.{◌≡◌, ◌++◌, ◌≤◌, List, ℕ, length, drop, replicate, Some, None, ap, sym, ◌∙◌, arith}
use Rattle.balise_rules.specs.Digits.{digit_bits}
use Rattle.balise_bits.specs.Bytes.{flat}
use Rattle.balise_bits.proofs.Blocks.{filled_ok, filled_bad}
use Rattle.balise_bits.proofs.nibbles.decoded_short.Goals as goal

pub returns-clause-ok : goal.returns-clause-ok
returns-clause-ok c = λ e.
    let zeros : List ℕ = drop (length c.args.text.now) (replicate 32 48) in
    let block : digit_bits (c.copy_from_slice.new.self ++ zeros) ≡ Some (flat c.decoded_block-good.new.out) = c.decoded_block-good.ensures.ok e in
    let read : digit_bits (c.args.text.now ++ zeros) ≡ Some (flat c.decoded_block-good.new.out) = ap (λ (l : List ℕ). digit_bits (l ++ zeros)) (sym c.copy_from_slice.ensures.after) ∙ block in
    let room : length c.args.out.now ≤ length c.decoded_block-good.new.out = omega (arith, c.requires.short, c.decoded_block-good.ensures.len) in
    filled_ok c.args.text.now zeros c.decoded_block-good.new.out (length c.args.out.now) c.requires.text room read ∙ ap (λ (l : List ℕ). Some (flat l)) (sym c.copy_from_slice-2.ensures.after)

pub returns-clause-bad : goal.returns-clause-bad
returns-clause-bad c = λ e.
    let zeros : List ℕ = drop (length c.args.text.now) (replicate 32 48) in
    let block : digit_bits (c.copy_from_slice.new.self ++ zeros) ≡ None = c.decoded_block-good.ensures.bad e in
    filled_bad c.args.text.now (length c.args.text.now) 32 (ap (λ (l : List ℕ). digit_bits (l ++ zeros)) (sym c.copy_from_slice.ensures.after) ∙ block)
