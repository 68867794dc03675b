use Rattle.std.proofs.Common.{sym, ap, ◌∙◌, arith, ◌+◌, ◌-◌, ◌/◌, ◌%◌, ℕ}
use Rattle.balise_rules.specs.Bits.{bits, put_at}
use Rattle.balise_bits.specs.Bytes.{flat}
use Rattle.balise_bits.proofs.Ones.{put_at-none}
use Rattle.balise_bits.proofs.Packing.{written}
use Rattle.balise_bits.proofs.places.put_in_byte.Goals as goal

pub returns : goal.returns
returns c =
    let at = c.args.at in
    let w = c.args.width in
    written c.args.bytes.now c.put_over.new.window at w c.args.value (at / 8) (at / 8 + 1 - at / 8) (8 - at % 8 - w) c.put_over.ensures (omega arith) (omega arith) (omega arith)

pub returns-then-width-eq0 : goal.returns-then-width-eq0
returns-then-width-eq0 c = sym (put_at-none c.args.at c.args.value (flat c.args.bytes.now)) ∙ ap (λ (w : ℕ). put_at c.args.at (bits w c.args.value) (flat c.args.bytes.now)) (sym c.if-width-eq0.true)
