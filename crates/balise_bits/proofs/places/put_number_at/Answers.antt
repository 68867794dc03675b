use Rattle.std.proofs.Common.{◌≡◌, sym, ap, ◌∙◌, length, arith, ◌+◌, ◌-◌, ◌*◌, ℕ}
use Rattle.balise_rules.specs.Bits.{bits, put_at}
use Rattle.balise_bits.specs.Bytes.{flat}
use Rattle.balise_bits.proofs.Ones.{put_at-none}
use Rattle.balise_bits.proofs.Packing.{written}
use Rattle.balise_bits.proofs.places.put_number_at.Goals as goal

pub returns-then-count-ge-WINDOW : goal.returns-then-count-ge-WINDOW
returns-then-count-ge-WINDOW c =
    let at = c.args.at in
    let w = c.args.width in
    let first = c.min-first.result in
    written c.args.bytes.now c.put_over.new.window at w c.args.value first (first + 8 - first) (64 - (at - 8 * first) - w) c.put_over.ensures (omega arith) (omega arith) (omega arith)

pub returns : goal.returns
returns c =
    let at = c.args.at in
    let w = c.args.width in
    let count = length c.args.bytes.now in
    let place : 8 * count - (8 * count - at - w + w) ≡ at = omega arith in
    c.put_over-2.ensures ∙ ap (λ (k : ℕ). put_at k (bits w c.args.value) (flat c.args.bytes.now)) place

pub returns-then-width-eq0 : goal.returns-then-width-eq0
returns-then-width-eq0 c = sym (put_at-none c.args.at c.args.value (flat c.args.bytes.now)) ∙ ap (λ (w : ℕ). put_at c.args.at (bits w c.args.value) (flat c.args.bytes.now)) (sym c.if-width-eq0.true)
