use Rattle.std.proofs.Common.{ap, ◌∙◌, length, take, drop, arith, ◌≡◌, ◌+◌, ◌-◌, ◌*◌, ◌/◌, ◌%◌, ℕ, List}
use Rattle.std.proofs.lemmas.List.{length-take, length-drop, take_rest}
use Rattle.balise_rules.specs.Bits.{part}
use Rattle.balise_bits.specs.Bytes.{flat}
use Rattle.balise_bits.proofs.Flat.{length-flat}
use Rattle.balise_bits.proofs.Putting.{length-part}
use Rattle.balise_bits.proofs.Packing.{flat-laid, part-in_bytes}
use Rattle.balise_bits.proofs.places.put_bytes_at.Goals as goal

pub returns : goal.returns
returns c =
    let first = c.args.to / 8 in
    let n = first + c.args.count - first in
    let at = c.args.at in
    let bytes = c.args.bytes.now in
    let from = c.args.from.now in
    let few : length (take n (drop first bytes)) ≡ c.args.count = omega (arith, length-take n (drop first bytes), length-drop first bytes) in
    let x = part at (8 * c.args.count) (flat from) in
    let filled : flat c.fill_shifted.new.out ≡ x =
    c.fill_shifted.ensures ∙ ap (λ (k : ℕ). part (at % 8) (8 * k) (flat (take (length from - at / 8) (drop (at / 8) from)))) few
    ∙ ap (λ (l : List ℕ). part (at % 8) (8 * c.args.count) (flat l)) (take_rest from (at / 8))
    ∙ part-in_bytes from at (8 * c.args.count) (omega arith) in
    flat-laid bytes c.fill_shifted.new.out c.args.to c.args.count x c.requires.aligned (omega arith)
    (length-part at (8 * c.args.count) (flat from) (omega (arith, length-flat from))) filled
