use Rattle.std.proofs.Common.{sym, ap, ◌∙◌, ◌≡◌, ◌*◌, ◌/◌, ◌%◌, length, drop, arith, Ok}
use Rattle.std.proofs.lemmas.List.{take_at, length-replicate}
use Rattle.std.specs.List.{refill}
use Rattle.balise_rules.specs.Digits.{digits_or_bad}
use Rattle.balise_bits.specs.Bytes.{flat}
use Rattle.balise_bits.proofs.Packing.{packed_whole, view-whole}
use Rattle.balise_bits.proofs.bits.Bits.digits_in_bytes.Goals as goal

-- what the bytes are in the end
filled : (c : goal.Else-not-decoded) → refill (length c.in_ok-bytes.bytes.items) c.in_ok-bytes.bytes.items c.decoded.new.out ≡ c.decoded.new.out
filled c =
    let new = c.decoded.new.out in
    let zeros = c.in_ok-bytes.bytes.items in
    take_at new (drop (length new) zeros) (length zeros) (c.decoded.ensures.len ∙ ap length c.as_mut_slice.ensures.value)

size : (c : goal.Else-not-decoded) → c.in_ok-bytes.bytes.len ≡ 8 * length (refill (length c.in_ok-bytes.bytes.items) c.in_ok-bytes.bytes.items c.decoded.new.out)
size c =
    let n : length c.in_ok-bytes.bytes.items ≡ length c.args.text.now / 2 = ap length c.in_ok-bytes.ensures.items ∙ length-replicate (length c.args.text.now / 2) 0 in
    omega (arith, n, c.in_ok-bytes.ensures.len, ap length (filled c), c.decoded.ensures.len, ap length c.as_mut_slice.ensures.value)

pub invariant_of-result : goal.invariant_of-result
invariant_of-result c = packed_whole c.in_ok-bytes.bytes.len _ (size c)

pub returns-clause-ok : goal.returns-clause-ok
returns-clause-ok c =
    let even : length c.args.text.now % 2 ≡ 0 = c.if-text-ne0.false in
    rw even (ap digits_or_bad (c.decoded.ensures.ok c.if-not-decoded.false)
    ∙ ap Ok (ap flat (sym (filled c)) ∙ sym (view-whole c.in_ok-bytes.bytes.len _ (size c))))
