use Rattle.std.proofs.Common.{sym, ap, ◌∙◌, ◌++◌, take, drop, length, ℕ, List}
use Rattle.std.proofs.lemmas.List.{take_at}
use Rattle.balise_rules.specs.Bits.{zeros}
use Rattle.balise_rules.specs.Digits.{digits_in, hex_of, fill}
use Rattle.balise_bits.specs.Bytes.{flat}
use Rattle.balise_bits.proofs.Packing.{length-view, flat-view}
use Rattle.balise_bits.proofs.bits.Bits.hex_into.Goals as goal

pub returns-clause-ok : goal.returns-clause-ok
returns-clause-ok c =
    let bytes = c.self.inside.bytes.items in
    let len = c.self.inside.bytes.len in
    let view = take len (flat bytes) in
    let new = c.put_digits.new.out in
    take_at new (drop (length new) c.resize.new.self.items) c.resize.new.self.len (c.put_digits.ensures.len ∙ c.as_mut_slice.ensures.len)
    ∙ c.put_digits.ensures.digits ∙ ap (λ (x : List ℕ). digits_in (flat x)) c.as_slice-bytes.ensures.value ∙ ap digits_in (flat-view len bytes c.self.invariant)
    ∙ ap (λ (k : ℕ). digits_in (view ++ zeros (fill k))) (sym (length-view len bytes c.self.invariant)) ∙ ap hex_of c.self.view_is
