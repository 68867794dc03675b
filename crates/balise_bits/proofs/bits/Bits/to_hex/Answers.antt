use Rattle.std.proofs.Common.{sym, ap, ◌∙◌, ◌++◌, take, ℕ, List}
use Rattle.balise_rules.specs.Bits.{zeros}
use Rattle.balise_rules.specs.Digits.{digits_in, hex_of, fill}
use Rattle.balise_bits.specs.Bytes.{flat}
use Rattle.balise_bits.proofs.Packing.{length-view, flat-view}
use Rattle.balise_bits.proofs.bits.Bits.to_hex.Goals as goal

pub returns-clause-ok : goal.returns-clause-ok
returns-clause-ok c =
    let bytes = c.self.inside.bytes.items in
    let len = c.self.inside.bytes.len in
    let view = take len (flat bytes) in
    c.in_ok-hex_text.ensures ∙ ap (λ (x : List ℕ). digits_in (flat x)) c.as_slice.ensures.value ∙ ap digits_in (flat-view len bytes c.self.invariant)
    ∙ ap (λ (k : ℕ). digits_in (view ++ zeros (fill k))) (sym (length-view len bytes c.self.invariant)) ∙ ap hex_of c.self.view_is
