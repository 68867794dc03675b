use Rattle.std.proofs.Common.{◌≡◌, true, false, sym, ap, ◌∙◌, ℕ, take}
use Rattle.std.specs.Cmp.{both_ways}
use Rattle.balise_bits.specs.Bytes.{flat}
use Rattle.balise_bits.specs.Equal.{bits_eq, bits_eq-true, bits_eq-same}
use Rattle.balise_bits.proofs.Same.{flat_from_view, len_from_view}
use Rattle.balise_bits.proofs.bits.equal.BitsPartialEq.eq.Goals as goal

-- bits of two lengths are not the same
other_len : (c : goal.Then-len) → c.args.self.now ≡ c.args.other.now → ⊥
other_len c e =
    c.if-len.true (c.len.ensures ∙ len_from_view c.self.inside.bytes.len c.other.inside.bytes.len c.self.inside.bytes.items c.other.inside.bytes.items c.self.invariant c.other.invariant (c.self.view_is ∙ e ∙ sym c.other.view_is) ∙ sym c.len-2.ensures)

pub returns-then-len-clause-eq : goal.returns-then-len-clause-eq
returns-then-len-clause-eq c =
    both_ways false (bits_eq c.args.self.now c.args.other.now) (λ e. cc e) (λ e. absurd (other_len c (bits_eq-true c.args.self.now c.args.other.now e)))

pub returns-then-len-clause-same : goal.returns-then-len-clause-same
returns-then-len-clause-same c = (λ e. cc e, λ e. absurd (other_len c e))

same_len : (c : goal.After-same_bytes) → c.self.inside.bytes.len ≡ c.other.inside.bytes.len
same_len c = sym c.len.ensures ∙ c.if-len.false ∙ c.len-2.ensures

-- lists of one length are the same where their bytes are
same_from : (c : goal.After-same_bytes) → c.same_bytes.result ≡ true → c.args.self.now ≡ c.args.other.now
same_from c t =
    let bytes : flat c.self.inside.bytes.items ≡ flat c.other.inside.bytes.items =
    sym (ap flat c.as_slice.ensures.value) ∙ c.same_bytes.ensures.0 t ∙ ap flat c.as_slice-2.ensures.value in
    sym c.self.view_is ∙ ap (take c.self.inside.bytes.len) bytes ∙ ap (λ (n : ℕ). take n (flat c.other.inside.bytes.items)) (same_len c) ∙ c.other.view_is

same_to : (c : goal.After-same_bytes) → c.args.self.now ≡ c.args.other.now → c.same_bytes.result ≡ true
same_to c e =
    let bytes = flat_from_view c.self.inside.bytes.len c.other.inside.bytes.len c.self.inside.bytes.items c.other.inside.bytes.items c.self.invariant c.other.invariant (same_len c) (c.self.view_is ∙ e ∙ sym c.other.view_is) in
    c.same_bytes.ensures.1 (ap flat c.as_slice.ensures.value ∙ bytes ∙ sym (ap flat c.as_slice-2.ensures.value))

pub returns-clause-eq : goal.returns-clause-eq
returns-clause-eq c =
    let a = c.args.self.now in
    let b = c.args.other.now in
    both_ways c.same_bytes.result (bits_eq a b) (λ t. bits_eq-same a b (same_from c t)) (λ t. same_to c (bits_eq-true a b t))

pub returns-clause-same : goal.returns-clause-same
returns-clause-same c = (same_from c, same_to c)
