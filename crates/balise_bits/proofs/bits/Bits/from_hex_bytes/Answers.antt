use Rattle.std.proofs.Common.{ap, ◌∙◌, ◌≡◌, ◌≢◌, ◌+◌, ◌*◌, length, take, arith, subst, ℕ, List, sym, Ok}
use Rattle.std.proofs.lemmas.List.{length-take}
use Rattle.balise_bits.specs.Bytes.{flat, IsPacked}
use Rattle.balise_bits.proofs.Flat.{length-flat}
use Rattle.balise_rules.specs.Bits.{num, part}
use Rattle.balise_rules.specs.Digits.{fill}
use Rattle.balise_bits.proofs.Digits.{whole_bytes}
use Rattle.balise_bits.proofs.Spare.{read_hex-long, read_hex-spare, read_hex-read, whole_len, packed_cut, view-cut}
use Rattle.balise_bits.proofs.bits.Bits.from_hex_bytes.Goals as goal
use Rattle.balise_bits.proofs.bits.Bits.from_hex_bytes.Goals.{After-div_ceil, After-len, After-number}

-- what was read are all bits of the bytes
whole : (c : After-div_ceil) → (length c.in_ok-bits.bits ≡ c.bits.inside.bytes.len) × (c.bits.inside.bytes.len ≡ 8 * length c.bits.inside.bytes.items)
whole c = whole_len c.bits.inside.bytes.len c.bits.inside.bytes.items c.in_ok-bits.bits c.bits.invariant c.bits.view_is (whole_bytes c.args.text.now c.in_ok-bits.bits c.in_ok-bits.ensures.ok)

-- their number is that of the bits in the bytes of `len` bits
due : (c : After-len) → (length c.in_ok-bits.bits ≡ c.args.len + fill c.args.len) × (c.bits.inside.bytes.len ≡ c.args.len + fill c.args.len)
due c =
    let all = whole (goal.at.overflow_sub-spare c).After-div_ceil in
    (omega (arith, all.0, all.1, c.if-as_slice-div_ceil.false, ap length c.as_slice.ensures.value, c.div_ceil.ensures), omega (arith, all.1, c.if-as_slice-div_ceil.false, ap length c.as_slice.ensures.value, c.div_ceil.ensures))

-- the number that was read is of the bits after `len`
spare : (c : After-number) → c.bits.inside.bytes.len ≡ c.args.len + fill c.args.len → c.number.result ≡ num (part c.args.len (fill c.args.len) c.in_ok-bits.bits)
spare c e = c.number.ensures ∙ ap (λ (k : ℕ). num (part c.args.len k c.in_ok-bits.bits)) (omega (arith, e, c.len.ensures))

pub returns-then-as_slice-div_ceil-clause-fault : goal.returns-then-as_slice-div_ceil-clause-fault
returns-then-as_slice-div_ceil-clause-fault c =
    let all = whole (goal.at.returns-then-as_slice-div_ceil-clause-fault c).After-div_ceil in
    let other : length c.in_ok-bits.bits ≢ c.args.len + fill c.args.len = λ e. c.if-as_slice-div_ceil.true (omega (arith, all.0, all.1, e, ap length c.as_slice.ensures.value, c.div_ceil.ensures)) in
    λ _. read_hex-long c.args.len c.args.text.now c.in_ok-bits.bits c.in_ok-bits.ensures.ok other

pub overflow_sub-spare : goal.overflow_sub-spare
overflow_sub-spare c = omega (arith, (due c).1, c.len.ensures)

pub number-requires-clause-within : goal.number-requires-clause-within
number-requires-clause-within c = let all = due (goal.at.number-requires-clause-within c).After-len in omega (arith, all.0, all.1, c.len.ensures)

pub returns-then-number-ne0-clause-fault : goal.returns-then-number-ne0-clause-fault
returns-then-number-ne0-clause-fault c =
    let g = goal.at.returns-then-number-ne0-clause-fault c in
    let d = due g.After-len in
    λ _. read_hex-spare c.args.len c.args.text.now c.in_ok-bits.bits c.in_ok-bits.ensures.ok d.0 (λ z. c.if-number-ne0.true (spare g.After-number d.1 ∙ z))

-- `len` bits count
cut : (c : goal.After-set_spare) → c.set_spare.new.self.len ≡ c.args.len
cut c = omega (arith, (due (goal.at.invariant_of-bits c).After-len).1, c.set_spare.ensures.len, c.len.ensures)

-- and the bytes stay
same : (c : goal.After-set_spare) → take c.set_spare.new.self.len (flat c.set_spare.new.self.items) ≡ take c.args.len (flat c.bits.inside.bytes.items)
same c = ap (λ (k : ℕ). take k (flat c.set_spare.new.self.items)) (cut c) ∙ ap (λ (l : List ℕ). take c.args.len (flat l)) c.set_spare.ensures.items

pub invariant_of-bits : goal.invariant_of-bits
invariant_of-bits c =
    let g = goal.at.invariant_of-bits c in
    let d = due g.After-len in
    subst (λ (k : ℕ). IsPacked k c.set_spare.new.self.items) (sym (cut c)) (subst (λ (l : List ℕ). IsPacked c.args.len l) (sym c.set_spare.ensures.items)
    (packed_cut c.args.len c.bits.inside.bytes.len c.bits.inside.bytes.items c.in_ok-bits.bits c.bits.invariant c.bits.view_is d.1 (sym (spare g.After-number d.1) ∙ c.if-number-ne0.false)))

pub returns-clause-ok : goal.returns-clause-ok
returns-clause-ok c =
    let g = goal.at.returns-clause-ok c in
    let d = due g.After-len in
    read_hex-read c.args.len c.args.text.now c.in_ok-bits.bits c.in_ok-bits.ensures.ok d.0 (sym (spare g.After-number d.1) ∙ c.if-number-ne0.false)
    ∙ ap Ok (sym (same c ∙ view-cut c.args.len c.bits.inside.bytes.len c.bits.inside.bytes.items c.in_ok-bits.bits c.bits.invariant c.bits.view_is d.1))

pub returns-clause-len : goal.returns-clause-len
returns-clause-len c =
    ap length (same c)
    ∙ omega (arith, length-take c.args.len (flat c.bits.inside.bytes.items), length-flat c.bits.inside.bytes.items, c.if-as_slice-div_ceil.false, ap length c.as_slice.ensures.value, c.div_ceil.ensures)
