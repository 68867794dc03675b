use Rattle.std.proofs.Common.{sym, ap, ◌∙◌, subst, length, take, arith, ◌≡◌, ◌+◌, ◌-◌, ◌*◌, ◌++◌, List, Bool, ℕ, replicate, length-append}
use Rattle.std.proofs.lemmas.List.{length-replicate}
use Rattle.balise_rules.specs.Bits.{zeros}
use Rattle.balise_rules.specs.Digits.{fill}
use Rattle.balise_bits.specs.Bytes.{flat, IsPacked}
use Rattle.balise_bits.proofs.Packing.{packed_grown, view-grown}
use Rattle.balise_bits.proofs.bits.Bits.push_zeros.Goals as goal

-- how many bytes come in
abbrev more : (c : goal.After-set_spare) → ℕ
more c = c.div_ceil-whole.result - length c.self.inside.bytes.items

size : (c : goal.After-set_spare) → 8 * (length c.self.inside.bytes.items + more c) ≡ (c.self.inside.bytes.len + c.args.count) + fill (c.self.inside.bytes.len + c.args.count)
size c =
    let sum : c.in-Some.len ≡ c.len.result + c.args.count = c.in-Some.ensures.1 in
    omega (arith, sum, c.len.ensures, c.div_ceil-whole.ensures, c.self.invariant.whole)

items : (c : goal.After-set_spare) → c.set_spare.new.self.items ≡ c.self.inside.bytes.items ++ replicate (more c) 0
items c =
    c.set_spare.ensures.items ∙ c.in_ok-add_zeros.ensures.items
    ∙ ap (λ (k : ℕ). c.self.inside.bytes.items ++ replicate (c.div_ceil-whole.result - k) 0) (ap length c.as_slice.ensures.value)

len : (c : goal.After-set_spare) → c.set_spare.new.self.len ≡ c.self.inside.bytes.len + c.args.count
len c =
    let sum : c.in-Some.len ≡ c.len.result + c.args.count = c.in-Some.ensures.1 in
    let held : length c.add_zeros.new.self.items ≡ length c.self.inside.bytes.items + more c =
    sym (ap length c.set_spare.ensures.items) ∙ ap length (items c) ∙ length-append c.self.inside.bytes.items (replicate (more c) 0)
    ∙ ap (λ (k : ℕ). length c.self.inside.bytes.items + k) (length-replicate (more c) 0) in
    omega (arith, sum, held, size c, c.len.ensures, c.div_ceil-whole.ensures, c.set_spare.ensures.len)

pub invariant_of-self-2 : goal.invariant_of-self-2
invariant_of-self-2 c =
    subst (λ (n : ℕ). IsPacked n c.set_spare.new.self.items) (sym (len c))
    (packed_grown c.self.inside.bytes.len c.args.count (more c) c.self.inside.bytes.items c.set_spare.new.self.items c.self.invariant (items c) (size c))

pub returns-clause-ok : goal.returns-clause-ok
returns-clause-ok c =
    ap (λ (n : ℕ). take n (flat c.set_spare.new.self.items)) (len c)
    ∙ view-grown c.self.inside.bytes.len c.args.count (more c) c.self.inside.bytes.items c.set_spare.new.self.items c.self.invariant (items c) (size c)
    ∙ ap (λ (l : List Bool). l ++ zeros c.args.count) c.self.view_is
