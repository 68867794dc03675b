use Rattle.std.proofs.Common.{◌≡◌, ◌+◌, ◌%◌, ◌++◌, take, sym, ap, ◌∙◌, subst, arith, ℕ, List, Bool}
use Rattle.balise_bits.specs.Bytes.{flat, IsPacked}
use Rattle.balise_bits.proofs.Packing.{packed_joined, view-joined}
use Rattle.balise_bits.proofs.bits.Bits.append.Goals as goal

pub invariant_of-self-2 : goal.invariant_of-self-2
invariant_of-self-2 c =
    let a = c.self.inside.bytes in
    let b = c.other.inside.bytes in
    let whole : a.len % 8 ≡ 0 = omega (arith, c.self.invariant.whole, c.spare.ensures, c.if-spare-ne0.false) in
    subst (λ (n : ℕ). IsPacked n c.append.new.self.items) (sym c.in_ok-append.ensures.len)
    (subst (λ (l : List ℕ). IsPacked (a.len + b.len) l) (sym c.in_ok-append.ensures.items) (packed_joined a.len b.len a.items b.items c.self.invariant whole c.other.invariant))

pub returns-clause-ok : goal.returns-clause-ok
returns-clause-ok c =
    let a = c.self.inside.bytes in
    let b = c.other.inside.bytes in
    let whole : a.len % 8 ≡ 0 = omega (arith, c.self.invariant.whole, c.spare.ensures, c.if-spare-ne0.false) in
    ap (λ (n : ℕ). take n (flat c.append.new.self.items)) c.in_ok-append.ensures.len
    ∙ ap (λ (l : List ℕ). take (a.len + b.len) (flat l)) c.in_ok-append.ensures.items
    ∙ view-joined a.len b.len a.items b.items c.self.invariant whole c.other.invariant
    ∙ ap (λ (l : List Bool). l ++ take b.len (flat b.items)) c.self.view_is
    ∙ ap (λ (l : List Bool). c.args.self.now ++ l) c.other.view_is
