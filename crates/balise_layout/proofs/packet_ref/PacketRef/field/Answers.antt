-- The value stands where the occurrence does.
use Rattle.std.proofs.Common.{arith, ◌+◌, ℕ, Some, sym, ap, ◌∙◌}
use Rattle.balise_rules.specs.Bits.{num, part}
use Rattle.balise_layout.proofs.Lent.{lies, field_lies}
use Rattle.balise_layout.proofs.Places.{missing}
use Rattle.balise_layout.proofs.packet_ref.PacketRef.field.Goals as goal

pub returns-in_default : goal.returns-in_default
returns-in_default c = sym (missing c.args.var c.args.k c.args.self.now.fields (sym c.in_default.ensures))

pub overflow_add-self-inside : goal.overflow_add-self-inside
overflow_add-self-inside c =
    let l = lies c.self.inside c.args.self.now c.self.invariant c.self.view_is in
    let f = field_lies _ _ _ _ _ c.args.var c.args.k c.in-Some.place l (sym c.in-Some.ensures) in
    omega (arith, f.within, l.within, c.len-len.ensures, c.len-len.type_inv)

pub number-requires-clause-within : goal.number-requires-clause-within
number-requires-clause-within c =
    let l = lies c.self.inside c.args.self.now c.self.invariant c.self.view_is in
    let f = field_lies _ _ _ _ _ c.args.var c.args.k c.in-Some.place l (sym c.in-Some.ensures) in
    omega (arith, f.within, l.within, c.width.ensures.width)

pub returns : goal.returns
returns c =
    let i = c.self.inside in
    let l = lies c.self.inside c.args.self.now c.self.invariant c.self.view_is in
    let f = field_lies _ _ _ _ _ c.args.var c.args.k c.in-Some.place l (sym c.in-Some.ensures) in
    ap Some (c.number.ensures ∙ ap (λ (w : ℕ). num (part (i.at + c.in-Some.place) w i.bits.now)) c.width.ensures.width) ∙ sym f.is
