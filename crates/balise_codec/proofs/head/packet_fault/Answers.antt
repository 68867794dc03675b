-- The first three fields decide where the packet's bits end.
use Rattle.std.proofs.Common.{◌≡◌, ◌∙◌, ◌+◌, ◌-◌, ℕ, List, Bool, Option, Some, None, inl, ap, sym, subst, take, drop, arith}
use Rattle.std.specs.Option.{IfSome, IfNone}
use Rattle.std.proofs.lemmas.List.{length-drop, drop-drop}
use Rattle.balise_rules.specs.Bits.{num}
use Rattle.balise_rules.specs.Packet.{length_said}
use Rattle.balise_layout.specs.First.{Bounded}
use Rattle.balise_codec.specs.declared.reach.Reach.{Reach}
use Rattle.balise_codec.specs.Heads.{HeadStops, Tells}
use Rattle.balise_codec.specs.Traces.{Reaches}
use Rattle.balise_codec.proofs.HeadsRead.{head_bounded, head_refused, on_ok, tells}
use Rattle.balise_codec.proofs.head.packet_fault.Goals.{In_default, After-number-size}
use Rattle.balise_codec.proofs.head.packet_fault.Goals as goal

some_of : (P : Reach → Type 0) (o : Option Reach) (r : Reach) → o ≡ Some r → IfSome o P → P r
some_of P None r e h = absurd cc
some_of P (Some x) r e h = subst P (let same : x ≡ r = cc in same) h

none_of : (P : Type 0) (o : Option Reach) → o ≡ None → IfNone o P → P
none_of P None e h = h
none_of P (Some x) e h = absurd cc

pub returns-in-Some-clause-tells : goal.returns-in-Some-clause-tells
returns-in-Some-clause-tells c =
    let b = drop c.args.at c.args.bits.now in
    let s = some_of (HeadStops b c.args.at) c.in_ok-reach.field-0 c.in-Some.reach c.in-Some.is c.in_ok-reach.ensures.stops in
    (head_refused c.args.version b s.1.unread, inl s)

bounded : (c : In_default) → Bounded (drop c.args.at c.args.bits.now) (num (take 8 (drop c.args.at c.args.bits.now))) (length_said (drop c.args.at c.args.bits.now))
bounded c =
    let b = drop c.args.at c.args.bits.now in
    let s = none_of _ c.in_ok-reach.field-0 c.in_default.is c.in_ok-reach.ensures.none in
    head_bounded b s.0 s.1

pub overflow_add-at : goal.overflow_add-at
overflow_add-at c = let h = bounded (goal.at.overflow_add-at c).In_default in omega (arith, h.least, h.within, length-drop c.args.at c.args.bits.now, c.len-len.ensures)

pub number-size-requires-clause-within : goal.number-size-requires-clause-within
number-size-requires-clause-within c = let h = bounded (goal.at.number-size-requires-clause-within c).In_default in omega (arith, h.least, h.within, length-drop c.args.at c.args.bits.now)

-- L_PACKET
said : (c : After-number-size) → c.number-size.result ≡ length_said (drop c.args.at c.args.bits.now)
said c = c.number-size.ensures ∙ ap (λ (x : List Bool). num (take 13 x)) (sym (drop-drop 10 c.args.at c.args.bits.now))

pub overflow_add-at-2 : goal.overflow_add-at-2
overflow_add-at-2 c =
    let h = bounded (goal.at.overflow_add-at-2 c).In_default in
    omega (arith, h.least, h.within, length-drop c.args.at c.args.bits.now, said (goal.at.overflow_add-at-2 c).After-number-size, c.len-len.ensures)

pub fields_to_fault-requires-clause-within : goal.fields_to_fault-requires-clause-within
fields_to_fault-requires-clause-within c =
    let h = bounded (goal.at.fields_to_fault-requires-clause-within c).In_default in
    omega (arith, h.least, h.within, length-drop c.args.at c.args.bits.now, said (goal.at.fields_to_fault-requires-clause-within c).After-number-size)

pub returns-clause-tells : goal.returns-clause-tells
returns-clause-tells c =
    let b = drop c.args.at c.args.bits.now in
    let n = c.number-size.result in
    let h = bounded (goal.at.returns-clause-tells c).In_default in
    let own : Bounded b (num (take 8 b)) n = subst (Bounded b (num (take 8 b))) (sym (said (goal.at.returns-clause-tells c).After-number-size)) h in
    let size : c.args.at + n - c.args.at ≡ n = omega arith in
    on_ok (λ r. Reaches c.args.version (take (c.args.at + n - c.args.at) b) (c.args.at + n) r) (Tells c.args.version b c.args.at) c.fields_to_fault.result
    (λ r s. tells c.args.version (num (take 8 b)) n c.args.at b r own (subst (λ (k : ℕ). Reaches c.args.version (take k b) (c.args.at + n) r) size s))
    c.fields_to_fault.ensures.reaches
