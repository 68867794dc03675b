-- What a type of packets does with its bits: it reads them, goes over them, and puts values into them.
use Rattle.std.proofs.Common.{◌≡◌, ◌↔◌, ℕ, ◌^◌, ◌<◌, Bool, false, List, [], length, Option, is_some, Some, None, Ok, Err, sym, ap, subst, ◌∙◌}
use Rattle.balise_rules.specs.declared.variable.Var.{Var}
use Rattle.balise_rules.specs.declared.variable.Var.TheVariants.{NidPacket}
use Rattle.balise_rules.specs.Variables.{width_of, steers}
use Rattle.balise_rules.specs.Bits.{bits, put_at}
use Rattle.balise_rules.specs.Forms.{Form, Fields, Matches, read_form}
use Rattle.balise_rules.specs.Packets.{packet, is_known, body}
use Rattle.balise_rules.proofs.Cases.{unok}
use Rattle.balise_rules.specs.Packet.{Packet, bits_of, value, width, length_said, IsSpelt}
use Rattle.balise_layout.specs.declared.fault.LayoutFault.{LayoutFault}
use Rattle.balise_layout.specs.declared.fault.LayoutFault.TheVariants.{LayoutMismatch}
use Rattle.balise_layout.specs.Walks.{walk, kept, collect}
use Rattle.balise_rules.specs.Steady.{IsSteady}
use Rattle.balise_layout.specs.Held.{headed, held, Holds, IsHeld, before, with_field}
use Rattle.balise_layout.specs.Layouts.{next_of}
use Rattle.balise_layout.proofs.Walks.{good, walk_again, walk_found, walk_fails, walk_fault, found_or_none, read_form_is}
use Rattle.balise_layout.proofs.Spelt.{read_spelling, head_of, number_is, holds_read, read_holds, held_is, is_held}
use Rattle.balise_layout.proofs.Layouts.{next_spelt}
use Rattle.balise_layout.specs.LayoutLaws.{spelt_in}
use Rattle.balise_layout.proofs.Setting.{Holds-put}

-- ---- reading

-- bits that were gone over to the end are a packet's
pub walked_held : {A : Type 0} (step : A → ℕ → Var → ℕ → A) (next : ℕ → Form) (a : A) (b : List Bool) (after : A × List Bool) → walk step (headed next) (a, b) ≡ Ok after → length_said b ≡ length b → IsHeld next b
walked_held step next a b after e said =
    let f = walk_found [] step (headed next) a b after e in
    let read : read_form (headed next) [] b ≡ Some (f.fields, after.1) = ap (read_form (headed next) []) f.parts ∙ read_spelling (headed next) f.fields after.1 f.matches f.numbered in
    is_held next b (record { fields = f.fields; rest = after.1 }) (holds_read next b f.fields after.1 read said)

pub held_read : (next : ℕ → Form) (b : List Bool) (p : Packet) → IsHeld next b → p ≡ held next b → read_form (headed next) [] b ≡ Some (p.fields, p.rest)
held_read next b p h e = read_holds next b (held next b) h ∙ ap (λ (q : Packet). Some (q.fields, q.rest)) (sym e)

-- bits that could not be gone over are no packet
pub walked_none : {A : Type 0} (step : A → ℕ → Var → ℕ → A) (form : Form) (a : A) (b : List Bool) (e : LayoutFault) (y : A × List Bool) → walk step form (a, b) ≡ Err (e, y) → (e ≡ LayoutMismatch) × (read_form form [] b ≡ None)
walked_none step form a b e y h =
    (walk_fault step form a b e y h, read_form_is form [] b ∙ ap found_or_none (walk_fails step collect form a [] b e y h).1)

-- ---- going over a packet

walk_is : {A : Type 0} (step : A → ℕ → Var → ℕ → A) (next : ℕ → Form) (a : A) (b : List Bool) (p : Packet) (old : A × List Bool) → Holds next b p → old ≡ (a, b) → walk step (headed next) old ≡ Ok (kept step a (width p) p.fields, p.rest)
walk_is {A = A} step next a b p old h start =
    let same : old ≡ (a, bits_of p) = start ∙ ap (λ (x : List Bool). (a, x)) h.spelt in
    ap (walk step (headed next)) same ∙ walk_again step (headed next) p.fields a p.rest h.form

pub visited : {A : Type 0} (step : A → ℕ → Var → ℕ → A) (next : ℕ → Form) (a : A) (b : List Bool) (p : Packet) (old after : A × List Bool) → Holds next b p → old ≡ (a, b) → walk step (headed next) old ≡ Ok after → after.0 ≡ kept step a (width p) p.fields
visited {A = A} step next a b p old after h start e =
    ap (λ (x : A × List Bool). x.0) (unok (sym e ∙ walk_is step next a b p old h start))

pub not_stuck : {A : Type 0} (step : A → ℕ → Var → ℕ → A) (next : ℕ → Form) (a : A) (b : List Bool) (p : Packet) (old : A × List Bool) (e : LayoutFault) (y : A × List Bool) → Holds next b p → old ≡ (a, b) → walk step (headed next) old ≡ Err (e, y) → ⊥
not_stuck {A = A} step next a b p old e y h start is = differ (kept step a (width p) p.fields, p.rest) (e, y) (sym (walk_is step next a b p old h start) ∙ is)
  where
    differ : (x : A × List Bool) (e : LayoutFault × (A × List Bool)) → good x ≡ Err e → ⊥
    differ x e k = cc

-- ---- putting a value

pub holds_own : (next : ℕ → Form) (b : List Bool) (p : Packet) → Holds next b p → Holds next (bits_of p) p
holds_own next b p h = subst (λ (x : List Bool). Holds next x p) h.spelt h

pub put_held : (next : ℕ → Form) (b : List Bool) (p : Packet) (v : Var) (k n d : ℕ) → ((m : ℕ) → IsSteady steers (next m)) → steers v ≡ false → n < 2 ^ width_of v → Holds next b p → before (v, k) p.fields ≡ Some d → IsHeld next (put_at d (bits (width_of v) n) b) × (held next (put_at d (bits (width_of v) n) b) ≡ with_field v k n p)
put_held next b p v k n d s free fit h e =
    let new = Holds-put next b p v k n d s free fit h e in
    (is_held next _ (with_field v k n p) new, held_is next _ (with_field v k n p) new)

-- ---- which versions spell it

pub spelt_where : (own : Option ℕ) (version : ℕ) (b : List Bool) (p : Packet) → Holds (next_of own) b p → (is_known version (value NidPacket 0 p.fields) ≡ is_some own) ↔ IsSpelt version p
unfolding packet
spelt_where own version b p h =
    let next = next_of own in
    let a = head_of next p.fields p.rest h.form h.numbered in
    let test : is_known version (value NidPacket 0 p.fields) ≡ is_known version a.number = ap (is_known version) (number_is next p.fields p.rest a) in
    let iff = next_spelt own version a.number a.more p.rest a.matches in
    (λ e. spelt_in version own p (holds_own next b p h) e, λ s. test ∙ iff.0 ((subst (λ (x : Fields). Matches (headed (body version)) x p.rest) a.is s.form).2.2.2))
