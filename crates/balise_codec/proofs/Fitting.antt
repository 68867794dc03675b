-- L_PACKET stands but once in a packet: no form after the first three fields has it, and a known packet's form ends where the
-- bits do. So a packet's values fit.
use Rattle.std.proofs.Common.{◌≡◌, ◌∙◌, ℕ, zero, suc, ◌+◌, Bool, true, false, cond, eqb, ◌||◌, List, [], ◌∷◌, map, None, refl, ap, sym}
use Rattle.balise_rules.specs.declared.variable.Var.TheVariants.{LPacket, NidC}
use Rattle.balise_rules.specs.Variables.{width_of}
use Rattle.balise_rules.specs.Bits.{fits}
use Rattle.balise_rules.specs.Tags.{same_var}
use Rattle.balise_rules.specs.Forms.{Form, done, shut, never, valued, plain, repeat, Fields, Matches}
use Rattle.balise_rules.specs.Packets.{packet, counted, country, link, linking, gradient, gradients, difference, section, speeds, level, levels, restriction, revocation, infill, is_known, known_body, body}
use Rattle.balise_rules.specs.Packet.{Packet, IsSpelt}
use Rattle.balise_rules.proofs.Tests.{var_test, equal_yes}
use Rattle.balise_rules.proofs.PacketRead.{begins, three}
use Rattle.balise_rules.proofs.PacketAgain.{bodied}
use Rattle.balise_codec.specs.Spelling.{Values, said, given, SpeltBy}
use Rattle.balise_codec.specs.Misfits.{misfit_along, first_misfit}

-- No field of the form is L_PACKET. E holds where it may end before the bits do: E is ⊥ for a form that may not.
abbrev pub Lengthless : Type 0 → Form → Type 0
Lengthless E done = E
Lengthless E shut = Unit {0}
Lengthless E never = Unit {0}
Lengthless E (valued v next) = (same_var v LPacket ≡ false) × ((n : ℕ) → Lengthless E (next n))

-- ---- what forms are made of

pub lengthless_if : (E : Type 0) (b : Bool) (x y : Form) → Lengthless E x → Lengthless E y → Lengthless E (cond b x y)
lengthless_if E true x y s t = s
lengthless_if E false x y s t = t

-- a part that is lengthless before each lengthless rest
abbrev LengthlessPart : Type 0 → (Form → Form) → Type 0
LengthlessPart E part = (rest : Form) → Lengthless E rest → Lengthless E (part rest)

lengthless_repeat : (E : Type 0) (part : Form → Form) → LengthlessPart E part → (n : ℕ) → LengthlessPart E (repeat n part)
lengthless_repeat E part h zero rest s = s
lengthless_repeat E part h (suc n) rest s = h (repeat n part rest) (lengthless_repeat E part h n rest s)

lengthless_counted : (E : Type 0) (part : Form → Form) → LengthlessPart E part → LengthlessPart E (counted part)
unfolding counted
lengthless_counted E part h rest s = (refl, λ n. lengthless_repeat E part h n rest s)

-- ---- the packets

lengthless_gradient : (E : Type 0) → LengthlessPart E gradient
unfolding gradient
lengthless_gradient E rest s = (refl, λ _. (refl, λ _. (refl, λ _. s)))

lengthless_difference : (E : Type 0) → LengthlessPart E difference
unfolding difference
lengthless_difference E rest s = (refl, λ q. lengthless_if E (eqb q 0) _ _ (refl, λ _. (refl, λ _. s)) (lengthless_if E (eqb q 3) never _ tt (refl, λ _. (refl, λ _. s))))

lengthless_section : (E : Type 0) → LengthlessPart E section
unfolding section
lengthless_section E rest s = (refl, λ _. (refl, λ _. (refl, λ _. lengthless_counted E difference (lengthless_difference E) rest s)))

lengthless_level : (E : Type 0) → LengthlessPart E level
unfolding level
lengthless_level E rest s = (refl, λ m. lengthless_if E (eqb m 1) _ _ (refl, λ _. (refl, λ _. s)) (refl, λ _. s))

lengthless_country : (E : Type 0) (new : ℕ) → LengthlessPart E (country new)
lengthless_country E new rest s = lengthless_if E (eqb new 1) (plain NidC rest) rest (refl, λ _. s) s

lengthless_link : (E : Type 0) → LengthlessPart E link
unfolding link
lengthless_link E rest s = (refl, λ _. (refl, λ new. lengthless_country E new _ (refl, λ _. (refl, λ _. (refl, λ _. (refl, λ _. s))))))

lengthless_linking : (E : Type 0) → LengthlessPart E linking
unfolding linking
lengthless_linking E rest s = (refl, λ _. lengthless_link E _ (lengthless_counted E link (lengthless_link E) rest s))

lengthless_infill : (E : Type 0) → LengthlessPart E infill
unfolding infill
lengthless_infill E rest s = (refl, λ new. lengthless_country E new _ (refl, λ _. s))

lengthless_gradients : (E : Type 0) → LengthlessPart E gradients
unfolding gradients
lengthless_gradients E rest s = (refl, λ _. lengthless_gradient E _ (lengthless_counted E gradient (lengthless_gradient E) rest s))

lengthless_speeds : (E : Type 0) → LengthlessPart E speeds
unfolding speeds
lengthless_speeds E rest s = (refl, λ _. lengthless_section E _ (lengthless_counted E section (lengthless_section E) rest s))

lengthless_levels : (E : Type 0) → LengthlessPart E levels
unfolding levels
lengthless_levels E rest s = (refl, λ _. (refl, λ _. lengthless_level E _ (lengthless_counted E level (lengthless_level E) rest s)))

lengthless_restriction : (E : Type 0) → LengthlessPart E restriction
unfolding restriction
lengthless_restriction E rest s = (refl, λ _. (refl, λ _. (refl, λ _. (refl, λ _. (refl, λ _. (refl, λ _. s))))))

lengthless_revocation : (E : Type 0) → LengthlessPart E revocation
unfolding revocation
lengthless_revocation E rest s = (refl, λ _. s)

pub known_lengthless : (E : Type 0) (n : ℕ) → Lengthless E (known_body n)
unfolding known_body
known_lengthless E n = lengthless_if E (eqb n 5) _ _ (lengthless_linking E shut tt) (lengthless_if E (eqb n 21) _ _ (lengthless_gradients E shut tt) (lengthless_if E (eqb n 27) _ _ (lengthless_speeds E shut tt) (lengthless_if E (eqb n 41) _ _ (lengthless_levels E shut tt) (lengthless_if E (eqb n 65) _ _ (lengthless_restriction E shut tt) (lengthless_if E (eqb n 66) _ _ (lengthless_revocation E shut tt) (lengthless_infill E shut tt))))))

pub body_lengthless : (version n : ℕ) → Lengthless (Unit {0}) (body version n)
unfolding body
body_lengthless version n = lengthless_if (Unit {0}) (eqb n 0 || eqb n 255) never _ tt (lengthless_if (Unit {0}) (is_known version n) _ done (known_lengthless (Unit {0}) n) tt)

-- ---- what is spelt fits

fields_fit : (form : Form) (fs : Fields) (raw : List Bool) (i : ℕ) → Lengthless (Unit {0}) form → Matches form fs raw → misfit_along form i (map said fs) ≡ None
unfolding misfit_along
fields_fit done [] raw i s m = refl
fields_fit done (f ∷ fs) raw i s m = absurd m
fields_fit shut [] raw i s m = refl
fields_fit shut (f ∷ fs) raw i s m = absurd m
fields_fit never fs raw i s m = absurd m
fields_fit (valued v next) [] raw i s m = absurd m
fields_fit (valued v next) (f ∷ fs) raw i s m =
    let other : same_var v LPacket ≡ false = s.0 in
    let own : same_var f.0.0 v ≡ true = equal_yes var_test f.0.0 v m.0 in
    let fit : fits (width_of v) f.1 ≡ true = m.1 in
    rw (other, own, fit) (fields_fit (next f.1) fs raw (i + 1) (s.1 f.1) m.2)

packet_fits : (version : ℕ) (p : Packet) → IsSpelt version p → first_misfit version (given p.fields) ≡ None
unfolding misfit_along packet width_of
packet_fits version p s =
    let b = begins version p.fields p.rest s.form s.numbered in
    let one : fits 8 b.number ≡ true = b.number_fits in
    let two : fits 2 b.direction ≡ true = b.direction_fits in
    let real : (eqb b.number 0 || eqb b.number 255) ≡ false = bodied version b.number b.more p.rest b.body in
    let more : misfit_along (body version b.number) (0 + 1 + 1) (map said b.more) ≡ None = fields_fit (body version b.number) b.more p.rest (0 + 1 + 1) (body_lengthless version b.number) b.body in
    let all : first_misfit version (given (three b.number b.direction b.said b.more)) ≡ None = rw (real, one, two) more in
    ap (λ (x : Fields). first_misfit version (given x)) b.is ∙ all

pub spelt_fits : (version : ℕ) (vs : Values) (raw : List Bool) (p : Packet) → SpeltBy version vs raw p → first_misfit version vs ≡ None
spelt_fits version vs raw p s = ap (first_misfit version) (sym s.values) ∙ packet_fits version p s.spelt
