-- Nothing stands after the fields of a known packet.
use Rattle.std.proofs.Common.{◌≡◌, ◌∙◌, ℕ, Bool, true, false, eqb, ◌||◌, ◌&&◌, List, [], ◌∷◌, refl, sym, ap}
use Rattle.balise_rules.specs.Forms.{Form, done, shut, never, valued, Fields, Matches}
use Rattle.balise_rules.specs.Packets.{is_known, known_body, body}
use Rattle.balise_rules.specs.Packet.{Packet}
use Rattle.balise_rules.proofs.PacketRead.{begins}
use Rattle.balise_codec.specs.Misfits.{front_value}
use Rattle.balise_codec.specs.Spelling.{Values, given, SpeltBy}
use Rattle.balise_codec.proofs.Fitting.{Lengthless, known_lengthless, lengthless_if}
use Rattle.balise_items.specs.Packets.{are_left, are_some}

body_shuts : (version n : ℕ) → is_known version n ≡ true → Lengthless ⊥ (body version n)
unfolding body
body_shuts version n k = rw k (lengthless_if ⊥ (eqb n 0 || eqb n 255) never (known_body n) tt (known_lengthless ⊥ n))

nothing_after : (form : Form) (fs : Fields) (raw : List Bool) → Lengthless ⊥ form → Matches form fs raw → raw ≡ []
nothing_after done fs raw s m = absurd s
nothing_after shut [] raw s m = m
nothing_after shut (f ∷ fs) raw s m = absurd m
nothing_after never fs raw s m = absurd m
nothing_after (valued v next) [] raw s m = absurd m
nothing_after (valued v next) (f ∷ fs) raw s m = nothing_after (next f.1) fs raw (s.1 f.1) m.2

-- no bits are left after the fields of a packet that is spelt
pub none_left : (version : ℕ) (vs : Values) (raw : List Bool) (p : Packet) → SpeltBy version vs raw p → are_left version vs raw ≡ false
none_left version vs raw p s =
    let b = begins version p.fields p.rest s.spelt.form s.spelt.numbered in
    let number : b.number ≡ front_value vs = ap (λ (fs : Fields). front_value (given fs)) (sym b.is) ∙ ap front_value s.values in
    by (is_known version (front_value vs)) refl (λ k. sym s.rest ∙ nothing_after (body version b.number) b.more p.rest (body_shuts version b.number (ap (is_known version) number ∙ k)) b.body)
  where
    by : (k : Bool) → is_known version (front_value vs) ≡ k → (k ≡ true → raw ≡ []) → (k && are_some raw) ≡ false
    by true e n = ap are_some (n refl)
    by false e n = refl
