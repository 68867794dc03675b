-- The laws of each layout: what is written is read, is as long as said, and has one encoding.
-- A trait's laws cite these, so they stand here and not in proofs/.
use Rattle.std.specs.Prelude.{◌≡◌, ℕ, Bool, true, false, not, ◌||◌, ◌&&◌, cond, List, [], ◌∷◌, length, Option, Some, None, is_some, refl}
use Rattle.std.proofs.Common.{eqb, ap, sym, subst, ◌∙◌}
use Rattle.std.proofs.lemmas.Bool.{eqb-true, eq-eqb}
use Rattle.balise_rules.specs.declared.variable.Var.TheVariants.{NidPacket}
use Rattle.balise_rules.specs.Tags.{Key}
use Rattle.balise_rules.specs.Forms.{Form, done, never, Fields, Matches, Numbered, read_form}
use Rattle.balise_rules.specs.Packets.{is_known, known_body, body, packet, major}
use Rattle.balise_rules.specs.Packet.{Packet, bits_of, value, IsSpelt}
use Rattle.balise_rules.proofs.Cases.{unsome}
use Rattle.balise_rules.proofs.PacketAgain.{first_again}
use Rattle.balise_rules.proofs.Spelt.{read_again}
use Rattle.balise_layout.specs.Held.{headed, Holds}
use Rattle.balise_layout.specs.Laws.{HasOneSpelling, IsAsLongAsSaid, WrittenIsRead}
use Rattle.balise_layout.specs.Layouts.{form_of, takes, next_by, next_of, layout_in}

-- ---- by which layout a version reads a number

and_false : (b : Bool) → (b && false) ≡ false
and_false true = refl
and_false false = refl

-- packets 0 and 255 are known in no version
pub none_known : (version n : ℕ) → (eqb n 0 || eqb n 255) ≡ true → is_known version n ≡ false
unfolding is_known
none_known version n e = at (eqb n 0) (eqb n 255) refl refl e
  where
    at : (a b : Bool) → eqb n 0 ≡ a → eqb n 255 ≡ b → (a || b) ≡ true → is_known version n ≡ false
    at true b p q h = let zero : n ≡ 0 = eqb-true n 0 p in subst (λ (x : ℕ). is_known version x ≡ false) (sym zero) (and_false (eqb (major version) 2))
    at false true p q h = let last : n ≡ 255 = eqb-true n 255 q in subst (λ (x : ℕ). is_known version x ≡ false) (sym last) (and_false (eqb (major version) 2))
    at false false p q h = absurd cc

known_real : (version n : ℕ) → is_known version n ≡ true → (eqb n 0 || eqb n 255) ≡ false
known_real version n known = at (eqb n 0 || eqb n 255) refl
  where
    at : (b : Bool) → (eqb n 0 || eqb n 255) ≡ b → b ≡ false
    at true e = let both : true ≡ false = sym known ∙ none_known version n e in absurd cc
    at false e = refl

pub layout_reads : (version n : ℕ) → next_of (layout_in version n) n ≡ body version n
unfolding next_by form_of takes layout_in body
layout_reads version n = at (is_known version n) refl
  where
    kept : (b : Bool) → cond (not b) done never ≡ cond b never done
    kept true = refl
    kept false = refl

    at : (b : Bool) → is_known version n ≡ b → next_of (cond b (Some n) None) n ≡ cond (eqb n 0 || eqb n 255) never (cond b (known_body n) done)
    at true k = rw (eq-eqb n n refl, known_real version n k) refl
    at false k = kept (eqb n 0 || eqb n 255)

-- ---- what is written is read

-- a packet of the layout, where the version knows its number as the layout says, is of the form of the version
next_in : (version n : ℕ) (own : Option ℕ) (fs : Fields) (rest : List Bool) → is_known version n ≡ is_some own → Matches (next_of own n) fs rest → Matches (body version n) fs rest
unfolding next_by takes layout_in
next_in version n None fs rest k m =
    let own : layout_in version n ≡ None = rw k refl in
    subst (λ (x : Form). Matches x fs rest) (ap (λ (o : Option ℕ). next_of o n) (sym own) ∙ layout_reads version n) m
next_in version n (Some own) fs rest k m = at (eqb n own) refl m
  where
    at : (b : Bool) → eqb n own ≡ b → Matches (cond b (form_of (Some own)) never) fs rest → Matches (body version n) fs rest
    at false e h = absurd h
    at true e h =
        let same : own ≡ n = sym (eqb-true n own e) in
        let its : layout_in version n ≡ Some own = rw k (ap Some (sym same)) in
        let whole : Matches (next_of (Some own) n) fs rest = m in
        subst (λ (x : Form). Matches x fs rest) (ap (λ (o : Option ℕ). next_of o n) (sym its) ∙ layout_reads version n) whole

-- the number is the first field's value
first_value : (next : ℕ → Form) (f : Key × ℕ) (fs : Fields) (rest : List Bool) → Numbered (f ∷ fs) → Matches (headed next) (f ∷ fs) rest → value NidPacket 0 (f ∷ fs) ≡ f.1
first_value next ((v, k), a) fs rest n m =
    let var : v ≡ NidPacket = m.0 in
    let first : k ≡ 0 = n.0 in
    let is : ((v, k), a) ∷ fs ≡ ((NidPacket, 0), a) ∷ fs = cc in
    ap (value NidPacket 0) is

in_version : (version : ℕ) (own : Option ℕ) (fs : Fields) (rest : List Bool) → is_known version (value NidPacket 0 fs) ≡ is_some own → Numbered fs → Matches (headed (next_of own)) fs rest → Matches (headed (body version)) fs rest
in_version version own [] rest k n m = absurd m
in_version version own (f ∷ []) rest k n m = absurd m.2
in_version version own (f ∷ g ∷ []) rest k n m = absurd m.2.2
in_version version own (f ∷ g ∷ h ∷ more) rest k n m =
    let number = first_value (next_of own) f (g ∷ h ∷ more) rest n m in
    (m.0, m.1, (m.2.0, m.2.1, (m.2.2.0, m.2.2.1, next_in version f.1 own more rest (ap (is_known version) (sym number) ∙ k) m.2.2.2)))

pub spelt_in : (version : ℕ) (own : Option ℕ) (p : Packet) → Holds (next_of own) (bits_of p) p → is_known version (value NidPacket 0 p.fields) ≡ is_some own → IsSpelt version p
unfolding packet
spelt_in version own p h k = record { spelt = refl; form = in_version version own p.fields p.rest k h.numbered h.form; numbered = h.numbered; said = h.said }

pub reads_written : (own : Option ℕ) (form : Form) → form_of own ≡ form → WrittenIsRead own form
reads_written own form e =
    subst (WrittenIsRead own) e (λ version p after h k. first_again version p after (spelt_in version own p h k))

-- ---- it is as long as said, and has one encoding

pub long_as_said : (own : Option ℕ) (form : Form) → IsAsLongAsSaid own form
long_as_said own form b p h = h.said ∙ ap length h.spelt

pub spelt_once : (own : Option ℕ) (form : Form) → HasOneSpelling own form
spelt_once own form = record { one_packet = one; one_spelling = λ a b p h i. h.spelt ∙ sym i.spelt }
  where
    reads : (b : List Bool) (p : Packet) → Holds (next_by own form) b p → read_form (headed (next_by own form)) [] b ≡ Some (p.fields, p.rest)
    reads b p h = ap (read_form (headed (next_by own form)) []) h.spelt ∙ read_again (headed (next_by own form)) [] p.fields p.rest h.form h.numbered

    one : (b : List Bool) (p q : Packet) → Holds (next_by own form) b p → Holds (next_by own form) b q → p ≡ q
    one b p q h i = ap (λ (r : Fields × List Bool). record { fields = r.0; rest = r.1 }) (unsome (sym (reads b p h) ∙ reads b q i))
