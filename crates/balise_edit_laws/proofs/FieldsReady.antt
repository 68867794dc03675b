-- A value set in a packet or a header can be set back.
-- From the old value, which was found there and fits its width, as each value of a sound plan does.
-- The place that was set stands as before.
use Rattle.std.proofs.Common.{◌≡◌, ℕ, [], Some, IsTrue, option_map, refl, sym, ap, subst, ◌∙◌}
use Rattle.balise_rules.specs.declared.tag.Tag.{Tag}
use Rattle.balise_rules.specs.declared.variable.Var.{Var}
use Rattle.balise_rules.specs.Variables.{width_of}
use Rattle.balise_rules.specs.Bits.{fits}
use Rattle.balise_rules.specs.Tagged.{find, each}
use Rattle.balise_rules.specs.Tags.{same_tag, same_key}
use Rattle.balise_rules.specs.Packets.{packet}
use Rattle.balise_rules.specs.Telegram.{header, version_of}
use Rattle.balise_rules.specs.Plan.{Plan, country_of, telegram_at}
use Rattle.balise_rules.specs.Edits.{Item, field_after, packet_after, head_after, telegram_after}
use Rattle.balise_rules.specs.declared.tagged_edit.TaggedEdit.TheVariants.{SetVar, SetHead}
use Rattle.balise_rules.specs.Notes.{noted, note_at, set_note}
use Rattle.balise_rules.specs.Doing.{done}
use Rattle.balise_rules.specs.Accepting.{Accepted}
use Rattle.balise_edit_laws.specs.TakenBack.{IsReady}
use Rattle.balise_rules.proofs.Tests.{tag_test, key_test}
use Rattle.balise_rules.proofs.Lists.{find-each}
use Rattle.balise_rules.proofs.Values.{value_found}
use Rattle.balise_rules.proofs.Found.{stood, packet_spelt, field_fits}
use Rattle.balise_rules.proofs.Accepted.{accepted_here, accepted_at}
use Rattle.balise_edit_laws.proofs.PacketsReady.{telegram_then}

pub set_ready : (s : ℕ) → (g : Tag) → (t : ℕ) → (p : Tag) → (v : Var) → (k n : ℕ) → (plan : Plan) → IsReady (s, SetVar g t p v k n) plan → Accepted (SetVar g t p v k (noted (SetVar g t p v k n) plan).old) (done (s, SetVar g t p v k n) plan)
set_ready s g t p v k n plan r =
    let e : Item = (s, SetVar g t p v k n) in
    let own = (noted e.1 plan).own in
    let y = accepted_here (SetVar g t p v k n) (telegram_at g t plan) r.accepted.1 in
    let x = y.2.0 in
    let old = y.2.2.0 in
    let w = (stood g t plan r.sound y.0 y.1).placed.sound in
    let z = telegram_after e own g t y.0 in
    let h = field_after e.1 own g t (country_of y.0) p x.fields in
    let old_is : (noted e.1 plan).old ≡ old =
    ap (λ o. (note_at e.1 o).old) y.1 ∙ ap (λ o. (set_note v k n (country_of y.0) o).old) y.2.1 ∙ value_found v k old x.fields y.2.2.1 in
    let fit : IsTrue (fits (width_of v) old) = field_fits (packet (version_of y.0)) x.fields x.rest (packet_spelt y.0 w p x y.2.1).form (v, k) old y.2.2.1 in
    let there : find same_tag p z.packets ≡ Some (packet_after e.1 own g t (country_of y.0) p x) =
    find-each tag_test (packet_after e.1 own g t (country_of y.0)) p y.0.packets ∙ ap (option_map (packet_after e.1 own g t (country_of y.0) p)) y.2.1 in
    let field : find same_key (v, k) (each h x.fields) ≡ Some (h (v, k) old) = find-each key_test h (v, k) x.fields ∙ ap (option_map (h (v, k))) y.2.2.1 in (
      (r.accepted.0.0, subst (λ m. IsTrue (fits (width_of v) m)) (sym old_is) fit),
      accepted_at (SetVar g t p v k (noted e.1 plan).old) (telegram_at g t (done e plan)) z (telegram_then e own plan g t y.0 (λ zs. refl) y.1) (packet_after e.1 own g t (country_of y.0) p x, there, (h (v, k) old, field)),
    )

pub set_head_ready : (s : ℕ) → (g : Tag) → (t : ℕ) → (v : Var) → (n : ℕ) → (plan : Plan) → IsReady (s, SetHead g t v n) plan → Accepted (SetHead g t v (noted (SetHead g t v n) plan).old) (done (s, SetHead g t v n) plan)
set_head_ready s g t v n plan r =
    let e : Item = (s, SetHead g t v n) in
    let own = (noted e.1 plan).own in
    let y = accepted_here (SetHead g t v n) (telegram_at g t plan) r.accepted.1 in
    let old = y.2.0 in
    let w = (stood g t plan r.sound y.0 y.1).placed.sound in
    let z = telegram_after e own g t y.0 in
    let h = head_after e.1 g t y.0.head in
    let old_is : (noted e.1 plan).old ≡ old = ap (λ o. (note_at e.1 o).old) y.1 ∙ value_found v 0 old y.0.head y.2.1 in
    let fit : IsTrue (fits (width_of v) old) = field_fits header y.0.head [] w.header (v, 0) old y.2.1 in
    let field : find same_key (v, 0) (each h y.0.head) ≡ Some (h (v, 0) old) = find-each key_test h (v, 0) y.0.head ∙ ap (option_map (h (v, 0))) y.2.1 in (
      (r.accepted.0.0, subst (λ m. IsTrue (fits (width_of v) m)) (sym old_is) fit),
      accepted_at (SetHead g t v (noted e.1 plan).old) (telegram_at g t (done e plan)) z (telegram_then e own plan g t y.0 (λ zs. refl) y.1) (h (v, 0) old, field),
    )
