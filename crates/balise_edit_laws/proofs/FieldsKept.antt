-- An accepted edit leaves each packet spelt, and as long as it was.
-- From the steadiness of the forms, and the widths of what is set: a value that was asked for, a new number, a turned orientation or direction.
-- Headers have their own file.
use Rattle.std.proofs.Common.{◌≡◌, ℕ, ◌-◌, Bool, true, false, cond, ◌&&◌, eqb, IsTrue, Some, refl, sym, subst, ◌∙◌, arith}
use Rattle.std.proofs.lemmas.Bool.{and_parts, ltb-true, lt-ltb}
use Rattle.std.proofs.lemmas.Bool.Decides.{nat_tests}
use Rattle.balise_rules.specs.declared.tag.Tag.{Tag}
use Rattle.balise_rules.specs.declared.identity.Id.{Id}
use Rattle.balise_rules.specs.declared.variable.Var.{Var}
use Rattle.balise_rules.specs.declared.variable.Var.TheVariants.{LPacket, NidBg, QLinkorientation, QDir}
use Rattle.balise_rules.specs.Variables.{width_of, steers}
use Rattle.balise_rules.specs.Bits.{fits}
use Rattle.balise_rules.specs.Tags.{Key, same_var, same_tag, same_key, is_of}
use Rattle.balise_rules.specs.Forms.{Fields}
use Rattle.balise_rules.specs.Packets.{packet}
use Rattle.balise_rules.specs.Packet.{Packet, IsSpelt}
use Rattle.balise_rules.specs.Names.{country_at, calls, is_it}
use Rattle.balise_rules.specs.Accepting.{Lawful}
use Rattle.balise_rules.specs.Edits.{Edit, exchanged, field_after, packet_after}
use Rattle.balise_rules.specs.declared.tagged_edit.TaggedEdit.TheVariants.{SetVar, Renumber, TurnGroup}
use Rattle.balise_rules.proofs.Tests.{var_test}
use Rattle.balise_rules.proofs.Cases.{parts4}
use Rattle.balise_rules.proofs.Values.{value_kept}
use Rattle.balise_rules.proofs.Used.{width-each}
use Rattle.balise_rules.proofs.Tables.{packet_steady}
use Rattle.balise_edit_laws.proofs.FieldChanges.{steering_stays}
use Rattle.balise_edit_laws.proofs.Steady.{Fitting, matches-each, numbered-each}

-- a key of a variable
var_is : (v : Var) → (key : Key) → is_of v key ≡ true → v ≡ key.0
var_is v key e = var_test.one v key.0 e

pub wide : (v : Var) → (key : Key) → (n : ℕ) → is_of v key ≡ true → IsTrue (fits (width_of v) n) → IsTrue (fits (width_of key.0) n)
wide v key n e h = subst (λ w. IsTrue (fits (width_of w) n)) (var_is v key e) h

pub narrow : (v : Var) → (key : Key) → (n : ℕ) → is_of v key ≡ true → IsTrue (fits (width_of key.0) n) → IsTrue (fits (width_of v) n)
narrow v key n e h = subst (λ w. IsTrue (fits (width_of w) n)) (sym (var_is v key e)) h

flipped_fits : (n : ℕ) → IsTrue (fits (width_of QLinkorientation) n) → IsTrue (fits (width_of QLinkorientation) (1 - n))
unfolding width_of
flipped_fits n h = lt-ltb (1 - n) 2 (omega arith)

swapped_fits : (n : ℕ) → IsTrue (fits (width_of QDir) n) → IsTrue (fits (width_of QDir) (exchanged 0 1 n))
unfolding width_of
swapped_fits n h = let k = ltb-true n 4 h in lt-ltb (exchanged 0 1 n) 4 (grind (arith, nat_tests, k))

-- a value by cases fits where each case does
pub fits_if : (b : Bool) → (w x y : ℕ) → (b ≡ true → IsTrue (fits w x)) → (b ≡ false → IsTrue (fits w y)) → IsTrue (fits w (cond b x y))
fits_if true w x y h k = h refl
fits_if false w x y h k = k refl

fields_fit : (e : Edit) → Lawful e → (i : Id) → (g : Tag) → (t c : ℕ) → (p : Tag) → (fs : Fields) → Fitting (field_after e i g t c p fs)
fields_fit (SetVar g0 t0 p0 v0 k0 new) l i g t c p fs key n h =
    fits_if (same_tag g0 g && (eqb t0 t && (same_tag p0 p && same_key (v0, k0) key))) (width_of key.0) new n
    (λ e. let w = parts4 (same_tag g0 g) (eqb t0 t) (same_tag p0 p) (same_key (v0, k0) key) e in wide v0 key new (and_parts (same_var v0 key.0) (eqb k0 key.1) w.3).0 l.1) (λ e. h)
fields_fit (Renumber g0 new) l i g t c p fs key n h =
    fits_if (is_of NidBg key && is_it (country_at c key.1 fs) i (Some n)) (width_of key.0) new n (λ e. wide NidBg key new (and_parts (is_of NidBg key) _ e).0 l.0) (λ e. h)
fields_fit (TurnGroup g0) l i g t c p fs key n h =
    fits_if (is_of QLinkorientation key) (width_of key.0) (cond (calls c key.1 fs i) (1 - n) n) (cond (is_of QDir key && same_tag g0 g) (exchanged 0 1 n) n)
    (λ e. fits_if (calls c key.1 fs i) (width_of key.0) (1 - n) n (λ d. wide QLinkorientation key (1 - n) e (flipped_fits n (narrow QLinkorientation key n e h))) (λ d. h))
    (λ e. fits_if (is_of QDir key && same_tag g0 g) (width_of key.0) (exchanged 0 1 n) n
    (λ d. let w = (and_parts (is_of QDir key) (same_tag g0 g) d).0 in wide QDir key (exchanged 0 1 n) w (swapped_fits n (narrow QDir key n w h))) (λ d. h))
fields_fit e l i g t c p fs key n h = h

-- the packet stays spelt
pub packet_kept : (e : Edit) → Lawful e → (i : Id) → (g : Tag) → (t c : ℕ) → (p : Tag) → (version : ℕ) → (x : Packet) → IsSpelt version x → IsSpelt version (packet_after e i g t c p x)
unfolding steers
packet_kept e l i g t c p version x s =
    let h = field_after e i g t c p x.fields in
    record {
      spelt = refl;
      form = matches-each steers (packet version) x.fields x.rest (packet_steady version) h (λ key n k. steering_stays e l i g t c p x.fields key n k) (fields_fit e l i g t c p x.fields) s.form;
      numbered = numbered-each h x.fields s.numbered;
      said = value_kept h LPacket 0 x.fields (λ n. steering_stays e l i g t c p x.fields (LPacket, 0) n refl) ∙ s.said ∙ sym (width-each h x);
    }
