-- A variable that an edit sets in no header, or in no packet: its fields stay as they were.
-- From what each kind of edit sets: a header's number, place and double, a packet's numbers, orientations and directions, and what it names itself.
-- So a value of a header stays, and the country in force at an element.
use Rattle.std.proofs.Common.{◌≡◌, ℕ, false, ◌&&◌, eqb, refl, subst}
use Rattle.std.proofs.lemmas.Bool.{and_right}
use Rattle.balise_rules.specs.declared.tag.Tag.{Tag}
use Rattle.balise_rules.specs.declared.identity.Id.{Id}
use Rattle.balise_rules.specs.declared.variable.Var.{Var}
use Rattle.balise_rules.specs.declared.variable.Var.TheVariants.{NidC, NidBg, NPig, MDup, QLinkorientation, QDir}
use Rattle.balise_rules.specs.Tagged.{each}
use Rattle.balise_rules.specs.Tags.{Key, same_tag, same_var, same_key}
use Rattle.balise_rules.specs.Forms.{Fields}
use Rattle.balise_rules.specs.Packet.{value}
use Rattle.balise_rules.specs.Names.{country_at}
use Rattle.balise_rules.specs.Edits.{Edit, head_after, field_after}
use Rattle.balise_rules.specs.declared.tagged_edit.TaggedEdit.TheVariants.{SetVar, SetHead, Renumber, TurnGroup}
use Rattle.balise_rules.proofs.Tests.{var_test}
use Rattle.balise_rules.proofs.Values.{value_kept}
use Rattle.balise_rules.proofs.Names.{country-each}

-- no header has this variable set
abbrev pub KeepsHead : Edit → Var → Type 0
KeepsHead (SetHead g t v n) w = same_var v w ≡ false
KeepsHead (Renumber g n) w = same_var NidBg w ≡ false
KeepsHead (TurnGroup g) w = (same_var MDup w ≡ false) × (same_var NPig w ≡ false)
KeepsHead e w = Unit {0}

pub head_untouched : (e : Edit) → (w : Var) → KeepsHead e w → (g : Tag) → (t : ℕ) → (hs : Fields) → (n : ℕ) → head_after e g t hs (w, 0) n ≡ n
head_untouched (SetHead g0 t0 v0 new) w k g t hs n = simp k
head_untouched (Renumber g0 new) w k g t hs n = simp k
head_untouched (TurnGroup g0) w k g t hs n = let a = k.0 in let b = k.1 in simp (a, b)
head_untouched e w k g t hs n = refl

pub value_untouched : (e : Edit) → (w : Var) → KeepsHead e w → (g : Tag) → (t : ℕ) → (hs : Fields) → value w 0 (each (head_after e g t hs) hs) ≡ value w 0 hs
value_untouched e w k g t hs = value_kept (head_after e g t hs) w 0 hs (head_untouched e w k g t hs)

-- no packet has this variable set
abbrev pub KeepsFields : Edit → Var → Type 0
KeepsFields (SetVar g t p v k n) w = same_var v w ≡ false
KeepsFields (Renumber g n) w = same_var NidBg w ≡ false
KeepsFields (TurnGroup g) w = (same_var QLinkorientation w ≡ false) × (same_var QDir w ≡ false)
KeepsFields e w = Unit {0}

pub field_untouched : (e : Edit) → (key : Key) → KeepsFields e key.0 → (i : Id) → (g : Tag) → (t c : ℕ) → (p : Tag) → (fs : Fields) → (n : ℕ) → field_after e i g t c p fs key n ≡ n
field_untouched (SetVar g0 t0 p0 v0 k0 new) key k i g t c p fs n =
    let b : same_key (v0, k0) key ≡ false = simp k in
    let d : (same_tag g0 g && (eqb t0 t && (same_tag p0 p && same_key (v0, k0) key))) ≡ false = and_right (same_tag g0 g) _ (and_right (eqb t0 t) _ (and_right (same_tag p0 p) _ b)) in
    simp d
field_untouched (Renumber g0 new) key k i g t c p fs n = simp k
field_untouched (TurnGroup g0) key k i g t c p fs n = let a = k.0 in let b = k.1 in simp (a, b)
field_untouched e key k i g t c p fs n = refl

pub country_untouched : (e : Edit) → KeepsFields e NidC → (i : Id) → (g : Tag) → (t c : ℕ) → (p : Tag) → (k : ℕ) → (fs : Fields) → country_at c k (each (field_after e i g t c p fs) fs) ≡ country_at c k fs
country_untouched e s i g t c p k fs =
    country-each (field_after e i g t c p fs) (λ key n h. field_untouched e key (subst (KeepsFields e) (var_test.one NidC key.0 h) s) i g t c p fs n) c k fs
