-- A journal's line that fits gives an edit that is ready.
-- From the equivalence of refusal and acceptance, and for an insertion from the reading of its digits.
use Rattle.std.proofs.Common.{◌≡◌, ◌<◌, ℕ, Bool, true, false, cond, ◌&&◌, nat_lt, List, Option, Some, None, Result, Ok, Err, option_and_then, refl, sym, ap, subst, ◌∙◌}
use Rattle.std.specs.Prelude.{is_none}
use Rattle.std.proofs.lemmas.Bool.{and_parts, ltb-true, eqb-true}
use Rattle.balise_rules.specs.declared.refusal.Refusal.{Refusal}
use Rattle.balise_rules.specs.declared.tag.Tag.{Tag}
use Rattle.balise_rules.specs.Packet.{Packet, IsSpelt}
use Rattle.balise_rules.specs.Telegram.{Telegram, version_of}
use Rattle.balise_rules.specs.Plan.{Plan, telegram_at}
use Rattle.balise_rules.specs.Edits.{Edit, Item}
use Rattle.balise_rules.specs.declared.tagged_edit.TaggedEdit.TheVariants.{InsertPacket}
use Rattle.balise_rules.specs.Notes.{noted}
use Rattle.balise_rules.specs.Doing.{refusal}
use Rattle.balise_rules.specs.Accepting.{Spelt}
use Rattle.balise_rules.specs.Addresses.{packet_in}
use Rattle.balise_rules.specs.Journal.{Line, LineEdit, Noted, Nothing, Value, Number, BeforePacket, BeforeGroup, noted_of, same_noted}
use Rattle.balise_rules.specs.Opening.{or_nothing, packet_for, inserting, edit_in, fits_line, if_fits, item_of}
use Rattle.balise_rules.proofs.Tests.{tag_test, spot_one}
use Rattle.balise_rules.proofs.Cases.{unsome}
use Rattle.balise_edit_laws.specs.Lines.{LinesReady}
use Rattle.balise_edit_laws.proofs.Refusing.{refused_exactly}
use Rattle.balise_edit_laws.proofs.ReadyCommands.{word_spelt}

pub when_some : {A : Type 0} → (b : Bool) → (o : Option A) → (x : A) → cond b o None ≡ Some x → (b ≡ true) × (o ≡ Some x)
when_some true o x h = (refl, h)
when_some false o x h = absurd cc

none_is : {A : Type 0} → (o : Option A) → is_none o ≡ true → o ≡ None
none_is None h = refl
none_is (Some x) h = absurd cc

-- digits that are a packet for a telegram spell it there
word_for : (b : List Bool) → (y : Telegram) → (r : Result Packet Refusal) → packet_in (version_of y) b ≡ r → (x : Packet) → or_nothing r ≡ Some x → IsSpelt (version_of y) x
word_for b y (Err z) h x q = absurd cc
word_for b y (Ok z) h x q = subst (IsSpelt (version_of y)) (unsome q) (word_spelt (version_of y) b z h)

packet_of : (b : List Bool) → (o : Option Telegram) → (x : Packet) → option_and_then (packet_for b) o ≡ Some x → (y : Telegram) → o ≡ Some y → IsSpelt (version_of y) x
packet_of b None x h y q = absurd cc
packet_of b (Some z) x h y q = subst (λ (w : Telegram). IsSpelt (version_of w) x) (unsome q) (word_for b z (packet_in (version_of z) b) refl x h)

inserted : (g : Tag) → (t : ℕ) → (a : Option Tag) → (plan : Plan) → (o : Option Packet) → ((x : Packet) → o ≡ Some x → Spelt (InsertPacket g t a x) plan) → (e : Edit) → inserting g t a o ≡ Some e → Spelt e plan
inserted g t a plan None h e q = absurd cc
inserted g t a plan (Some x) h e q = subst (λ f. Spelt f plan) (unsome q) (h x refl)

line_spelt : (l : LineEdit) → (plan : Plan) → (e : Edit) → edit_in l plan ≡ Some e → Spelt e plan
line_spelt (InsertPacket g t a b) plan e h = inserted g t a plan (option_and_then (packet_for b) (telegram_at g t plan)) (packet_of b (telegram_at g t plan)) e h
line_spelt l plan e h = subst (λ f. Spelt f plan) (unsome h) tt

noted_same : (m n : Noted) → same_noted m n ≡ true → m ≡ n
noted_same Nothing Nothing h = refl
noted_same (Value m) (Value n) h = ap (λ x. Value x) (eqb-true m n h)
noted_same (Number m) (Number n) h = ap (λ x. Number x) (eqb-true m n h)
noted_same (BeforePacket a) (BeforePacket b) h = ap (λ x. BeforePacket x) (spot_one tag_test a b h)
noted_same (BeforeGroup a) (BeforeGroup b) h = ap (λ x. BeforeGroup x) (spot_one tag_test a b h)
noted_same m n h = absurd cc

-- the edit of a line that fits
record Taken (l : Line) (plan : Plan) (e : Item) : Type 0 where
  pub edit : edit_in l.edit plan ≡ Some e.1
  pub fits : fits_line l plan e.1 ≡ true
  pub serial : e.0 ≡ l.serial

taken : (l : Line) → (plan : Plan) → (o : Option Edit) → edit_in l.edit plan ≡ o → (e : Item) → if_fits l plan o ≡ Some e → Taken l plan e
taken l plan None q e h = absurd cc
taken l plan (Some f) q e h =
    let w = when_some (fits_line l plan f) (Some (l.serial, f)) e h in
    let same : (l.serial, f) ≡ e = unsome w.1 in
    let edit : f ≡ e.1 = ap (λ (x : Item). x.1) same in
    record { edit = q ∙ ap (λ x. Some x) edit; fits = ap (fits_line l plan) (sym edit) ∙ w.0; serial = sym (ap (λ (x : Item). x.0) same) }

-- its serial lies between
pub line_between : (last next : ℕ) → (l : Line) → (e : Item) → (plan : Plan) → item_of last next l plan ≡ Some e → (last < e.0) × (e.0 < next)
line_between last next l e plan h =
    let w = when_some (nat_lt last l.serial && nat_lt l.serial next) (if_fits l plan (edit_in l.edit plan)) e h in
    let between = and_parts (nat_lt last l.serial) (nat_lt l.serial next) w.0 in
    let t = taken l plan (edit_in l.edit plan) refl e w.1 in
    (subst (λ n. last < n) (sym t.serial) (ltb-true last l.serial between.0), subst (λ n. n < next) (sym t.serial) (ltb-true l.serial next between.1))

pub lines_ready : LinesReady
lines_ready last next l e plan sound unused h =
    let w = when_some (nat_lt last l.serial && nat_lt l.serial next) (if_fits l plan (edit_in l.edit plan)) e h in
    let between = line_between last next l e plan h in
    let t = taken l plan (edit_in l.edit plan) refl e w.1 in
    let f = and_parts (is_none (refusal e.1 plan)) (same_noted (noted_of e.1 (noted e.1 plan)) l.noted) t.fits in
    record {
      ready = record { sound = sound; unused = unused; spelt = line_spelt l.edit plan e.1 t.edit; accepted = (refused_exactly e.1 plan sound).0 (none_is (refusal e.1 plan) f.0) };
      serial = t.serial;
      above = between.0;
      below = between.1;
      note = noted_same (noted_of e.1 (noted e.1 plan)) l.noted f.1;
    }
