-- Only a deletion and a removal note what they take out; and what an entry says where its edit was the last one, or is the next one.
use Rattle.std.proofs.Common.{◌≡◌, ◌∙◌, ℕ, false, Option, Some, None, refl, sym, ap, subst}
use Rattle.balise_rules.specs.declared.tag.Tag.{Tag}
use Rattle.balise_rules.specs.declared.variable.Var.{Var}
use Rattle.balise_rules.specs.Tagged.{find, behind}
use Rattle.balise_rules.specs.Tags.{same_tag}
use Rattle.balise_rules.specs.Packet.{Packet}
use Rattle.balise_rules.specs.Telegram.{Telegram}
use Rattle.balise_rules.specs.Plan.{Group, Plan, country_of, telegram_at}
use Rattle.balise_rules.specs.Edits.{Edit}
use Rattle.balise_rules.specs.declared.tagged_edit.TaggedEdit.TheVariants.{SetVar, SetHead, InsertPacket, DeletePacket, MovePacket, AddGroup, DropGroup, Renumber, TurnGroup}
use Rattle.balise_rules.specs.Notes.{Note, noted, note_at, note_in, note_drop, note_group, set_note, without_content}
use Rattle.balise_rules.specs.Back.{back}
use Rattle.balise_rules.specs.Paths.{Entry}
use Rattle.balise_edit_laws.specs.GoesBack.{AsksBack}
use Rattle.balise_edits.specs.Notes.{takes_out}
use Rattle.balise_edits.specs.Standing.{changed_to, IsLast}
use Rattle.balise_edits.proofs.Standing.{last_asks}
use Rattle.balise_plan.specs.Held as held

abbrev IsBare : Note → Type 0
IsBare m = without_content m ≡ m

bare_set : (v : Var) (k n c : ℕ) (o : Option Packet) → IsBare (set_note v k n c o)
bare_set v k n c None = refl
bare_set v k n c (Some x) = refl

bare_in : (e : Edit) (y : Telegram) → takes_out e ≡ false → IsBare (note_in e y)
bare_in (SetVar g t p v k n) y h = bare_set v k n (country_of y) (find same_tag p y.packets)
bare_in (DeletePacket g t p) y h = absurd (cc)
bare_in e y h = refl

bare_at : (e : Edit) (o : Option Telegram) → takes_out e ≡ false → IsBare (note_at e o)
bare_at e None h = refl
bare_at e (Some y) h = bare_in e y h

bare_group : (o : Option Group) → IsBare (note_group o)
bare_group None = refl
bare_group (Some ys) = refl

bare_noted : (e : Edit) (plan : Plan) → takes_out e ≡ false → IsBare (noted e plan)
bare_noted (SetVar g t p v k n) plan h = bare_at (SetVar g t p v k n) (telegram_at g t plan) h
bare_noted (SetHead g t v n) plan h = bare_at (SetHead g t v n) (telegram_at g t plan) h
bare_noted (InsertPacket g t a x) plan h = bare_at (InsertPacket g t a x) (telegram_at g t plan) h
bare_noted (DeletePacket g t p) plan h = absurd (cc)
bare_noted (MovePacket g t p a) plan h = bare_at (MovePacket g t p a) (telegram_at g t plan) h
bare_noted (AddGroup a bs) plan h = refl
bare_noted (DropGroup g) plan h = absurd (cc)
bare_noted (Renumber g n) plan h = bare_group (find same_tag g plan)
bare_noted (TurnGroup g) plan h = bare_group (find same_tag g plan)

-- a deletion notes no group, a removal no packet
deleted_at : (g : Tag) (t : ℕ) (p : Tag) (o : Option Telegram) → (note_at (DeletePacket g t p) o).group ≡ None
deleted_at g t p None = refl
deleted_at g t p (Some y) = refl

pub no_group : (g : Tag) (t : ℕ) (p : Tag) (plan : Plan) → (noted (DeletePacket g t p) plan).group ≡ None
no_group g t p plan = deleted_at g t p (telegram_at g t plan)

dropped_at : (b : Option Tag) (o : Option Group) → (note_drop b o).packet ≡ None
dropped_at b None = refl
dropped_at b (Some ys) = refl

pub no_packet : (g : Tag) (plan : Plan) → (noted (DropGroup g) plan).packet ≡ None
no_packet g plan = dropped_at (behind same_tag g plan) (find same_tag g plan)

-- ---- the entry of an edit that was the last one

-- where it takes nothing out, its entry has nothing to lose
pub bare_last : {f : Entry} {e : Edit} {groups : Plan} → IsLast f groups → f.0.1 ≡ e → takes_out e ≡ false → f ≡ (f.0, without_content f.1)
bare_last {f = f} l is h =
    let bare : without_content (noted f.0.1 l.before) ≡ noted f.0.1 l.before = bare_noted f.0.1 l.before (ap takes_out is ∙ h) in
    ap (λ m. (f.0, m)) (rw (← l.noted_there) (sym bare))

-- what taking it back asks of the plan holds
pub asks_of : {f : Entry} {e : Edit} {groups : Plan} → IsLast f groups → f.0.1 ≡ e → AsksBack (f.0.0, e) f.1 groups
asks_of {f = f} {groups = groups} l is = subst (λ x. AsksBack (f.0.0, x) f.1 groups) is (last_asks f groups l)

-- it is taken back as that edit is
pub back_of : {f : Entry} {e : Edit} (old : held.Plan) → IsLast f old.groups → f.0.1 ≡ e → changed_to (back (f.0.0, e) f.1 old.groups) old ≡ changed_to (back f.0 f.1 old.groups) old
back_of {f = f} old l is = ap (λ x. changed_to (back (f.0.0, x) f.1 old.groups) old) (sym is)
