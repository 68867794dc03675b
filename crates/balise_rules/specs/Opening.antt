-- A session read from a journal: opened at a next serial, then one line after another (this project's own).
use Rattle.std.specs.Prelude.{ℕ, suc, ◌&&◌, nat_le, nat_lt, Bool, cond, List, [], ◌∷◌, ◌++◌, length, Option, Some, None, Result, Ok, Err, option_and_then, is_none}
use Rattle.balise_rules.specs.declared.refusal.Refusal.{Refusal}
use Rattle.balise_rules.specs.declared.tag.Tag.{Tag}
use Rattle.balise_rules.specs.Packet.{Packet}
use Rattle.balise_rules.specs.Telegram.{Telegram, version_of}
use Rattle.balise_rules.specs.Plan.{Plan, telegram_at}
use Rattle.balise_rules.specs.Edits.{Edit, Item}
use Rattle.balise_rules.specs.declared.tagged_edit.TaggedEdit.TheVariants.{SetVar, SetHead, InsertPacket, DeletePacket, MovePacket, AddGroup, DropGroup, Renumber, TurnGroup}
use Rattle.balise_rules.specs.Notes.{noted}
use Rattle.balise_rules.specs.Doing.{refusal}
use Rattle.balise_rules.specs.Addresses.{packet_in}
use Rattle.balise_rules.specs.Session.{State, Reply, Struck, Strike, held, answer_in_time, top}
use Rattle.balise_rules.specs.Journal.{Line, LineEdit, noted_of, same_noted}

abbrev pub or_nothing : {A : Type 0} → Result A Refusal → Option A
or_nothing (Err r) = None
or_nothing (Ok x) = Some x

-- the packet of a word of digits for a telegram
abbrev pub packet_for : List Bool → Telegram → Option Packet
packet_for b y = or_nothing (packet_in (version_of y) b)

abbrev pub inserting : Tag → ℕ → Option Tag → Option Packet → Option Edit
inserting g t a None = None
inserting g t a (Some x) = Some (InsertPacket g t a x)

-- the edit of a line on a plan; of an insertion, where its digits are a packet for the telegram
abbrev pub edit_in : LineEdit → Plan → Option Edit
edit_in (SetVar g t p v k n) plan = Some (SetVar g t p v k n)
edit_in (SetHead g t v n) plan = Some (SetHead g t v n)
edit_in (InsertPacket g t a b) plan = inserting g t a (option_and_then (packet_for b) (telegram_at g t plan))
edit_in (DeletePacket g t p) plan = Some (DeletePacket g t p)
edit_in (MovePacket g t p a) plan = Some (MovePacket g t p a)
edit_in (AddGroup a bs) plan = Some (AddGroup a bs)
edit_in (DropGroup g) plan = Some (DropGroup g)
edit_in (Renumber g n) plan = Some (Renumber g n)
edit_in (TurnGroup g) plan = Some (TurnGroup g)

-- the edit is accepted, and notes what the line says
abbrev pub fits_line : Line → Plan → Edit → Bool
fits_line l plan e = is_none (refusal e plan) && same_noted (noted_of e (noted e plan)) l.noted

abbrev pub if_fits : Line → Plan → Option Edit → Option Item
if_fits l plan None = None
if_fits l plan (Some e) = cond (fits_line l plan e) (Some (l.serial, e)) None

-- the item of a line that comes after the serial `last` and below `next`, where it fits the plan
abbrev pub item_of : ℕ → ℕ → Line → Plan → Option Item
item_of last next l plan = cond (nat_lt last l.serial && nat_lt l.serial next) (if_fits l plan (edit_in l.edit plan)) None

-- the largest next serial that a journal has
abbrev pub most_serial : ℕ
most_serial = 4000000000

-- A journal that is opened: a session with its next serial, which has counted nothing.
abbrev pub opened_at : Plan → ℕ → Option State
opened_at plan next = cond (nat_le 1 next && nat_le next most_serial) (Some (record { base = plan; standing = []; stack = []; serial = next; count = 0 })) None

-- the serial of the last edit; 0 where there is none
abbrev pub last_serial : List Item → ℕ
last_serial [] = 0
last_serial (e ∷ []) = e.0
last_serial (e ∷ f ∷ es) = last_serial (f ∷ es)

abbrev pub with_item : State → Option Item → Option State
with_item s None = None
with_item s (Some e) = Some (record s { standing = s.standing ++ e ∷ [] })

-- with one more edit done, where none was struck yet
abbrev pub with_entry : State → Line → Option State
with_entry s l = cond (is_none (top s.stack)) (with_item s (item_of (last_serial s.standing) s.serial l (held s))) None

-- what a strike that isn't counted leaves, where it is done
abbrev pub uncounted : ℕ → Reply × State → Option State
uncounted n (Struck serial, s) = Some (record s { count = n })
uncounted n (r, s) = None

-- with one more edit struck
abbrev pub with_undone : State → ℕ → Option State
with_undone s serial = uncounted s.count (answer_in_time (Strike serial) s)

-- one more step, or the place of a line that doesn't fit (none: the next serial)
abbrev pub or_place : Option ℕ → Option State → (State → Result State (Option ℕ)) → Result State (Option ℕ)
or_place at None more = Err at
or_place at (Some s) more = more s

-- with all of these edits done, in order, the first at the place n
abbrev pub with_entries : ℕ → List Line → State → Result State (Option ℕ)
with_entries n [] s = Ok s
with_entries n (l ∷ ls) s = or_place (Some n) (with_entry s l) (with_entries (suc n) ls)

-- with all of these struck, in order, the first at the place n
abbrev pub with_all_undone : ℕ → List ℕ → State → Result State (Option ℕ)
with_all_undone n [] s = Ok s
with_all_undone n (u ∷ us) s = or_place (Some n) (with_undone s u) (with_all_undone (suc n) us)

-- The session of a journal's next serial and lines, or where it doesn't fit: at its next serial, or at a line.
abbrev pub from_entries : Plan → ℕ → List Line → Result State (Option ℕ)
from_entries plan next ls = or_place None (opened_at plan next) (with_entries 0 ls)

abbrev pub and_undone : ℕ → List ℕ → Result State (Option ℕ) → Result State (Option ℕ)
and_undone n us (Err at) = Err at
and_undone n us (Ok s) = with_all_undone n us s

-- The session of a journal's next serial, lines and stack, or where it doesn't fit, the places of the stack counted on from those of the lines.
abbrev pub from_journal : Plan → ℕ → List Line → List ℕ → Result State (Option ℕ)
from_journal plan next ls us = and_undone (length ls) us (from_entries plan next ls)
