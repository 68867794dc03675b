-- Taking an edit back, by what it noted.
use Rattle.std.specs.Prelude.{ℕ, ◌&&◌, cond, List, Option, Some, None, eqb}
use Rattle.balise_rules.specs.declared.tag.Tag.{Tag}
use Rattle.balise_rules.specs.declared.tag.Tag.TheVariants.{Fresh}
use Rattle.balise_rules.specs.Tagged.{find, each, without, put_before}
use Rattle.balise_rules.specs.Tags.{same_tag}
use Rattle.balise_rules.specs.Packet.{Packet}
use Rattle.balise_rules.specs.Telegram.{Telegram}
use Rattle.balise_rules.specs.Plan.{Plan}
use Rattle.balise_rules.specs.Edits.{Item, effect}
use Rattle.balise_rules.specs.declared.tagged_edit.TaggedEdit.TheVariants.{SetVar, SetHead, InsertPacket, DeletePacket, MovePacket, AddGroup, DropGroup, Renumber, TurnGroup}
use Rattle.balise_rules.specs.Notes.{Note}

abbrev pub with_packets : Telegram → List (Tag × Packet) → Telegram
with_packets y ps = record { head = y.head; packets = ps; padding = y.padding }

-- the packets of one telegram changed
abbrev pub in_packets : Tag → ℕ → (List (Tag × Packet) → List (Tag × Packet)) → Plan → Plan
in_packets g t h plan = each (λ g1 ys. each (λ t1 y. cond (same_tag g g1 && eqb t t1) (with_packets y (h y.packets)) y) ys) plan

-- what was taken out put directly before its old next neighbour
abbrev pub put_back : {A : Type 0} → Tag → Option Tag → Option A → List (Tag × A) → List (Tag × A)
put_back t b None xs = xs
put_back t b (Some x) xs = put_before same_tag b (t, x) xs

-- The old value is set again. What was put in is removed. What was taken out, or moved, is put directly before its old
-- next neighbour. The group has its old number again. The group is turned again.
abbrev pub back : Item → Note → Plan → Plan
back (s, SetVar g t p v k n) note plan = effect (s, SetVar g t p v k note.old) note.own plan
back (s, SetHead g t v n) note plan = effect (s, SetHead g t v note.old) note.own plan
back (s, InsertPacket g t a x) note plan = effect (s, DeletePacket g t (Fresh s)) note.own plan
back (s, DeletePacket g t p) note plan = in_packets g t (put_back p note.before note.packet) plan
back (s, MovePacket g t p a) note plan = in_packets g t (λ ps. put_back p note.before (find same_tag p ps) (without same_tag p ps)) plan
back (s, AddGroup a bs) note plan = without same_tag (Fresh s) plan
back (s, DropGroup g) note plan = put_back g note.before note.group plan
back (s, Renumber g n) note plan = effect (s, Renumber g note.old) (record { country = note.own.country; number = n }) plan
back (s, TurnGroup g) note plan = effect (s, TurnGroup g) note.own plan
