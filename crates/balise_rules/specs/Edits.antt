-- The nine edits and what each makes of a plan, apart from whether it is accepted (this project's own).
use Rattle.std.specs.Prelude.{ℕ, ◌-◌, ◌&&◌, Bool, cond, List, [], reverse, Option, Some, Result, Ok, Err, eqb}
use Rattle.balise_rules.specs.declared.variable.Var.{Var}
use Rattle.balise_rules.specs.declared.variable.Var.TheVariants.{NidBg, QDir, QLinkorientation, NPig, NTotal, MDup}
use Rattle.balise_rules.specs.declared.refusal.Refusal.{Refusal}
use Rattle.balise_rules.specs.declared.identity.Id.{Id}
use Rattle.balise_rules.specs.declared.tag.Tag.{Tag}
use Rattle.balise_rules.specs.declared.tag.Tag.TheVariants.{Fresh}
use Rattle.balise_rules.specs.Tagged.{each, Change, Each, Put, Take, Move, changed}
use Rattle.balise_rules.specs.Tags.{Key, is_of, same_tag, same_key}
use Rattle.balise_rules.specs.Forms.{Fields}
use Rattle.balise_rules.specs.Packet.{Packet, value}
use Rattle.balise_rules.specs.Telegram.{Telegram}
use Rattle.balise_rules.specs.Plan.{Group, Plan, country_of, read_group}
use Rattle.balise_rules.specs.Names.{country_at, is_it, calls}
use Rattle.balise_rules.specs.declared.tagged_edit.TaggedEdit.{TaggedEdit}
use Rattle.balise_rules.specs.declared.tagged_edit.TaggedEdit.TheVariants.{SetVar, SetHead, InsertPacket, DeletePacket, MovePacket, AddGroup, DropGroup, Renumber, TurnGroup}

-- the nine edits, by the tags of a group g, a telegram t and a packet p; k is the occurrence of a variable; an anchor is a tag, or none for the first place. A group to be added is given by the bits of its telegrams
abbrev pub Edit : Type 0
Edit = TaggedEdit Packet (List (List Bool))

-- an edit with its serial
abbrev pub Item : Type 0
Item = ℕ × Edit

abbrev pub group_or_none : Result Group Refusal → Group
group_or_none (Err r) = []
group_or_none (Ok ys) = ys

-- the group that these bits are
unfoldable pub group_of : List (List Bool) → Group
group_of bs = group_or_none (read_group bs)

-- a and b exchanged
abbrev pub exchanged : ℕ → ℕ → ℕ → ℕ
exchanged a b n = cond (eqb n a) b (cond (eqb n b) a n)

-- the new value of one field of the packet p, which has the fields fs, in telegram t of country c of group g, by an edit whose group has the identity i
abbrev pub field_after : Edit → Id → Tag → ℕ → ℕ → Tag → Fields → Key → ℕ → ℕ
field_after (SetVar g0 t0 p0 v0 k0 new) i g t c p fs key n = cond (same_tag g0 g && (eqb t0 t && (same_tag p0 p && same_key (v0, k0) key))) new n
field_after (Renumber g0 new) i g t c p fs key n = cond (is_of NidBg key && is_it (country_at c key.1 fs) i (Some n)) new n
field_after (TurnGroup g0) i g t c p fs key n =
    cond (is_of QLinkorientation key) (cond (calls c key.1 fs i) (1 - n) n)
    (cond (is_of QDir key && same_tag g0 g) (exchanged 0 1 n) n)
field_after e i g t c p fs key n = n

abbrev pub packet_after : Edit → Id → Tag → ℕ → ℕ → Tag → Packet → Packet
packet_after e i g t c p x = record { fields = each (field_after e i g t c p x.fields) x.fields; rest = x.rest }

-- the new value of one field of the header hs of telegram t of group g; a telegram of a turned group counts from the other end
abbrev pub head_after : Edit → Tag → ℕ → Fields → Key → ℕ → ℕ
head_after (SetHead g0 t0 v0 new) g t hs key n = cond (same_key (v0, 0) key && (same_tag g0 g && eqb t0 t)) new n
head_after (Renumber g0 new) g t hs key n = cond (is_of NidBg key && same_tag g0 g) new n
head_after (TurnGroup g0) g t hs key n =
    cond (is_of MDup key && same_tag g0 g) (exchanged 1 2 n) (cond (is_of NPig key && same_tag g0 g) (value NTotal 0 hs - n) n)
head_after e g t hs key n = n

-- what an edit changes in the list of packets of telegram t, of country c, of group g
abbrev pub packets_change : Item → Id → Tag → ℕ → ℕ → Change Tag Packet
packets_change (s, InsertPacket g0 t0 a x) i g t c = cond (same_tag g0 g && eqb t0 t) (Put a (Fresh s, x)) (Each (λ q y. y))
packets_change (s, DeletePacket g0 t0 p) i g t c = cond (same_tag g0 g && eqb t0 t) (Take p) (Each (λ q y. y))
packets_change (s, MovePacket g0 t0 p a) i g t c = cond (same_tag g0 g && eqb t0 t) (Move p a) (Each (λ q y. y))
packets_change (s, e) i g t c = Each (packet_after e i g t c)

-- the padding and the tag stay
abbrev pub telegram_after : Item → Id → Tag → ℕ → Telegram → Telegram
telegram_after e i g t x = record {
  head = each (head_after e.1 g t x.head) x.head;
  packets = changed same_tag (packets_change e i g t (country_of x)) x.packets;
  padding = x.padding;
}

-- a turned group has its telegrams in the other order
abbrev pub in_order : Edit → Tag → Group → Group
in_order (TurnGroup g0) g ys = cond (same_tag g0 g) (reverse ys) ys
in_order e g ys = ys

abbrev pub group_after : Item → Id → Tag → Group → Group
group_after e i g ys = in_order e.1 g (each (telegram_after e i g) ys)

-- what an edit changes in the list of groups
abbrev pub groups_change : Item → Id → Change Tag Group
groups_change (s, AddGroup a bs) i = Put a (Fresh s, group_of bs)
groups_change (s, DropGroup g) i = Take g
groups_change e i = Each (group_after e i)

-- the plan after an edit whose group had the identity i
abbrev pub effect : Item → Id → Plan → Plan
effect e i plan = changed same_tag (groups_change e i) plan
