-- Addresses by identity and place, and what stands there: commands go by these, edits by tags.
use Rattle.std.specs.Prelude.{ℕ, zero, suc, ◌+◌, ◌==◌, not, nat_lt, Bool, if◌then◌else◌, List, [], length, take, drop, slice_get, ok_or, option_map, Option, Some, None, Result, Ok, Err}
use Rattle.balise_rules.specs.declared.variable.Var.{Var}
use Rattle.balise_rules.specs.declared.refusal.Refusal.{Refusal}
use Rattle.balise_rules.specs.declared.refusal.Refusal.TheVariants.{BadLength, SpareBits, PacketCut, LayoutMismatch, PacketZero, NoSuchGroup, NoSuchTelegram, NoSuchPacket, NoSuchVariable}
use Rattle.balise_rules.specs.declared.identity.Id.{Id}
use Rattle.balise_rules.specs.declared.tag.Tag.{Tag}
use Rattle.balise_rules.specs.declared.address.Address.{Address}
use Rattle.balise_rules.specs.declared.address.Address.TheVariants.{Group as GroupAddress, Telegram as TelegramAddress, Packet as PacketAddress, Head as HeadAddress, Field as FieldAddress}
use Rattle.balise_rules.specs.declared.address.Place.{Place}
use Rattle.balise_rules.specs.declared.address.Place.TheVariants.{Group as GroupPlace, Telegram as TelegramPlace, Packet as PacketPlace, Head as HeadPlace, Field as FieldPlace}
use Rattle.balise_rules.specs.Refusals.{and_then}
use Rattle.balise_rules.specs.Bits.{num}
use Rattle.balise_rules.specs.Digits.{fill, all_zero}
use Rattle.balise_rules.specs.Tagged.{without}
use Rattle.balise_rules.specs.Tags.{same_tag}
use Rattle.balise_rules.specs.Forms.{read_form}
use Rattle.balise_rules.specs.Packet.{Packet, field_of, length_said, is_cut, read_packet}
use Rattle.balise_rules.specs.Packets.{packet}
use Rattle.balise_rules.specs.Telegram.{Telegram, version_of}
use Rattle.balise_rules.specs.Plan.{Group, Plan, group_named}
use Rattle.balise_rules.specs.Edits.{Edit}
use Rattle.balise_rules.specs.declared.tagged_edit.TaggedEdit.TheVariants.{SetVar, SetHead, InsertPacket, DeletePacket, MovePacket, AddGroup, DropGroup, Renumber, TurnGroup}

-- The nine edits as they are asked for, by the identity of a group and places from 0: pig of a telegram, pkt of a packet in it, k of a variable's occurrence; `at` is the place that is to be had.
pub data Command : Type 0 where
  AskSet : Id → (pig pkt : ℕ) → Var → (k value : ℕ) → Command
  AskSetHead : Id → (pig : ℕ) → Var → (value : ℕ) → Command
  AskInsert : Id → (pig at : ℕ) → List Bool → Command
  AskDelete : Id → (pig pkt : ℕ) → Command
  AskMove : Id → (pig pkt at : ℕ) → Command
  AskAdd : (at : ℕ) → List (List Bool) → Command
  AskDrop : Id → Command
  AskRenumber : Id → (number : ℕ) → Command
  AskTurn : Id → Command

-- A telegram that was found, with the tags that lead to it.
pub record FoundTelegram : Type 0 where
  pub group : Tag
  pub place : ℕ
  pub telegram : Telegram

-- A packet that was found, with the tags that lead to it and the telegram where it stands.
pub record FoundPacket : Type 0 where
  pub group : Tag
  pub place : ℕ
  pub telegram : Telegram
  pub tag : Tag
  pub packet : Packet

-- What stands at an address, or the first refusal.
abbrev pub find_group : Id → Plan → Result (Tag × Group) Refusal
find_group i plan = ok_or (group_named i plan) NoSuchGroup

abbrev pub found_telegram : Tag → ℕ × Telegram → FoundTelegram
found_telegram g t = record { group = g; place = t.0; telegram = t.1 }

abbrev pub find_telegram : Id → ℕ → Plan → Result FoundTelegram Refusal
find_telegram i pig plan = and_then (find_group i plan) (λ g. and_then (ok_or (slice_get g.1 pig) NoSuchTelegram) (λ t. Ok (found_telegram g.0 t)))

abbrev pub found_packet : FoundTelegram → Tag × Packet → FoundPacket
found_packet t p = record { group = t.group; place = t.place; telegram = t.telegram; tag = p.0; packet = p.1 }

abbrev pub find_packet : Id → ℕ → ℕ → Plan → Result FoundPacket Refusal
find_packet i pig pkt plan = and_then (find_telegram i pig plan) (λ t. and_then (ok_or (slice_get t.telegram.packets pkt) NoSuchPacket) (λ p. Ok (found_packet t p)))

abbrev pub resolve_field : Var → ℕ → FoundPacket → Result Place Refusal
resolve_field v k p = and_then (ok_or (field_of v k p.packet.fields) NoSuchVariable) (λ n. Ok (FieldPlace p.group p.place p.tag v k))

abbrev pub resolve_head : Var → FoundTelegram → Result Place Refusal
resolve_head v t = and_then (ok_or (field_of v 0 t.telegram.head) NoSuchVariable) (λ n. Ok (HeadPlace t.group t.place v))

-- the tags that stand at an address, or the first refusal
abbrev pub resolve : Address → Plan → Result Place Refusal
resolve (GroupAddress i) plan = and_then (find_group i plan) (λ g. Ok (GroupPlace g.0))
resolve (TelegramAddress i pig) plan = and_then (find_telegram i pig plan) (λ t. Ok (TelegramPlace t.group t.place))
resolve (PacketAddress i pig pkt) plan = and_then (find_packet i pig pkt plan) (λ p. Ok (PacketPlace p.group p.place p.tag))
resolve (HeadAddress i pig v) plan = and_then (find_telegram i pig plan) (resolve_head v)
resolve (FieldAddress i pig pkt v k) plan = and_then (find_packet i pig pkt plan) (resolve_field v k)

-- The anchor of what shall get a place of a list, from 0 to its length: what stands directly before that place, or none for the first.
abbrev pub anchor_at : {A : Type 0} → ℕ → List (Tag × A) → Option (Option Tag)
anchor_at zero xs = Some None
anchor_at {A} (suc n) xs = option_map (λ (y : Tag × A). Some y.0) (slice_get xs n)

-- The packet in a word of digits. They are just the bytes that its L_PACKET needs, with zeros in the bits after it.
unfoldable pub packet_in : ℕ → List Bool → Result Packet Refusal
packet_in version b =
    if nat_lt (length b) 8 then Err PacketCut
    else if num (take 8 b) == 0 then Err PacketZero
    else if num (take 8 b) == 255 then Err LayoutMismatch
    else if is_cut b then Err PacketCut
    else if not (length b == length_said b + fill (length_said b)) then Err BadLength
    else if not (all_zero (drop (length_said b) b)) then Err SpareBits
    else and_then (read_packet [] (read_form (packet version) [] (take (length_said b) b))) (λ p. Ok p.0)

abbrev pub insert_at : ℕ → List Bool → FoundTelegram → Result Edit Refusal
insert_at at b t = and_then (ok_or (anchor_at at t.telegram.packets) NoSuchPacket) (λ a. and_then (packet_in (version_of t.telegram) b) (λ x. Ok (InsertPacket t.group t.place a x)))

abbrev pub move_to : ℕ → FoundPacket → Result Edit Refusal
move_to at p = and_then (ok_or (anchor_at at (without same_tag p.tag p.telegram.packets)) NoSuchPacket) (λ a. Ok (MovePacket p.group p.place p.tag a))

-- the edit by tags that a command asks for, or the first refusal of its address and its digits
abbrev pub edit_of : Command → Plan → Result Edit Refusal
edit_of (AskSet i pig pkt v k n) plan = and_then (find_packet i pig pkt plan) (λ p. Ok (SetVar p.group p.place p.tag v k n))
edit_of (AskSetHead i pig v n) plan = and_then (find_telegram i pig plan) (λ t. Ok (SetHead t.group t.place v n))
edit_of (AskInsert i pig at b) plan = and_then (find_telegram i pig plan) (insert_at at b)
edit_of (AskDelete i pig pkt) plan = and_then (find_packet i pig pkt plan) (λ p. Ok (DeletePacket p.group p.place p.tag))
edit_of (AskMove i pig pkt at) plan = and_then (find_packet i pig pkt plan) (move_to at)
edit_of (AskAdd at bs) plan = and_then (ok_or (anchor_at at plan) NoSuchGroup) (λ a. Ok (AddGroup a bs))
edit_of (AskDrop i) plan = and_then (find_group i plan) (λ g. Ok (DropGroup g.0))
edit_of (AskRenumber i n) plan = and_then (find_group i plan) (λ g. Ok (Renumber g.0 n))
edit_of (AskTurn i) plan = and_then (find_group i plan) (λ g. Ok (TurnGroup g.0))
