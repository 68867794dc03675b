-- Doing an edit: the first refusal, by its number, or what the edit makes.
use Rattle.std.specs.Prelude.{ℕ, ◌||◌, not, nat_lt, Bool, false, cond, List, [], ◌∷◌, Option, Some, None, Result, Ok, Err, is_some, is_none, eqb}
use Rattle.balise_rules.specs.declared.variable.Var.{Var}
use Rattle.balise_rules.specs.declared.variable.Var.TheVariants.{NidBg}
use Rattle.balise_rules.specs.declared.refusal.Refusal.{Refusal}
use Rattle.balise_rules.specs.declared.refusal.Refusal.TheVariants.{NumberReserved, GroupTwice, NoSuchGroup, NoSuchTelegram, NoSuchPacket, NoSuchVariable, Steering, ValueTooWide, NoRoom, NumberTaken, SamePlace}
use Rattle.balise_rules.specs.declared.identity.Id.{Id}
use Rattle.balise_rules.specs.declared.tag.Tag.{Tag}
use Rattle.balise_rules.specs.Variables.{width_of, steers, is_free_in_header}
use Rattle.balise_rules.specs.Bits.{fits}
use Rattle.balise_rules.specs.Tagged.{find, next, same_spot, stands}
use Rattle.balise_rules.specs.Tags.{same_tag}
use Rattle.balise_rules.specs.Packet.{field_of, width}
use Rattle.balise_rules.specs.Telegram.{Telegram, room}
use Rattle.balise_rules.specs.Plan.{Group, Plan, reserved, identity_of, group_named, telegram_at, packet_at, field_at, read_group}
use Rattle.balise_rules.specs.Names.{is_named}
use Rattle.balise_rules.specs.Edits.{Edit, Item, effect}
use Rattle.balise_rules.specs.declared.tagged_edit.TaggedEdit.TheVariants.{SetVar, SetHead, InsertPacket, DeletePacket, MovePacket, AddGroup, DropGroup, Renumber, TurnGroup}
use Rattle.balise_rules.specs.Notes.{noted}

-- one line of a table of refusals: this one, where the test holds
abbrev pub when : Bool → Refusal → Option Refusal
when b r = cond b (Some r) None

-- the first refusal of a table
abbrev pub first_of : List (Option Refusal) → Option Refusal
first_of [] = None
first_of (None ∷ rs) = first_of rs
first_of (Some r ∷ rs) = Some r

abbrev pub no_group : Tag → Plan → Option Refusal
no_group g plan = when (is_none (find same_tag g plan)) NoSuchGroup

abbrev pub no_telegram : Tag → ℕ → Plan → Option Refusal
no_telegram g t plan = when (is_none (telegram_at g t plan)) NoSuchTelegram

abbrev pub no_packet : Tag → ℕ → Tag → Plan → Option Refusal
no_packet g t p plan = when (is_none (packet_at g t p plan)) NoSuchPacket

-- whether a test holds of the telegram, which stands
abbrev pub in_telegram : Option Telegram → (Telegram → Bool) → Bool
in_telegram None test = false
in_telegram (Some y) test = test y

-- a packet would move to where it stands, or after itself
abbrev pub same_place : Tag → Option Tag → Telegram → Bool
same_place p a y = same_spot same_tag a (Some p) || same_spot same_tag (next same_tag a y.packets) (Some p)

abbrev pub taken : Id → Plan → Bool
taken i plan = is_some (group_named i plan) || is_named i plan

abbrev pub renumbered : Option Group → ℕ → Id
renumbered None n = record { country = 0; number = n }
renumbered (Some ys) n = record { country = (identity_of ys).country; number = n }

abbrev pub group_fault : Plan → Result Group Refusal → Option Refusal
group_fault plan (Err r) = Some r
group_fault plan (Ok ys) = when (is_some (group_named (identity_of ys) plan)) GroupTwice

-- the telegram lacks the anchor
abbrev pub no_anchor : Tag → ℕ → Option Tag → Plan → Option Refusal
no_anchor g t a plan = when (in_telegram (telegram_at g t plan) (λ y. not (stands same_tag a y.packets))) NoSuchPacket

abbrev pub too_wide : Var → ℕ → Option Refusal
too_wide v n = when (not (fits (width_of v) n)) ValueTooWide

-- the first reason why an edit is refused: each line of a table, in its order
abbrev pub refusal : Edit → Plan → Option Refusal
refusal (SetVar g t p v k n) plan = first_of (no_group g plan ∷ no_telegram g t plan ∷ no_packet g t p plan
    ∷ when (is_none (field_at g t p v k plan)) NoSuchVariable ∷ when (steers v) Steering ∷ too_wide v n ∷ [])
refusal (SetHead g t v n) plan = first_of (no_group g plan ∷ no_telegram g t plan
    ∷ when (in_telegram (telegram_at g t plan) (λ y. is_none (field_of v 0 y.head))) NoSuchVariable ∷ when (not (is_free_in_header v)) Steering ∷ too_wide v n ∷ [])
refusal (InsertPacket g t a x) plan = first_of (no_group g plan ∷ no_telegram g t plan ∷ no_anchor g t a plan
    ∷ when (in_telegram (telegram_at g t plan) (λ y. nat_lt (room y) (width x))) NoRoom ∷ [])
refusal (DeletePacket g t p) plan = first_of (no_group g plan ∷ no_telegram g t plan ∷ no_packet g t p plan ∷ [])
refusal (MovePacket g t p a) plan = first_of (no_group g plan ∷ no_telegram g t plan ∷ no_packet g t p plan ∷ no_anchor g t a plan
    ∷ when (in_telegram (telegram_at g t plan) (same_place p a)) SamePlace ∷ [])
refusal (AddGroup a bs) plan = first_of (when (not (stands same_tag a plan)) NoSuchGroup ∷ group_fault plan (read_group bs) ∷ [])
refusal (DropGroup g) plan = no_group g plan
refusal (Renumber g n) plan = first_of (no_group g plan ∷ too_wide NidBg n ∷ when (eqb n reserved) NumberReserved
    ∷ when (taken (renumbered (find same_tag g plan) n) plan) NumberTaken ∷ [])
refusal (TurnGroup g) plan = no_group g plan

-- what an edit with its serial makes of a plan, where it is accepted
abbrev pub done : Item → Plan → Plan
done e plan = effect e (noted e.1 plan).own plan

abbrev pub or_done : Option Refusal → Plan → Result Plan Refusal
or_done None plan = Ok plan
or_done (Some r) plan = Err r

-- the new plan, or the first refusal
abbrev pub do_edit : Item → Plan → Result Plan Refusal
do_edit e plan = or_done (refusal e.1 plan) (done e plan)
