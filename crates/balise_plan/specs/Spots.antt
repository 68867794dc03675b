-- Where something is put in, and what putting a packet in makes of a plan.
use Rattle.std.specs.Prelude.{◌≡◌, ◌⊎◌, ◌+◌, ℕ, not, nat_lt, Bool, List, [], ◌∷◌, Option, Some, None, Result, Ok, Err, is_some}
use Rattle.balise_rules.specs.declared.tag.Tag.{Tag}
use Rattle.balise_rules.specs.declared.refusal.Refusal.{Refusal}
use Rattle.balise_rules.specs.declared.refusal.Refusal.TheVariants.{NoSuchGroup, NoSuchPacket, NoRoom, SamePlace, GroupTwice, OutOfMemory}
use Rattle.balise_rules.specs.Tagged.{stands}
use Rattle.balise_rules.specs.Tags.{same_tag}
use Rattle.balise_rules.specs.Packet.{Packet, width}
use Rattle.balise_rules.specs.Telegram.{room}
use Rattle.balise_rules.specs.Plan.{Group, group_named, identity_of, pushed, telegram_at}
use Rattle.balise_rules.specs.Plan as rules
use Rattle.balise_rules.specs.Doing.{refusal, done, first_of, when, no_group, no_telegram, no_packet, in_telegram}
use Rattle.balise_rules.specs.declared.tagged_edit.TaggedEdit.TheVariants.{MovePacket}
use Rattle.balise_rules.specs.Back.{in_packets}
use Rattle.balise_telegram.specs.Moving.{same_place_before, moved_before}
use Rattle.balise_index.specs.declared.spot.Spot.{Spot}
use Rattle.balise_index.specs.declared.spot.Spot.TheVariants.{After, Before}
use Rattle.balise_plan.specs.Held.{Plan}
use Rattle.balise_index.specs.AtSpot.{put_in, spot_stands}

-- the first reason why a packet isn't put in
abbrev pub put_refusal : Tag → ℕ → Spot Tag → Packet → rules.Plan → Option Refusal
put_refusal g t s x plan = first_of (no_group g plan ∷ no_telegram g t plan
    ∷ when (in_telegram (telegram_at g t plan) (λ y. not (spot_stands s y.packets))) NoSuchPacket
    ∷ when (in_telegram (telegram_at g t plan) (λ y. nat_lt (room y) (width x))) NoRoom ∷ [])

-- The packet stands there under the tag; or the first refusal is answered, or out of memory, the packet is handed back and all stays.
abbrev pub PutsPacket : Tag → ℕ → Spot Tag → Tag → Packet → Plan → Result Unit (Refusal × Packet) → Plan → Type 0
PutsPacket g t s p x old (Ok u) new = (put_refusal g t s x old.groups ≡ None) × (new ≡ record { groups = in_packets g t (put_in s (p, x)) old.groups; changes = old.changes + 1 })
PutsPacket g t s p x old (Err e) new = ((e.0 ≡ OutOfMemory) ⊎ (put_refusal g t s x old.groups ≡ Some e.0)) × (e.1 ≡ x) × (new ≡ old)

-- the first reason why a packet isn't moved to a spot
abbrev pub shift_refusal : Tag → ℕ → Tag → Spot Tag → rules.Plan → Option Refusal
shift_refusal g t p (After a) plan = refusal (MovePacket g t p a) plan
shift_refusal g t p (Before n) plan = first_of (no_group g plan ∷ no_telegram g t plan ∷ no_packet g t p plan
    ∷ when (in_telegram (telegram_at g t plan) (λ y. not (stands same_tag n y.packets))) NoSuchPacket
    ∷ when (in_telegram (telegram_at g t plan) (same_place_before p n)) SamePlace ∷ [])

-- the plan with a packet moved to a spot: after an anchor as the edit does it, before a neighbour as the edit is taken back
abbrev pub shifted : Tag → ℕ → Tag → Spot Tag → rules.Plan → rules.Plan
shifted g t p (After a) plan = done (0, MovePacket g t p a) plan
shifted g t p (Before n) plan = in_packets g t (moved_before p n) plan

-- The packet stands there; or the first refusal is answered, or out of memory, and all stays.
abbrev pub ShiftsPacket : Tag → ℕ → Tag → Spot Tag → Plan → Result (Option Tag) Refusal → Plan → Type 0
ShiftsPacket g t p s old (Ok was) new = (shift_refusal g t p s old.groups ≡ None) × (new ≡ record { groups = shifted g t p s old.groups; changes = old.changes + 1 })
ShiftsPacket g t p s old (Err e) new = ((e ≡ OutOfMemory) ⊎ (shift_refusal g t p s old.groups ≡ Some e)) × (new ≡ old)

-- the first reason why a group isn't put in
abbrev pub group_refusal : Spot Tag → Group → rules.Plan → Option Refusal
group_refusal s ys plan = first_of (when (not (spot_stands s plan)) NoSuchGroup ∷ when (is_some (group_named (identity_of ys) plan)) GroupTwice ∷ [])

-- The group stands there under the tag; or the first refusal is answered, or out of memory, the group is handed back and all stays.
abbrev pub PutsGroup : Spot Tag → Tag → Group → Plan → Result Unit (Refusal × Group) → Plan → Type 0
PutsGroup s g ys old (Ok u) new = (group_refusal s ys old.groups ≡ None) × (new ≡ record { groups = put_in s (g, ys) old.groups; changes = old.changes + 1 })
PutsGroup s g ys old (Err e) new = ((e.0 ≡ OutOfMemory) ⊎ (group_refusal s ys old.groups ≡ Some e.0)) × (e.1 ≡ ys) × (new ≡ old)

-- One more group stands at the end, as the rules read it, and no change is counted; or the first refusal is answered, or out of memory, and all stays.
abbrev pub Pushes : List (List Bool) → Plan → Result Unit Refusal → Plan → Type 0
Pushes bs old (Ok u) new = (pushed old.groups bs ≡ Ok new.groups) × (new.changes ≡ old.changes)
Pushes bs old (Err e) new = ((e ≡ OutOfMemory) ⊎ (pushed old.groups bs ≡ Err e)) × (new ≡ old)
