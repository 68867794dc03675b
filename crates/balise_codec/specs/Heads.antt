-- A packet at a place of a telegram's bits, looked at as reading does: the first three fields, and then the bits that L_PACKET says.
use Rattle.std.specs.Prelude.{◌≡◌, ◌+◌, ◌⊎◌, ◌==◌, ◌||◌, ℕ, List, [], Bool, nat_lt, Option, Some, None, Ok, Err, length, take, if◌then◌else◌}
use Rattle.balise_rules.specs.declared.refusal.Refusal.{Refusal}
use Rattle.balise_rules.specs.declared.variable.Var.TheVariants.{NidPacket, QDir, LPacket}
use Rattle.balise_rules.specs.Forms.{Form, done, never, valued, plain}
use Rattle.balise_rules.specs.Packet.{Packet, read_first}
use Rattle.balise_layout.specs.Collected.{all_keyed}
use Rattle.balise_layout.specs.First.{Bounded}
use Rattle.balise_codec.specs.declared.reach.Reach.{Reach}
use Rattle.balise_codec.specs.Traces.{Reaches, Stopped}

-- The first three fields, where n bits stand: packets 0 and 255 have no others, and L_PACKET is 23 at least and n at most.
unfoldable pub head : ℕ → Form
head n = valued NidPacket (λ k. if k == 0 || k == 255 then never else plain QDir (valued LPacket (λ l. if nat_lt l 23 || nat_lt n l then never else done)))

-- The first three fields stop at the place.
abbrev pub HeadStops : List Bool → ℕ → Reach → Type 0
HeadStops b at r = (left : List Bool) × Stopped (head (length b)) [] b (all_keyed r.fields.items) left r.due × (r.at + length left ≡ at + length b)

-- The packet that is read at a place; or the fields before its fault, where it stands, and what was due. The fault is
-- in the first three fields, or after them in the bits that L_PACKET counts.
abbrev pub Tells : ℕ → List Bool → ℕ → Option Reach → Type 0
Tells version b at None = (p : Packet) × (after : List Bool) × (read_first version b ≡ Ok (p, after))
Tells version b at (Some r) = ((e : Refusal) × (read_first version b ≡ Err e)) × (HeadStops b at r ⊎ ((number : ℕ) × (size : ℕ) × Bounded b number size × Reaches version (take size b) (at + size) (Some r)))
