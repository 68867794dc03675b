-- Setting a field of a packet.
use Rattle.std.specs.Prelude.{◌≡◌, ◌-◌, ℕ, not, [], ◌∷◌, Option, Some, None, Result, Ok, Err, is_none}
use Rattle.balise_rules.specs.declared.variable.Var.{Var}
use Rattle.balise_rules.specs.declared.variable.Var.TheVariants.{QDir, QLinkorientation, NidBg}
use Rattle.balise_rules.specs.declared.refusal.Refusal.{Refusal}
use Rattle.balise_rules.specs.declared.refusal.Refusal.TheVariants.{NoSuchVariable, Steering, ValueTooWide}
use Rattle.balise_rules.specs.Variables.{width_of, steers}
use Rattle.balise_rules.specs.Bits.{fits}
use Rattle.balise_rules.specs.Doing.{when, first_of}
use Rattle.balise_rules.specs.Edits.{exchanged}
use Rattle.balise_rules.specs.Packet.{Packet, field_of, value}
use Rattle.balise_layout.specs.declared.fault.LayoutFault.{LayoutFault}
use Rattle.balise_layout.specs.Faults.{refusal_of}
use Rattle.balise_layout.specs.Held.{with_field}

-- the first reason why a field isn't set
unfoldable pub set_refusal : Var → ℕ → ℕ → Packet → Option Refusal
set_refusal v k n p = first_of (when (is_none (field_of v k p.fields)) NoSuchVariable ∷ when (steers v) Steering ∷ when (not (fits (width_of v) n)) ValueTooWide ∷ [])

-- The old value is answered and the new one stands, or the first refusal is answered and all stays.
abbrev pub Sets : Var → ℕ → ℕ → Packet → Result ℕ LayoutFault → Packet → Type 0
Sets v k n old (Ok was) new = (set_refusal v k n old ≡ None) × (field_of v k old.fields ≡ Some was) × (new ≡ with_field v k n old)
Sets v k n old (Err e) new = (set_refusal v k n old ≡ Some (refusal_of e)) × (new ≡ old)

-- with the direction turned: 0 and 1 exchanged, 2 and 3 kept
abbrev pub turned : Packet → Packet
turned p = with_field QDir 0 (exchanged 0 1 (value QDir 0 p.fields)) p

-- with the orientation of an element flipped, where it has one
abbrev pub flipped : ℕ → Packet → Packet
flipped k p = with_field QLinkorientation k (1 - value QLinkorientation k p.fields) p

-- with another number named by an element, where it stands
abbrev pub renamed : ℕ → ℕ → Packet → Packet
renamed k n p = with_field NidBg k n p
