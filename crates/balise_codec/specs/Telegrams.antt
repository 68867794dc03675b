-- A telegram from the numbers of its header, the values of its packets and the bits after packet 255 (SUBSET-026, 8.4.2).
use Rattle.std.specs.Prelude.{◌≡◌, ◌+◌, ℕ, List, [], ◌∷◌, Bool, false, Option, Some, None, Ok, length, take, drop, slice_get, if◌then◌else◌}
use Rattle.balise_rules.specs.declared.variable.Var.{Var}
use Rattle.balise_rules.specs.declared.variable.Var.TheVariants.{MVersion}
use Rattle.balise_rules.specs.declared.tag.Tag.{Tag}
use Rattle.balise_rules.specs.Variables.{width_of}
use Rattle.balise_rules.specs.Bits.{fits}
use Rattle.balise_rules.specs.Forms.{Fields}
use Rattle.balise_rules.specs.Packet.{Packet, value}
use Rattle.balise_rules.specs.Telegram.{Telegram, IsLength, is_balise, read_telegram, used, version_of}
use Rattle.balise_codec.specs.declared.fault.SpellFault.{SpellFault}
use Rattle.balise_codec.specs.declared.telegram.PacketValues.{PacketValues}
use Rattle.balise_codec.specs.declared.telegram.TelegramMisfit.{TelegramMisfit}
use Rattle.balise_codec.specs.declared.telegram.TelegramMisfit.TheVariants as misfit
use Rattle.balise_codec.specs.Faults.{fault_of}
use Rattle.balise_codec.specs.Misfits.{first_misfit}
use Rattle.balise_codec.specs.Spelling.{size_of, SpeltBy}

-- The packets have these values, and these bits after their fields.
abbrev pub AreSpelt : ℕ → List PacketValues → List (Tag × Packet) → Type 0
AreSpelt version [] [] = Unit {0}
AreSpelt version (v ∷ vs) (p ∷ ps) = SpeltBy version v.values.items v.rest p.1 × AreSpelt version vs ps
AreSpelt version [] (p ∷ ps) = ⊥
AreSpelt version (v ∷ vs) [] = ⊥

-- The bits are a telegram's, with this header, packets of these values, and these bits after packet 255.
pub record IsOf (fields : Fields) (values : List PacketValues) (rest : List Bool) (b : List Bool) (y : Telegram) : Type 0 where
  pub read : read_telegram b ≡ Ok y
  pub head : y.head ≡ fields
  pub packets : AreSpelt (version_of y) values y.packets
  pub padding : drop (used y.packets) b ≡ rest

-- the first variable whose value doesn't fit its width
unfoldable pub too_wide : Fields → Option Var
too_wide [] = None
too_wide (f ∷ fs) = if fits (width_of f.0.0) f.1 then too_wide fs else Some f.0.0

-- The packets before a place have their values. Those at the place are no packet's, for this reason.
pub record FailsAt (version : ℕ) (packets : List PacketValues) (i : ℕ) (e : SpellFault) : Type 0 where
  pub values : PacketValues
  pub there : slice_get packets i ≡ Some values
  pub before : (ps : List (Tag × Packet)) × AreSpelt version (take i packets) ps
  pub none : (p : Packet) → SpeltBy version values.values.items values.rest p → ⊥
  pub reason : e ≡ fault_of (first_misfit version values.values.items) (size_of values.values.items values.rest)

-- the packets have their values, and they and the padding have n bits
abbrev pub Takes : ℕ → List PacketValues → List Bool → ℕ → Type 0
Takes version packets padding n = (ps : List (Tag × Packet)) × AreSpelt version packets ps × (n ≡ used ps + length padding)

-- Why no telegram is made: a number of the header, then the first packet that is none, then the length, then whose telegram it is.
abbrev pub Refuses : Fields → List PacketValues → List Bool → TelegramMisfit → Type 0
Refuses head packets padding (misfit.Header v) = too_wide head ≡ Some v
Refuses head packets padding (misfit.Packet i e) = (too_wide head ≡ None) × FailsAt (value MVersion 0 head) packets i e
Refuses head packets padding (misfit.BadLength n) = (too_wide head ≡ None) × Takes (value MVersion 0 head) packets padding n × (IsLength n → ⊥)
Refuses head packets padding misfit.NotABalise = (too_wide head ≡ None) × ((n : ℕ) × Takes (value MVersion 0 head) packets padding n × IsLength n) × (is_balise head ≡ false)
Refuses head packets padding misfit.OutOfMemory = Unit {0}
