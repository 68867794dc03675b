-- The law of spelling.
use Rattle.std.specs.Prelude.{◌≡◌, ◌⊎◌, ◌<◌, ℕ, List, [], Bool, false, None}
use Rattle.balise_rules.specs.Packets.{is_known}
use Rattle.balise_rules.specs.Packet.{Packet}
use Rattle.balise_codec.specs.Spelling.{Values, size_of, SpeltBy}
use Rattle.balise_codec.specs.Misfits.{first_misfit, front_value}

-- What fits is encoded: a packet has these values, where L_PACKET can hold its number of bits and, if it is known, no
-- bits stand after its fields.
abbrev pub FittingIsSpelt : Type 0
FittingIsSpelt = (version : ℕ) (vs : Values) (raw : List Bool) → first_misfit version vs ≡ None → size_of vs raw < 8192 → (raw ≡ []) ⊎ (is_known version (front_value vs) ≡ false) → (p : Packet) × SpeltBy version vs raw p
