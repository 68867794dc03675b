-- What a packet names, as it was seen while it was checked.
use Rattle.std.specs.Prelude.{◌≡◌, ◌≤◌, ◌+◌, ℕ, List, [], Bool, length, drop, Result, Ok, Err}
use Rattle.balise_rules.specs.Names.{links_of}
use Rattle.balise_rules.specs.Packet.{Packet, IsSpelt, read_first, width}
use Rattle.balise_layout.specs.declared.fault.LayoutFault.{LayoutFault}
use Rattle.balise_layout.specs.declared.named.Named.{Named}
use Rattle.balise_layout.specs.declared.named.Named.TheVariants.{Nothing, Few, Many}
use Rattle.balise_layout.specs.Faults.{refusal_of}

-- the identities of its elements in a telegram of this country, unless they are many
abbrev pub IsNamed : Named → ℕ → Packet → Type 0
IsNamed Nothing c p = (country : ℕ) → links_of country p ≡ []
IsNamed (Few ids) c p = ids ≡ links_of c p
IsNamed Many c p = Unit {0}

-- a packet stands at the place and would be read, and it names these; or the first fault
abbrev pub StandsNamed : ℕ → ℕ → List Bool → ℕ → Result (ℕ × Named) LayoutFault → Type 0
StandsNamed version c b at (Ok r) = (p : Packet) × (read_first version (drop at b) ≡ Ok (p, drop r.0 b)) × IsSpelt version p × (at + width p ≡ r.0) × (r.0 ≤ length b) × IsNamed r.1 c p
StandsNamed version c b at (Err e) = read_first version (drop at b) ≡ Err (refusal_of e)
