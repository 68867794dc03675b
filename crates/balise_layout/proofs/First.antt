-- Reading the packet at the front of bits agrees with the relation 'these bits spell this packet', both ways.
use Rattle.std.proofs.Common.{◌≡◌, ℕ, ◌+◌, ◌≤◌, Bool, List, ◌++◌, length, drop, Ok, ap, ◌∙◌, arith, length-append}
use Rattle.std.proofs.lemmas.List.{length-drop}
use Rattle.balise_rules.specs.Packets.{packet, body}
use Rattle.balise_rules.specs.Packet.{Packet, bits_of, width, Spells, IsSpelt, read_first}
use Rattle.balise_rules.proofs.PacketRead.{PacketFound, first_found}
use Rattle.balise_rules.proofs.PacketAgain.{first_again}
use Rattle.balise_layout.specs.Held.{Holds}

-- the general record for the form of a version is the relation of that version
pub spells_holds : (version : ℕ) (b : List Bool) (p : Packet) → Spells version b p → Holds (body version) b p
unfolding packet
spells_holds version b p s = record { spelt = s.spelt; form = s.form; numbered = s.numbered; said = s.said }

pub holds_spells : (version : ℕ) (b : List Bool) (p : Packet) → Holds (body version) b p → Spells version b p
unfolding packet
holds_spells version b p h = record { spelt = h.spelt; form = h.form; numbered = h.numbered; said = h.said }

-- what a packet spells is read as it, whatever follows
pub spelt_reads : (version : ℕ) (p : Packet) (behind : List Bool) → IsSpelt version p → read_first version (bits_of p ++ behind) ≡ Ok (p, behind)
spelt_reads version p behind s = first_again version p behind s

-- ---- the other way

pub reads_begins : (version : ℕ) (b : List Bool) (p : Packet) (behind : List Bool) → read_first version b ≡ Ok (p, behind) → PacketFound version b (p, behind)
reads_begins version b p behind e = first_found version b (p, behind) e

-- the place after a packet that was read is as far as it is long
pub read_lies : (version at end : ℕ) (b : List Bool) (p : Packet) → at ≤ end → end ≤ length b → read_first version (drop at b) ≡ Ok (p, drop end b) → IsSpelt version p × (at + width p ≡ end) × (end ≤ length b)
read_lies version at end b p ordered within e =
    let g = reads_begins version (drop at b) p (drop end b) e in
    let sizes : length (drop at b) ≡ length (bits_of p) + length (drop end b) = ap length g.parts ∙ length-append (bits_of p) (drop end b) in
    (g.spelt, omega (arith, sizes, length-drop at b, length-drop end b, ordered, within), within)
