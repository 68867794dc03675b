-- All links of a group, each identity with the place that names it; elements that name nothing are left out.
use Rattle.std.specs.Prelude.{◌≡◌, ℕ, suc, ◌&&◌, ◌||◌, Bool, false, cond, List, [], ◌∷◌, ◌++◌}
use Rattle.std.specs.BTreeSet as set
use Rattle.balise_rules.specs.declared.identity.Id.{Id}
use Rattle.balise_rules.specs.declared.tag.Tag.{Tag}
use Rattle.balise_rules.specs.Packet.{Packet}
use Rattle.balise_rules.specs.Plan.{Group, country_of}
use Rattle.balise_rules.specs.Names.{is_real, links_of}
use Rattle.balise_index.specs.declared.link_place.LinkPlace.{LinkPlace}
use Rattle.balise_index.specs.NameIndex.{held, IndexOf}
use Rattle.balise_index.specs.Identities.{is_id}
use Rattle.balise_index.specs.Places.{is_place}

-- those of the elements of a packet, counted on from k
abbrev pub links_from : Tag → ℕ → Tag → ℕ → List Id → List (Id × LinkPlace)
links_from g t p k [] = []
links_from g t p k (i ∷ is) = cond (is_real i) ((i, record { group = g; telegram = t; packet = p; element = k }) ∷ links_from g t p (suc k) is) (links_from g t p (suc k) is)

abbrev pub links_in_packets : Tag → ℕ → ℕ → List (Tag × Packet) → List (Id × LinkPlace)
links_in_packets g t c [] = []
links_in_packets g t c (z ∷ zs) = links_from g t z.0 0 (links_of c z.1) ++ links_in_packets g t c zs

abbrev pub links_in_group : Tag → Group → List (Id × LinkPlace)
links_in_group g [] = []
links_in_group g (y ∷ ys) = links_in_packets g y.0 (country_of y.1) y.1.packets ++ links_in_group g ys

-- whether it is listed that a place names an identity
abbrev pub listed : Id → LinkPlace → List (Id × LinkPlace) → Bool
listed q w [] = false
listed q w (l ∷ ls) = (is_id l.0 q && is_place l.1 w) || listed q w ls

-- those that are listed are in the index or not, as b says, and all others as before
abbrev pub SetsAll : Bool → List (Id × LinkPlace) → IndexOf (set.BTreeSet LinkPlace) → IndexOf (set.BTreeSet LinkPlace) → Type 0
SetsAll b ls old new = (q : Id) (w : LinkPlace) → held new q w ≡ cond (listed q w ls) b (held old q w)

-- those that aren't listed are in it as before
abbrev pub KeepsOthers : List (Id × LinkPlace) → IndexOf (set.BTreeSet LinkPlace) → IndexOf (set.BTreeSet LinkPlace) → Type 0
KeepsOthers ls old new = (q : Id) (w : LinkPlace) → listed q w ls ≡ false → held new q w ≡ held old q w
