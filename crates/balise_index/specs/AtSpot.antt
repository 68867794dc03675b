-- A list with an item put in at a spot.
use Rattle.std.specs.Prelude.{Bool, List}
use Rattle.balise_rules.specs.declared.tag.Tag.{Tag}
use Rattle.balise_rules.specs.Tagged.{put, put_before, stands}
use Rattle.balise_rules.specs.Tags.{same_tag}
use Rattle.balise_index.specs.declared.spot.Spot.{Spot}
use Rattle.balise_index.specs.declared.spot.Spot.TheVariants.{After, Before}

-- the list with an item put in there
abbrev pub put_in : {A : Type 0} → Spot Tag → Tag × A → List (Tag × A) → List (Tag × A)
put_in (After a) z xs = put same_tag a z xs
put_in (Before b) z xs = put_before same_tag b z xs

-- A spot is named by a neighbour. Whether this neighbour stands in the list.
abbrev pub spot_stands : {A : Type 0} → Spot Tag → List (Tag × A) → Bool
spot_stands (After a) xs = stands same_tag a xs
spot_stands (Before b) xs = stands same_tag b xs
