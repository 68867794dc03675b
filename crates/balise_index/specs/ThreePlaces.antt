-- Three places in twenty bytes.
use Rattle.balise_index.specs.declared.links.small.SmallPlace.{SmallPlace}
use Rattle.balise_index.specs.declared.links.three.ThreePlaces.{ThreePlaces}

-- each of the three
abbrev pub first_of : ThreePlaces → SmallPlace
first_of t = record { group = t.first; rest = t.first_rest }

abbrev pub second_of : ThreePlaces → SmallPlace
second_of t = record { group = t.second; rest = t.second_rest }

abbrev pub third_of : ThreePlaces → SmallPlace
third_of t = record { group = t.third; rest = t.third_rest }
