-- Places in eight bytes.
use Rattle.std.specs.Prelude.{ℕ, ◌/◌, ◌%◌, suc, zero}
use Rattle.balise_index.specs.declared.links.narrow.TagKind.{TagKind}
use Rattle.balise_index.specs.declared.links.narrow.TagKind.TheVariants.{Base, Fresh}
use Rattle.balise_index.specs.declared.links.narrow.NarrowPlace.{NarrowPlace}
use Rattle.balise_index.specs.declared.links.small.SmallPlace.{SmallPlace}
use Rattle.balise_index.specs.declared.link_place.LinkPlace.{LinkPlace}
use Rattle.balise_index.specs.NarrowPlace.{wide_place}

-- the kind that a number stands for
abbrev pub kind_of : ℕ → TagKind
kind_of zero = Base
kind_of (suc n) = Fresh

-- the place in twelve bytes that a small one stands for
abbrev pub narrow_place : SmallPlace → NarrowPlace
narrow_place s = record { group = s.group; packet = s.rest / 1024; group_kind = kind_of (s.rest % 2); packet_kind = kind_of (s.rest / 2 % 2); telegram = s.rest / 4 % 8; element = s.rest / 32 % 32 }

-- the place that a small one stands for
abbrev pub wide_small : SmallPlace → LinkPlace
wide_small s = wide_place (narrow_place s)
