-- Places in twelve bytes.
use Rattle.std.specs.Prelude.{ℕ, List, map}
use Rattle.balise_rules.specs.declared.tag.Tag.{Tag}
use Rattle.balise_rules.specs.declared.tag.Tag.TheVariants as tag
use Rattle.balise_index.specs.declared.link_place.LinkPlace.{LinkPlace}
use Rattle.balise_index.specs.declared.links.narrow.TagKind.{TagKind}
use Rattle.balise_index.specs.declared.links.narrow.TagKind.TheVariants.{Base, Fresh}
use Rattle.balise_index.specs.declared.links.narrow.NarrowPlace.{NarrowPlace}

-- the tag of a kind and a number
abbrev pub wide_tag : TagKind → ℕ → Tag
wide_tag Base n = tag.Base n
wide_tag Fresh n = tag.Fresh n

-- the place that a narrow one stands for
abbrev pub wide_place : NarrowPlace → LinkPlace
wide_place n = record { group = wide_tag n.group_kind n.group; telegram = n.telegram; packet = wide_tag n.packet_kind n.packet; element = n.element }

abbrev pub wide_places : List NarrowPlace → List LinkPlace
wide_places ns = map wide_place ns
