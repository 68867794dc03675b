-- What an edit is anchored on when another is struck or put back.
use Rattle.std.specs.Prelude.{Bool, true, false, Option, Some}
use Rattle.balise_rules.specs.declared.tag.Tag.{Tag}
use Rattle.balise_rules.specs.declared.tag.Tag.TheVariants.{Fresh}
use Rattle.balise_rules.specs.Edits.{Item}
use Rattle.balise_rules.specs.Paths.{Entry}
use Rattle.balise_rules.specs.Behind.{anchor_of, anchored}

-- what a later edit is anchored on: what an edit puts in, or that edit's own anchor
abbrev pub new_anchor : Bool → Item → Option Tag
new_anchor true e = Some (Fresh e.0)
new_anchor false e = anchor_of e.1

-- an entry with another anchor, and all else as it was
abbrev pub hung_on : Option Tag → Entry → Entry
hung_on a f = ((f.0.0, anchored a f.0.1), f.1)
