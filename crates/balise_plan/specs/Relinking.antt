-- One link that names another identity, in the index.
use Rattle.std.specs.Prelude.{◌≡◌, not, ◌&&◌, true, false, cond}
use Rattle.std.specs.BTreeSet as set
use Rattle.balise_rules.specs.declared.identity.Id.{Id}
use Rattle.balise_rules.specs.Tags.{same_id}
use Rattle.balise_rules.specs.Names.{is_real}
use Rattle.balise_index.specs.declared.link_place.LinkPlace.{LinkPlace}
use Rattle.balise_index.specs.NameIndex.{held, IndexOf}
use Rattle.balise_index.specs.Identities.{is_id}
use Rattle.balise_index.specs.Places.{is_place}

-- w names q, if that can be named
abbrev pub AddsReal : IndexOf (set.BTreeSet LinkPlace) → IndexOf (set.BTreeSet LinkPlace) → Id → LinkPlace → Type 0
AddsReal m n q w = (r : Id) (v : LinkPlace) → held n r v ≡ cond (is_real q && (is_id q r && is_place w v)) true (held m r v)

-- w doesn't name the one identity, unless that is the other
abbrev pub ForgetsOther : IndexOf (set.BTreeSet LinkPlace) → IndexOf (set.BTreeSet LinkPlace) → Id → Id → LinkPlace → Type 0
ForgetsOther m n kept gone w = (r : Id) (v : LinkPlace) → held n r v ≡ cond (not (same_id kept gone) && (is_id gone r && is_place w v)) false (held m r v)
