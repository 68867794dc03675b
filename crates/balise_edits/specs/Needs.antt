-- What an entry needs in two parts, and the tests of two entries but for one place.
use Rattle.std.specs.Prelude.{Bool, false, cond, ◌&&◌, not, List, [], ◌∷◌, ◌++◌, filter, Option, Some, None}
use Rattle.balise_rules.specs.declared.variable.Var.TheVariants.{NidBg, QLinkorientation, QDir, MDup}
use Rattle.balise_rules.specs.declared.identity.Id.{Id}
use Rattle.balise_rules.specs.Tags.{same_var}
use Rattle.balise_rules.specs.declared.tagged_edit.TaggedEdit.TheVariants.{SetVar, SetHead, InsertPacket, DeletePacket, AddGroup, DropGroup}
use Rattle.balise_rules.specs.Paths.{Path, Entry, At, Nth, Of, Turn, After, changes, needs, any_meets, room_apart}
use Rattle.balise_rules.specs.Behind.{same_path}

-- the place that an entry needs, if it needs one beside identities
abbrev pub needed_place : Entry → Option Path
needed_place ((s, SetVar g t p v k n), m) =
    cond (same_var QDir v) (Some (At g ∷ Turn ∷ []))
    (cond (same_var QLinkorientation v) (Some (At g ∷ Nth t ∷ At p ∷ Of NidBg ∷ Nth k ∷ [])) None)
needed_place ((s, SetHead g t v n), m) = cond (same_var MDup v) (Some (At g ∷ Turn ∷ [])) None
needed_place ((s, InsertPacket g t a x), m) = Some (At g ∷ Turn ∷ [])
needed_place ((s, DeletePacket g t p), m) = Some (At g ∷ Turn ∷ [])
needed_place e = None

-- the identities that it needs
abbrev pub needed_names : Entry → List Id
needed_names ((s, SetVar g t p v k n), m) = cond (same_var QDir v) [] (cond (same_var QLinkorientation v) m.names (cond (same_var NidBg v) m.names []))
needed_names ((s, InsertPacket g t a x), m) = m.names
needed_names ((s, DeletePacket g t p), m) = m.names
needed_names ((s, AddGroup a bs), m) = m.names
needed_names ((s, DropGroup g), m) = m.names
needed_names e = []

-- a place, if there is one, as a list
abbrev pub listed : Option Path → List Path
listed None = []
listed (Some p) = p ∷ []

-- whether a place is the one that is left out, if one is
abbrev pub left_out : Option Path → Path → Bool
left_out None q = false
left_out (Some p) q = same_path q p

-- the places but for that one
abbrev pub but : Option Path → List Path → List Path
but out qs = filter (λ q. not (left_out out q)) qs

-- no place that one changes meets a place that the other changes or needs, but for one of those that f changes, and neither inserts where the other deletes
abbrev pub clear : Option Path → Entry → Entry → Bool
clear out e f =
    not (any_meets (changes e) (but out (changes f) ++ needs f))
    && (not (any_meets (needs e) (but out (changes f))) && room_apart e.0.1 f.0.1)

-- the place after one
abbrev pub just_behind : Option Path → Option Path
just_behind None = None
just_behind (Some p) = Some (p ++ After ∷ [])
