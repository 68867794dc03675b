-- A strike is one change: what is asked of standing edits, and what they are without one of them.
use Rattle.std.specs.Prelude.{◌≡◌, List, [], ◌∷◌, ◌++◌, map, Some}
use Rattle.balise_rules.specs.Plan.{Plan, IsSound}
use Rattle.balise_rules.specs.Edits.{Item}
use Rattle.balise_rules.specs.Notes.{Note, noted}
use Rattle.balise_rules.specs.Doing.{done}
use Rattle.balise_rules.specs.Back.{back}
use Rattle.balise_rules.specs.Paths.{Entry}
use Rattle.balise_rules.specs.Behind.{becomes}
use Rattle.balise_rules.specs.Session.{made, AllAccepted, entries}
use Rattle.balise_edit_laws.specs.TakenBack.{IsReady}
use Rattle.balise_edit_laws.specs.Along.{AllSpelt, AllUnused}

-- Edits that can stand on a plan: it is sound, each has its own serial, which tags nothing in it, and each is accepted on what those before it make, packets that are put in being spelt there.
pub record Standing (base : Plan) (items : List Item) : Type 0 where
  pub sound : IsSound base
  pub unused : AllUnused base items
  pub spelt : AllSpelt base items
  pub accepted : AllAccepted base items

-- the later edits become these
abbrev pub AllBecome : Entry → List Entry → List Item → Type 0
AllBecome e [] [] = Unit {0}
AllBecome e (f ∷ fs) (g ∷ gs) = (becomes e f ≡ Some g) × AllBecome e fs gs
AllBecome e fs gs = ⊥

abbrev pub notes_of : List Entry → List Note
notes_of fs = map (λ (f : Entry). f.1) fs

-- The edits before e, and what those after it become, stand without it, and note what they noted; e taken back from what all make gives what these make; and at the end e is ready to be done again, notes what it noted, and gives what all make.
pub record StruckUnder (base : Plan) (before : List Item) (e : Item) (after others : List Item) : Type 0 where
  pub standing : Standing base (before ++ others)
  pub notes : notes_of (entries base (before ++ others)) ≡ notes_of (entries base before ++ entries (done e (made base before)) after)
  pub taken_back : back e (noted e.1 (made base before)) (made base (before ++ e ∷ after)) ≡ made base (before ++ others)
  pub again_ready : IsReady e (made base (before ++ others))
  pub again_notes : noted e.1 (made base (before ++ others)) ≡ noted e.1 (made base before)
  pub again : done e (made base (before ++ others)) ≡ made base (before ++ e ∷ after)

-- If all later edits are independent of an edit, it is struck by one change.
abbrev pub StrikingUnder : Type 0
StrikingUnder = (base : Plan) → (before : List Item) → (e : Item) → (after others : List Item) → Standing base (before ++ e ∷ after) →
    AllBecome (e, noted e.1 (made base before)) (entries (done e (made base before)) after) others → StruckUnder base before e after others
