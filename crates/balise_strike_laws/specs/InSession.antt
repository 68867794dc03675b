-- Strikes in the words of a session: the edit of a serial, the entries after it, the edits of other serials with their
-- anchors, and an edit put back at its own place.
use Rattle.std.specs.Prelude.{◌≡◌, ◌<◌, ℕ, not, eqb, List, [], ◌∷◌, All, filter, find, Some, None}
use Rattle.balise_rules.specs.Plan.{Plan}
use Rattle.balise_rules.specs.Edits.{Item}
use Rattle.balise_rules.specs.Notes.{noted}
use Rattle.balise_rules.specs.Doing.{done}
use Rattle.balise_rules.specs.Back.{back}
use Rattle.balise_rules.specs.Paths.{Entry}
use Rattle.balise_rules.specs.Behind.{anchor_of, serials_behind, hung}
use Rattle.balise_rules.specs.Session.{made, entries, last, others, later, first_dependent, put_back}
use Rattle.balise_edit_laws.specs.TakenBack.{IsReady}
use Rattle.balise_strike_laws.specs.Striking.{Standing, notes_of}

-- each serial is below those after it
abbrev pub Rising : List Item → Type 0
Rising [] = Unit {0}
Rising (e ∷ es) = All (λ f. e.0 < f.0) es × Rising es

-- serials rise from above one number and stay below another
abbrev pub Between : ℕ → ℕ → List Item → Type 0
Between last next [] = Unit {0}
Between last next (e ∷ es) = (last < e.0) × (e.0 < next) × Between e.0 next es

-- Without the edit of this entry `left` stand and note what those of other serials noted; taken back from what all make it gives what these make; at the end it is ready to be done again, notes what it noted, and gives what all make; serials rise as before; and put back with those that stood after it, all stand as they did.
pub record StruckHere (base : Plan) (items : List Item) (e : Entry) (behind : List ℕ) (left : List Item) : Type 0 where
  pub standing : Standing base left
  pub notes : notes_of (entries base left) ≡ notes_of (filter (λ f. not (eqb f.0.0 e.0.0)) (entries base items))
  pub taken_back : back e.0 e.1 (made base items) ≡ made base left
  pub again_ready : IsReady e.0 (made base left)
  pub again_notes : noted e.0.1 (made base left) ≡ e.1
  pub again : done e.0 (made base left) ≡ made base items
  pub rising : Rising items → Rising left
  pub own_place : Rising items → put_back (record { item = e.0; behind = behind }) left ≡ items

-- what a strike of e leaves of the standing edits
abbrev pub left_of : Entry → List ℕ → List Item → List Item
left_of e behind items = hung (anchor_of e.0.1) behind (others e.0.0 items)

-- A strike that a session answers is one change, and so is the redo that follows.
abbrev pub StrikingHere : Type 0
StrikingHere = (base : Plan) → (items : List Item) → (serial : ℕ) → (e : Entry) → Standing base items →
    find (λ f. eqb serial f.0.0) (entries base items) ≡ Some e → first_dependent e (later e.0.0 (entries base items)) ≡ None →
    StruckHere base items e (serials_behind e (later e.0.0 (entries base items))) (left_of e (serials_behind e (later e.0.0 (entries base items))) items)

-- An undo is the strike of the last edit: none stands after it.
abbrev pub UndoingHere : Type 0
UndoingHere = (base : Plan) → (items : List Item) → (e : Item) → Standing base items → last items ≡ Some e →
    StruckHere base items (e, noted e.1 (made base (others e.0 items))) [] (others e.0 items)
