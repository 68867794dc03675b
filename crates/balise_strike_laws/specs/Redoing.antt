-- What a session keeps of its stack: each item can be put back.
use Rattle.std.specs.Prelude.{◌≡◌, ℕ, eqb, List, [], ◌∷◌, find, Some, None}
use Rattle.balise_rules.specs.Plan.{Plan}
use Rattle.balise_rules.specs.Edits.{Item}
use Rattle.balise_rules.specs.Notes.{Note}
use Rattle.balise_rules.specs.Behind.{anchor_of, serials_behind, hung}
use Rattle.balise_rules.specs.Session.{State, Removed, Reply, entries, later, others, first_dependent, put_back}
use Rattle.balise_strike_laws.specs.Striking.{Standing}
use Rattle.balise_strike_laws.specs.InSession.{Rising, StruckHere}

-- The standing edits `left` are what a strike leaves of `all`: with r put back, all later edits are independent of it, and those of these serials stand after it.
pub record WasStruck (base : Plan) (all : List Item) (r : Removed) (left : List Item) : Type 0 where
  pub standing : Standing base all
  pub rising : Rising all
  pub note : Note
  pub found : find (λ f. eqb r.item.0 f.0.0) (entries base all) ≡ Some (r.item, note)
  pub independent : first_dependent (r.item, note) (later r.item.0 (entries base all)) ≡ None
  pub behind : serials_behind (r.item, note) (later r.item.0 (entries base all)) ≡ r.behind
  pub left_is : hung (anchor_of r.item.1) r.behind (others r.item.0 all) ≡ left

-- each item of the stack was struck from what putting it back gives, once those above it are put back
abbrev pub Redoable : Plan → List Item → List Removed → Type 0
Redoable base items [] = Unit {0}
Redoable base items (r ∷ rs) = WasStruck base (put_back r items) r items × Redoable base (put_back r items) rs

-- the state, but for the count
abbrev pub counted : State → ℕ → State
counted s n = record s { count = n }

abbrev pub Answer : Type 0
Answer = Reply × State

-- A redo puts the top of the stack back at its own place, by one change: it is the strike of that edit, the other way.
abbrev pub RedoingHere : Type 0
RedoingHere = (base : Plan) → (items : List Item) → (r : Removed) → (rs : List Removed) → Redoable base items (r ∷ rs) → (m : Note) × StruckHere base (put_back r items) (r.item, m) r.behind items
