-- Why an entry isn't struck under those after it.
use Rattle.std.specs.Prelude.{◌≡◌, ◌≢◌, ◌⊎◌, ℕ, eqb, IsTrue, not, List, [], find, take, Some, None}
use Rattle.balise_rules.specs.declared.refusal.Refusal.{Refusal}
use Rattle.balise_rules.specs.declared.refusal.Refusal.TheVariants.{DependsOn, OutOfMemory}
use Rattle.balise_rules.specs.Behind.{serials_behind}
use Rattle.balise_rules.specs.Edits.{Item}
use Rattle.balise_rules.specs.Paths.{Entry}
use Rattle.balise_rules.specs.Plan.{Plan}
use Rattle.balise_rules.specs.Session.{entries, first_dependent, later, needs_no_memory}

-- Where memory runs out as entries are tested, some of those tested stand after e, and none of them depends on it.
pub record RunsOutAmong (e : Entry) (fs : List Entry) : Type 0 where
  pub tested : ℕ
  pub independent : first_dependent e (take tested fs) ≡ None
  pub some_behind : serials_behind e (take tested fs) ≢ []

-- the first that isn't independent of it, or memory ran out before one was met
abbrev pub Fails : Entry → List Entry → Refusal → Type 0
Fails e fs r = ((r ≡ OutOfMemory) × RunsOutAmong e fs) ⊎ ((n : ℕ) × (first_dependent e fs ≡ Some n) × (r ≡ DependsOn n))

-- Memory may run out in a strike of e: before a later entry that depends on it was met.
abbrev pub MayRunOut : Entry → List Entry → Type 0
MayRunOut e fs = RunsOutAmong e fs ⊎ (first_dependent e fs ≡ None)

-- the same of the standing edit of a serial, where it takes memory to be taken back
abbrev pub StrikeMayRunOut : ℕ → Plan → List Item → Type 0
StrikeMayRunOut serial base items =
    (e : Entry) × ((find (λ f. eqb serial f.0.0) (entries base items) ≡ Some e) × IsTrue (not (needs_no_memory (Some e.0))) × MayRunOut e (later serial (entries base items)))
