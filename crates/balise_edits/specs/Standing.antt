-- What doing, taking back and doing again ask of a plan, and what they make of it.
use Rattle.std.specs.Prelude.{◌≡◌, ◌⊎◌, ◌+◌, Some, None, Result, Ok, Err}
use Rattle.balise_rules.specs.declared.refusal.Refusal.{Refusal}
use Rattle.balise_rules.specs.declared.refusal.Refusal.TheVariants.{OutOfMemory}
use Rattle.balise_rules.specs.Plan as rules
use Rattle.balise_rules.specs.Edits.{Item}
use Rattle.balise_rules.specs.Notes.{noted, without_content}
use Rattle.balise_rules.specs.Doing.{done, refusal}
use Rattle.balise_rules.specs.Back.{back}
use Rattle.balise_rules.specs.Paths.{Entry}
use Rattle.balise_edit_laws.specs.TakenBack.{IsReady}
use Rattle.balise_plan.specs.Held.{Plan}

-- the plan with one change more
abbrev pub changed_to : rules.Plan → Plan → Plan
changed_to groups old = record { groups = groups; changes = old.changes + 1 }

-- The edit is done under its serial; or its first refusal is answered, or out of memory, and all stays.
abbrev pub DoesItem : {A : Type 0} → Item → Plan → Result A Refusal → Plan → Type 0
DoesItem e old (Ok a) new = (refusal e.1 old.groups ≡ None) × (new ≡ changed_to (done e old.groups) old)
DoesItem e old (Err r) new = ((r ≡ OutOfMemory) ⊎ (refusal e.1 old.groups ≡ Some r)) × (new ≡ old)

-- The edit is done, and its entry has what it notes; or its first refusal is answered, or out of memory, and all stays.
abbrev pub Applies : Item → Plan → Result Entry Refusal → Plan → Type 0
Applies e old (Ok f) new = (refusal e.1 old.groups ≡ None) × (f ≡ (e, noted e.1 old.groups)) × (new ≡ changed_to (done e old.groups) old)
Applies e old (Err r) new = ((r ≡ OutOfMemory) ⊎ (refusal e.1 old.groups ≡ Some r)) × (new ≡ old)

-- The entry's edit made the plan of another plan. There it was ready and noted what the entry has.
pub record IsLast (e : Entry) (groups : rules.Plan) : Type 0 where
  pub before : rules.Plan
  pub ready : IsReady e.0 before
  pub noted_there : noted e.0.1 before ≡ e.1
  pub made : groups ≡ done e.0 before

-- The entry's edit is ready on the plan, and the entry has what it notes there, without what would be taken out.
pub record IsNext (e : Entry) (groups : rules.Plan) : Type 0 where
  pub ready : IsReady e.0 groups
  pub noted_there : without_content (noted e.0.1 groups) ≡ e.1

-- The edit is taken back, and its entry is without what was taken out; or an allocation failed, and nothing changed.
abbrev pub TakesBack : Entry → Plan → Result Unit Refusal → Entry → Plan → Type 0
TakesBack f old (Ok u) g new = (g ≡ (f.0, without_content f.1)) × (new ≡ changed_to (back f.0 f.1 old.groups) old)
TakesBack f old (Err r) g new = (r ≡ OutOfMemory) × (g ≡ f) × (new ≡ old)

-- The edit is done again, and its entry has all that it notes; or an allocation failed, and nothing changed.
abbrev pub DoesAgain : Entry → Plan → Result Unit Refusal → Entry → Plan → Type 0
DoesAgain f old (Ok u) g new = (g ≡ (f.0, noted f.0.1 old.groups)) × (new ≡ changed_to (done f.0 old.groups) old)
DoesAgain f old (Err r) g new = (r ≡ OutOfMemory) × (g ≡ f) × (new ≡ old)
