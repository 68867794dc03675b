-- A group whose telegrams are read one after another and which is added to a plan.
use Rattle.std.specs.Prelude.{◌≡◌, ◌⊎◌, ◌<◌, ◌≤◌, ℕ, nat_le, cond, Bool, List, [], ◌∷◌, ◌++◌, length, Result, Ok, Err, IsOk}
use Rattle.balise_rules.specs.declared.refusal.Refusal.{Refusal}
use Rattle.balise_rules.specs.declared.refusal.Refusal.TheVariants.{GroupSize, OutOfMemory}
use Rattle.balise_rules.specs.Refusals.{and_then}
use Rattle.balise_rules.specs.Telegram.{read_telegram}
use Rattle.balise_rules.specs.Plan.{Group, checked_group, pushed, read_telegrams, with_group}
use Rattle.balise_rules.specs.Plan as rules
use Rattle.balise_plan.specs.Held.{Plan}

-- how many telegrams a group has at the most (SUBSET-026, 3.4.1)
abbrev pub most_telegrams : ℕ
most_telegrams = 8

-- the group with one telegram more, or why not: a telegram after the eighth isn't read
abbrev pub with_telegram : Group → List Bool → Result Group Refusal
with_telegram ys b = cond (nat_le most_telegrams (length ys)) (Err GroupSize) (and_then (read_telegram b) (λ y. Ok (ys ++ (length ys, y) ∷ [])))

-- the group of these telegrams, or the first fault that it has as a group
abbrev pub group_of : Group → Result Group Refusal
group_of [] = Err GroupSize
group_of (y ∷ ys) = checked_group (Ok (y ∷ ys))

-- the plan with one group more, of these telegrams, or the first fault
abbrev pub with_read : rules.Plan → Group → Result rules.Plan Refusal
with_read plan ys = with_group plan (group_of ys)

-- these telegrams were read of some bits
abbrev pub WereRead : Group → Type 0
WereRead ys = (bs : List (List Bool)) × (length bs ≤ most_telegrams) × (read_telegrams 0 bs ≡ Ok ys)

-- One telegram more stands at the end; or it is refused and all stays. A group of less than eight telegrams may also be
-- out of memory.
abbrev pub ReadsOn : List Bool → Group → {A : Type 0} → Result A Refusal → Group → Type 0
ReadsOn b old (Ok u) new = with_telegram old b ≡ Ok new
ReadsOn b old (Err e) new = (((e ≡ OutOfMemory) × (length old < most_telegrams)) ⊎ (with_telegram old b ≡ Err e)) × (new ≡ old)

-- One group more stands at the end, and no change is counted; or its first fault is answered, or, where it has none, out of memory, and all stays.
abbrev pub PushesRead : Group → Plan → {A : Type 0} → Result A Refusal → Plan → Type 0
PushesRead ys old (Ok u) new = (with_read old.groups ys ≡ Ok new.groups) × (new.changes ≡ old.changes)
PushesRead ys old (Err e) new = (((e ≡ OutOfMemory) × IsOk (with_read old.groups ys)) ⊎ (with_read old.groups ys ≡ Err e)) × (new ≡ old)

-- One group more stands at the end, under the tag of its place; or a group has its identity, or, where none has, it is out of memory, and all stays.
abbrev pub PushesGroup : Group → Plan → {A : Type 0} → Result A Refusal → Plan → Type 0
PushesGroup ys old (Ok u) new = (with_group old.groups (Ok ys) ≡ Ok new.groups) × (new.changes ≡ old.changes)
PushesGroup ys old (Err e) new = (((e ≡ OutOfMemory) × IsOk (with_group old.groups (Ok ys))) ⊎ (with_group old.groups (Ok ys) ≡ Err e)) × (new ≡ old)
