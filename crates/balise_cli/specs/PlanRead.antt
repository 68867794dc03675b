-- A plan read line by line.
use Rattle.std.specs.Prelude.{◌≡◌, ◌⊎◌, nat_le, cond, Bool, List, length, Result, Ok, Err, IsOk}
use Rattle.balise_rules.specs.declared.refusal.Refusal.{Refusal}
use Rattle.balise_rules.specs.declared.refusal.Refusal.TheVariants.{GroupSize, OutOfMemory}
use Rattle.balise_rules.specs.Digits.{read_hex}
use Rattle.balise_rules.specs.Plan.{Group, Plan, read_plan}
use Rattle.balise_rules.specs.Refusals.{and_then}
use Rattle.balise_plan.specs.GroupReading.{most_telegrams, with_telegram, with_read}
use Rattle.balise_text.specs.DigitWords.{bits_due}
use Rattle.balise_text.specs.Texts.{Text}

-- the telegrams of a group with that of one line more; a line over eight isn't looked at
abbrev pub with_line : Group → Text → Result Group Refusal
with_line ys line = cond (nat_le most_telegrams (length ys)) (Err GroupSize) (and_then (read_hex (bits_due (length line)) line) (with_telegram ys))

-- groups were read, and nothing else was done
abbrev pub WasRead : Plan → Type 0
WasRead plan = (groups : List (List (List Bool))) × (read_plan groups ≡ Ok plan)

-- One group more was read; or its first fault is answered, or, where it has none, out of memory, and all stays.
abbrev pub Grows : Group → Plan → {A : Type 0} → Result A Refusal → Plan → Type 0
Grows ys old (Ok u) new = with_read old ys ≡ Ok new
Grows ys old (Err e) new = (((e ≡ OutOfMemory) × IsOk (with_read old ys)) ⊎ (with_read old ys ≡ Err e)) × (new ≡ old)
