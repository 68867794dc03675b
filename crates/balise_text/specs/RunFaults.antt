-- The faults of a run: the refusals that are printed for them, and what each states of the calls that failed.
use Rattle.std.specs.Prelude.{◌≡◌, ℕ}
use Rattle.balise_rules.specs.declared.refusal.Refusal.{Refusal}
use Rattle.balise_rules.specs.declared.refusal.Refusal.TheVariants as refusal
use Rattle.balise_lines.specs.Counts.{one_more}
use Rattle.balise_text.specs.declared.run_fault.RunFault.{RunFault}
use Rattle.balise_text.specs.declared.run_fault.RunFault.TheVariants.{InputTooLong, OutOfMemory, ReadFault, WriteFault}

abbrev pub refusal_of : RunFault → Refusal
refusal_of InputTooLong = refusal.InputTooLong
refusal_of OutOfMemory = refusal.OutOfMemory
refusal_of ReadFault = refusal.ReadFault
refusal_of WriteFault = refusal.WriteFault

-- the fault of a run, by the counts of the reader and of the writer before and after it
abbrev pub IsFault : ℕ → ℕ → ℕ → ℕ → RunFault → Type 0
IsFault read reads written writes InputTooLong = (reads ≡ read) × (writes ≡ written)
IsFault read reads written writes OutOfMemory = (reads ≡ read) × (writes ≡ written)
IsFault read reads written writes ReadFault = (reads ≡ one_more read) × (writes ≡ written)
IsFault read reads written writes WriteFault = (reads ≡ read) × (writes ≡ one_more written)
