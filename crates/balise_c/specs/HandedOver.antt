-- What a call hands over of what a run wrote.
use Rattle.std.specs.Prelude.{◌≡◌, ◌<◌, ◌≤◌, ℕ, ℤ, pos, length, take, drop, Result, Ok, Err}
use Rattle.balise_text.specs.Texts.{Text}
use Rattle.balise_text.specs.declared.run_fault.RunFault.{RunFault}
use Rattle.balise_text.specs.declared.run_fault.RunFault.TheVariants.{InputTooLong, OutOfMemory, ReadFault, WriteFault}

-- how a call ends whose run ended so, where all that it wrote fits: neither a read nor a write fails there
abbrev pub ends_within : {S : Type 0} → Result S RunFault → Result S RunFault
ends_within (Ok status) = Ok status
ends_within (Err InputTooLong) = Err InputTooLong
ends_within (Err OutOfMemory) = Err OutOfMemory
ends_within (Err ReadFault) = Err OutOfMemory
ends_within (Err WriteFault) = Err OutOfMemory

-- the number of bytes that it hands over, if n are printed
abbrev pub count_within : {S : Type 0} → Result S RunFault → ℕ → ℕ
count_within (Ok status) n = n
count_within (Err InputTooLong) n = n
count_within (Err OutOfMemory) n = n
count_within (Err ReadFault) n = 0
count_within (Err WriteFault) n = 0

-- The front of what a run wrote, which ended so, is at the front of the output: all of it, or what there is room for. Only then is the output full, as a fault of the writer.
pub record HandsOver {S : Type 0} (ended : Result S RunFault) (text old new : Text) (written : ℕ) (result : Result S RunFault) : Type 0 where
  pub kept : drop written new ≡ drop written old
  pub copied : take written new ≡ take written text
  pub fits : length text ≤ length old → (written ≡ count_within ended (length text)) × (result ≡ ends_within ended)
  pub is_full : length old < length text → (written ≡ length old) × (result ≡ Err WriteFault)

-- What a call leaves in the output: the text at the front, and all after it as it was. Only a full output is the fault of the writer. IsText says which text that is, by how the call ended.
pub record LeavesOutput {S : Type 0} (IsText : Text → Result S RunFault → Type 0) (old new : Text) (written : ℕ) (ended : Result S RunFault) : Type 0 where
  pub within : written ≤ length old
  pub kept : drop written new ≡ drop written old
  pub is_printed : IsText (take written new) ended
  pub is_full : ended ≡ Err WriteFault → written ≡ length old

-- So the output is left, and the number of how the run ended is answered.
pub record FillsWith {S : Type 0} (IsText : Text → Result S RunFault → Type 0) (number : Result S RunFault → ℕ) (old new : Text) (written : ℕ) (answer : ℤ) : Type 0 where
  pub ended : Result S RunFault
  pub fills : LeavesOutput IsText old new written ended
  pub is_number : answer ≡ pos (number ended)
