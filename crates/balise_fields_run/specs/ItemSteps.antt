-- One line of a run from fields to digits, and its end.
use Rattle.std.specs.Prelude.{◌≡◌, Bool, Option}
use Rattle.balise_lines.specs.Writing.{LastFailed, WritesAll, WritesSome}
use Rattle.balise_lines.specs.declared.counted.Counted.{Counted}
use Rattle.balise_text.specs.Texts.{Text}
use Rattle.balise_text.specs.declared.run_fault.RunFault.{RunFault}
use Rattle.balise_text.specs.declared.run_fault.RunFault.TheVariants.{InputTooLong, OutOfMemory, ReadFault, WriteFault}

-- all of the text was written, and this says whether an item was refused
abbrev pub TextDone : {W : Type 0} → (W → Option Text) → Counted W → Counted W → Text → Bool → Bool → Type 0
TextDone contents old new text bad refused = (refused ≡ bad) × WritesAll contents old new text

-- memory ran out before anything of the text was written; or the writer failed in it
abbrev pub TextFails : {W : Type 0} → (W → Option Text) → Counted W → Counted W → Text → RunFault → Type 0
TextFails contents old new text OutOfMemory = new ≡ old
TextFails contents old new text WriteFault = WritesSome LastFailed contents old new text
TextFails contents old new text InputTooLong = ⊥
TextFails contents old new text ReadFault = ⊥
