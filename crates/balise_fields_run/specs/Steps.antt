-- One line of a run, and why none is read.
use Rattle.std.specs.Prelude.{◌≡◌, Bool, false, Option}
use Rattle.std.specs.Io.KnownBytes.{Keeps}
use Rattle.balise_lines.specs.Counts.{one_more}
use Rattle.balise_lines.specs.Lines.{HasNoEnd}
use Rattle.balise_lines.specs.Reading.{LongNext, ahead, is_over, left, place_of}
use Rattle.balise_lines.specs.Writing.{LastFailed, WritesAll, WritesSome}
use Rattle.balise_lines.specs.declared.counted.Counted.{Counted}
use Rattle.balise_lines.specs.declared.lines.Lines.{Lines}
use Rattle.balise_text.specs.Texts.{Text}
use Rattle.balise_fields.specs.declared.explained.Explained.{Explained}
use Rattle.balise_fields.specs.Explaining.{IsExplained, is_refused}
use Rattle.balise_fields.specs.ExplainedTexts.{explained_text}
use Rattle.balise_text.specs.declared.run_fault.RunFault.{RunFault}
use Rattle.balise_text.specs.declared.run_fault.RunFault.TheVariants.{InputTooLong, OutOfMemory, ReadFault, WriteFault}

-- the line was explained, and all of that was written
abbrev pub LineDone : {W : Type 0} → (W → Option Text) → Counted W → Counted W → Text → Bool → Type 0
LineDone contents old new line refused = (x : Explained) × IsExplained line x × (refused ≡ is_refused x) × WritesAll contents old new (explained_text x)

-- memory ran out before anything was written of it; or the writer failed in it
abbrev pub LineFails : {W : Type 0} → (W → Option Text) → Counted W → Counted W → Text → RunFault → Type 0
LineFails contents old new line OutOfMemory = new ≡ old
LineFails contents old new line WriteFault = (x : Explained) × IsExplained line x × WritesSome LastFailed contents old new (explained_text x)
LineFails contents old new line InputTooLong = ⊥
LineFails contents old new line ReadFault = ⊥

-- the next line is too long; or the reader failed, and no line ends in what was read ahead
abbrev pub NoneAhead : {R : Type 0} → (R → Option Text) → Lines → Lines → Counted R → Counted R → RunFault → Type 0
NoneAhead remaining old new reader readers InputTooLong = LongNext (left old (remaining reader.inner)) (place_of old) × (is_over old ≡ false) × (readers.failed ≡ reader.failed)
NoneAhead remaining old new reader readers ReadFault = HasNoEnd (ahead new) × Keeps (left old (remaining reader.inner)) (left new (remaining readers.inner)) × (readers.failed ≡ one_more reader.failed)
NoneAhead remaining old new reader readers OutOfMemory = ⊥
NoneAhead remaining old new reader readers WriteFault = ⊥
