-- The lines that this crate reads, as those of the definitions.
use Rattle.balise_commands.specs.Lines.{line_in}
use Rattle.balise_text.specs.JournalLines as lines
use Rattle.balise_text.specs.declared.journal_line.JournalLine.{JournalLine}
use Rattle.balise_text.specs.declared.journal_line.JournalLine.TheVariants.{Entry, Undone, Edits}

abbrev pub journal_line_in : JournalLine → lines.JournalLine
journal_line_in (Entry l) = lines.EntryLine (line_in l)
journal_line_in (Undone s) = lines.UndoneLine s
journal_line_in Edits = lines.EditsLine
