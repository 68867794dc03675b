use Rattle.std.proofs.Common.{◌∙◌, ap}
use Rattle.balise_text.specs.Words.{read_as, words_of}
use Rattle.balise_text.specs.JournalLines.{EntryLine, entry_in}
use Rattle.balise_text.proofs.Reading.{or_bad_as}
use Rattle.balise_text.proofs.journal_line.entry_line.Goals as goal

pub returns-in-Err-clause-fault : goal.returns-in-Err-clause-fault
returns-in-Err-clause-fault c = λ n. or_bad_as EntryLine (entry_in (words_of c.args.line.now)) ∙ ap (read_as EntryLine) (c.in-Err.ensures.fault n)
