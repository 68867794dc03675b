use Rattle.std.proofs.Common.{◌≡◌, ◌-◌, Option}
use Rattle.balise_lines.specs.Reading.{OverAtEnd, place_of}
use Rattle.balise_cli.specs.declared.asked.Asked.{Asked}
use Rattle.balise_text.specs.Texts.{Text}
use Rattle.balise_cli.specs.Phases.{journal_phase}
use Rattle.balise_cli.specs.Progress.{HasCome}
use Rattle.balise_cli.proofs.phases.read_journal.Given as goal

abbrev pub invariant-lines : goal.invariant-lines
invariant-lines g l = (l.reader.failed ≡ l.fn.reader.failed) × OverAtEnd l.lines (g.R.Read.remaining l.reader.inner)
    × ((asked : Asked) → (had old now : Option Text) → HasCome asked had old (journal_phase l.fn.journal) l.fn.lines (g.R.Read.remaining l.fn.reader.inner) now → HasCome asked had old (journal_phase l.journal) l.lines (g.R.Read.remaining l.reader.inner) now)

abbrev pub decreases-lines : goal.decreases-lines
decreases-lines g l = 67108866 - place_of l.lines
