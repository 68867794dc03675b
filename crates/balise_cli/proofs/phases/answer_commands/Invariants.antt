use Rattle.std.proofs.Common.{◌≡◌, ◌-◌, Option}
use Rattle.balise_lines.specs.Reading.{OverAtEnd, place_of}
use Rattle.balise_text.specs.Texts.{Text}
use Rattle.balise_cli.specs.Phases.{commands_phase}
use Rattle.balise_cli.specs.Progress.{HasCome}
use Rattle.balise_cli.proofs.phases.answer_commands.Given as goal

abbrev pub invariant-lines : goal.invariant-lines
invariant-lines g l = (l.reader.failed ≡ l.fn.reader.failed) × (l.writer.failed ≡ l.fn.writer.failed) × OverAtEnd l.lines (g.R.Read.remaining l.reader.inner)
    × ((had old : Option Text) → HasCome l.asked had old (commands_phase l.fn.commands) l.fn.lines (g.R.Read.remaining l.fn.reader.inner) (g.W.Write.contents l.fn.writer.inner)
    → HasCome l.asked had old (commands_phase l.commands) l.lines (g.R.Read.remaining l.reader.inner) (g.W.Write.contents l.writer.inner))

abbrev pub decreases-lines : goal.decreases-lines
decreases-lines g l = 67108866 - place_of l.lines
