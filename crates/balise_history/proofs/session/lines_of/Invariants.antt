use Rattle.std.proofs.Common.{◌≡◌, map, take}
use Rattle.balise_commands.specs.Lines.{line_in}
use Rattle.balise_rules.specs.Journal.{line_of}
use Rattle.balise_history.proofs.session.lines_of.Given as goal

abbrev pub invariant-loop-entry : goal.invariant-loop-entry
invariant-loop-entry l = map line_in l.lines.items ≡ map line_of (take l.entry-index l.entries)
