use Rattle.std.proofs.Common.{rules}
use Rattle.balise_text.proofs.journal_line.read_journal_line.Goals as goal

pub returns-in_default-undone-clause-ok : goal.returns-in_default-undone-clause-ok
returns-in_default-undone-clause-ok c = search rules

pub returns-in_default-undone-clause-fault : goal.returns-in_default-undone-clause-fault
returns-in_default-undone-clause-fault c = search rules
