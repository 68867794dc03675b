use Rattle.std.proofs.Common.{rules}
use Rattle.balise_lines.proofs.line_buffer.LineBuffer.look_on.Goals as goal

pub returns-in_err-read_from-clause-needed : goal.returns-in_err-read_from-clause-needed
returns-in_err-read_from-clause-needed c = search rules

pub returns-in_err-read_from-clause-short : goal.returns-in_err-read_from-clause-short
returns-in_err-read_from-clause-short c = search rules

pub reads-init : goal.reads-init
reads-init c = search rules
