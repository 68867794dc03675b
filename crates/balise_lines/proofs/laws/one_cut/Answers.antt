use Rattle.balise_lines.proofs.JoinedLines.{lines_make_input, one_cut}
use Rattle.balise_lines.proofs.laws.one_cut.Goals as goal

pub returns : goal.returns
returns c = record { whole = lines_make_input; one = one_cut }
