use Rattle.balise_text.proofs.LinesBack as proof
use Rattle.balise_text.proofs.laws.prints_lines.Goals as goal

pub returns : goal.returns
returns c = proof.prints_lines
