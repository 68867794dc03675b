use Rattle.balise_text.proofs.LinesBack as proof
use Rattle.balise_text.proofs.laws.reads_as_printed.Goals as goal

pub returns : goal.returns
returns c = proof.reads_as_printed
