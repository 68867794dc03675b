use Rattle.balise_text.proofs.LinesBack as proof
use Rattle.balise_text.proofs.laws.head_reads_as_printed.Goals as goal

pub returns : goal.returns
returns c = proof.head_reads_as_printed
