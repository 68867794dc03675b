use Rattle.std.proofs.Common.{rules}
use Rattle.balise_text.proofs.journal_text.put_head.Goals as goal

pub returns : goal.returns
returns c = search rules
