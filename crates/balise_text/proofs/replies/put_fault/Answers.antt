use Rattle.std.proofs.Common.{rules}
use Rattle.balise_text.proofs.replies.put_fault.Goals as goal

pub returns : goal.returns
returns c = search rules
