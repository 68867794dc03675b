use Rattle.std.proofs.Common.{rules}
use Rattle.balise_text.proofs.replies.put_reply.Goals as goal

pub returns-in-Undone : goal.returns-in-Undone
returns-in-Undone c = search rules
