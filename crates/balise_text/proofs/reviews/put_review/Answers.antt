use Rattle.std.proofs.Common.{rules}
use Rattle.balise_text.proofs.reviews.put_review.Goals as goal

pub returns-in-Opaque : goal.returns-in-Opaque
returns-in-Opaque c = search rules
