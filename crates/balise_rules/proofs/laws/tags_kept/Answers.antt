use Rattle.balise_rules.proofs.Tests.{tag_test}
use Rattle.balise_rules.proofs.Distincts.{distinct-changed}
use Rattle.balise_rules.proofs.laws.tags_kept.Goals as goal

pub returns : goal.returns
returns c = (λ d xs. distinct-changed tag_test d xs, λ d xs. distinct-changed tag_test d xs)
