use Rattle.std.proofs.Common.{rules}
use Rattle.balise_index.proofs.links.Links.is_empty.Goals as goal

pub returns : goal.returns
returns c = search rules
