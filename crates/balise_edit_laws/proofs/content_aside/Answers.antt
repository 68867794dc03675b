use Rattle.balise_edit_laws.proofs.ContentAside.{content_aside}
use Rattle.balise_edit_laws.proofs.content_aside.Goals as goal

pub returns : goal.returns
returns c = content_aside
