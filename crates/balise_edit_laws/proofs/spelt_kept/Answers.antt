use Rattle.balise_edit_laws.proofs.SpeltKept.{spelt_after, spelt_before}
use Rattle.balise_edit_laws.proofs.spelt_kept.Goals as goal

pub returns : goal.returns
returns c = λ e f plan r. (spelt_after e f plan r, spelt_before e f plan r)
