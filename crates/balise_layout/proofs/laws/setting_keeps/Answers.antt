use Rattle.balise_layout.proofs.Setting.{IsSpelt-with_field, width-with_field}
use Rattle.balise_layout.proofs.laws.setting_keeps.Goals as goal

pub returns : goal.returns
returns c = λ version p v k n free fits s. (IsSpelt-with_field version p v k n free fits s, width-with_field v k n p)
