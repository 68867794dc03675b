use Rattle.std.proofs.Common.{◌∙◌, ap}
use Rattle.balise_rules.specs.Packet.{value}
use Rattle.balise_rules.specs.declared.variable.Var.TheVariants.{MVersion}
use Rattle.balise_telegram.proofs.Walking.{head_shown}
use Rattle.balise_telegram.proofs.telegram.Telegram.version.Goals as goal

pub returns : goal.returns
returns c = c.version_in.ensures ∙ ap (value MVersion 0) (head_shown c.packed.result.now c.args.self.now c.packed.ensures)
