use Rattle.std.proofs.Common.{◌∙◌, ap}
use Rattle.balise_rules.specs.Packet.{value}
use Rattle.balise_rules.specs.declared.variable.Var.TheVariants.{NPig, NTotal}
use Rattle.balise_telegram.proofs.Walking.{head_shown}
use Rattle.balise_telegram.proofs.telegram.Telegram.place_in_group.Goals as goal

pub returns-clause-pig : goal.returns-clause-pig
returns-clause-pig c = c.place_in.ensures.pig ∙ ap (value NPig 0) (head_shown c.packed.result.now c.args.self.now c.packed.ensures)

pub returns-clause-total : goal.returns-clause-total
returns-clause-total c = c.place_in.ensures.total ∙ ap (value NTotal 0) (head_shown c.packed.result.now c.args.self.now c.packed.ensures)
