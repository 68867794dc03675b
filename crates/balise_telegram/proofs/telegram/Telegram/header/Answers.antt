use Rattle.std.proofs.Common.{◌∙◌}
use Rattle.balise_telegram.proofs.Walking.{head_shown}
use Rattle.balise_telegram.proofs.telegram.Telegram.header.Goals as goal

pub returns : goal.returns
returns c = c.read.ensures ∙ head_shown c.packed.result.now c.args.self.now c.packed.ensures
