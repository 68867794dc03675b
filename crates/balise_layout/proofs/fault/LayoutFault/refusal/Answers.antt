use Rattle.std.proofs.Common.{rules}
use Rattle.balise_layout.proofs.fault.LayoutFault.refusal.Goals as goal

pub returns-in-Steering : goal.returns-in-Steering
returns-in-Steering c = search rules
