use Rattle.std.proofs.Common.{rules}
use Rattle.balise_text.proofs.plan_line.read_plan_line.Goals as goal

pub returns-then-starts_with : goal.returns-then-starts_with
returns-then-starts_with c = search rules
