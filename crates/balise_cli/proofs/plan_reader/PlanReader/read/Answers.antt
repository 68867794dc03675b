use Rattle.balise_cli.proofs.BasePlans.{line_ends}
use Rattle.balise_cli.proofs.plan_reader.PlanReader.read.Goals as goal

pub returns-in-Err-OutOfMemory-clause-takes : goal.returns-in-Err-OutOfMemory-clause-takes
returns-in-Err-OutOfMemory-clause-takes c =
    line_ends c.args.self.now.stage c.args.self.now.plan c.in-InGroup.group_number c.in-InGroup.group c.replace.result c.in-Err-OutOfMemory.field-0 c.in-InGroup.is c.replace.ensures.value c.in-Err-OutOfMemory.field-0-is c.in-Err-OutOfMemory.ensures.0
    _ _ c.read_plan_line-kind.ensures c.if-is_telegram.ensures
