use Rattle.balise_cli.proofs.BasePlans.{input_ends}
use Rattle.balise_cli.proofs.plan_reader.PlanReader.end.Goals as goal

pub returns-in-Err-OutOfMemory-clause-takes : goal.returns-in-Err-OutOfMemory-clause-takes
returns-in-Err-OutOfMemory-clause-takes c =
    input_ends c.args.self.now.stage c.args.self.now.plan c.in-InGroup.group_number c.in-InGroup.group c.replace.result c.in-Err-OutOfMemory.field-0 c.in-InGroup.is c.replace.ensures.value c.in-Err-OutOfMemory.field-0-is c.in-Err-OutOfMemory.ensures.0
