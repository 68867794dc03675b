use Rattle.std.proofs.Common.{◌++◌, sym, refl, subst}
use Rattle.balise_lines.specs.Writing.{LastFailed}
use Rattle.balise_fields.proofs.Sequences.{some_behind}
use Rattle.balise_fields_run.specs.ItemLines.{closed_text, plan_text}
use Rattle.balise_fields_run.specs.ItemSteps.{TextFails}
use Rattle.balise_text.specs.declared.run_fault.RunFault.{RunFault}
use Rattle.balise_fields_run.proofs.TextParts.{first_fails}
use Rattle.balise_fields_run.proofs.item_line.end_item.Goals as goal

pub returns-in-Err-clause-fault : goal.returns-in-Err-clause-fault
returns-in-Err-clause-fault g c = first_fails g.W.Write.contents c.args.writer.now c.close.new.writer (closed_text c.args.number c.args.current.now) (plan_text c.args.line.now) c.in-Err.fault c.in-Err.ensures.fault

pub returns-in-Err-put_plan-clause-fault : goal.returns-in-Err-put_plan-clause-fault
returns-in-Err-put_plan-clause-fault g c =
    let closed = closed_text c.args.number c.args.current.now in
    let plan = plan_text c.args.line.now in
    subst (λ (e : RunFault). TextFails g.W.Write.contents c.args.writer.now c.put_plan.new.writer (closed ++ plan) e) (sym c.from.ensures)
    (some_behind LastFailed g.W.Write.contents (closed ++ plan) closed plan c.args.writer.now c.close.new.writer c.put_plan.new.writer refl c.in-Ok.ensures.ok.1 c.in-Err-put_plan.ensures)
