use Rattle.std.specs.Prelude.{IsErrOf}
use Rattle.std.proofs.Common.{◌≡◌, ◌∙◌, ◌&&◌, Err, Option, sym, subst, ap}
use Rattle.balise_lines.specs.Writing.{Leaves}
use Rattle.balise_text.specs.Printing.{reason_of}
use Rattle.balise_cli.specs.Output.{Header}
use Rattle.balise_text.specs.declared.run_fault.RunFault.{RunFault}
use Rattle.balise_text.specs.declared.run_fault.RunFault.TheVariants.{OutOfMemory, WriteFault}
use Rattle.balise_cli.specs.declared.status.Status.{Status}
use Rattle.balise_cli.proofs.OneLine.{command_end_part, command_over, command_part, command_ran_out}
use Rattle.balise_cli.proofs.commands.Commands.answer.Goals as goal

pub returns-in-Err-clause-written : goal.returns-in-Err-clause-written
returns-in-Err-clause-written g c = λ _.
    command_part c.args.asked c.args.self.now.session.state c.answer_line-answer.new.session.state c.args.self.now.refused 0 c.args.line.now c.answer_line-answer.result c.answer_line-answer.ensures _ _ (c.in-Err.ensures.begun, c.in-Err.ensures.left)

-- the fault is the writer's
failed : (e : RunFault) → IsErrOf {T = Option Status} (Err e) WriteFault → e ≡ WriteFault
failed e h = cc

-- memory ran out
ran_out : (e : RunFault) → IsErrOf {T = Option Status} (Err e) OutOfMemory → e ≡ OutOfMemory
ran_out e h = cc

pub returns-in-Err-put_end-clause-written : goal.returns-in-Err-put_end-clause-written
returns-in-Err-put_end-clause-written g c = λ h.
    command_end_part c.args.asked c.args.self.now.session.state c.answer_line-answer.new.session.state c.args.self.now.refused 0 c.args.line.now c.answer_line-answer.result c.answer_line-answer.ensures _ _ _
    (ap (λ b. c.args.asked.stop && b) (sym c.is_refused-is_refused.ensures) ∙ c.if-asked-is_refused.true) c.in_default.ensures.appended (c.in-Err-put_end.ensures.begun, subst (λ f. Leaves (reason_of f) c.in-Err-put_end.ensures.begun.begins.0) (failed c.in-Err-put_end.fault h) c.in-Err-put_end.ensures.left)

pub returns-then-asked-is_refused-clause-ok : goal.returns-then-asked-is_refused-clause-ok
returns-then-asked-is_refused-clause-ok g c =
    command_over c.args.asked c.args.self.now.session.state c.answer_line-answer.new.session.state c.args.self.now.refused 0 c.args.line.now c.answer_line-answer.result c.answer_line-answer.ensures _ _ _ Header
    (ap (λ b. c.args.asked.stop && b) (sym c.is_refused-is_refused.ensures) ∙ c.if-asked-is_refused.true) c.in_default.ensures.appended c.in_default-put_end.ensures.appended

pub returns-in-Err-put_end-clause-memory : goal.returns-in-Err-put_end-clause-memory
returns-in-Err-put_end-clause-memory g c = λ h.
    command_ran_out c.args.asked c.args.self.now.session.state c.answer_line-answer.new.session.state c.args.self.now.refused 0 c.args.line.now c.answer_line-answer.result c.answer_line-answer.ensures _ _ _
    (ap (λ b. c.args.asked.stop && b) (sym c.is_refused-is_refused.ensures) ∙ c.if-asked-is_refused.true) c.in_default.ensures.appended (c.in-Err-put_end.ensures.begun, subst (λ f. Leaves (reason_of f) c.in-Err-put_end.ensures.begun.begins.0) (ran_out c.in-Err-put_end.fault h) c.in-Err-put_end.ensures.left)
