-- What one line does.
use Rattle.std.proofs.Common.{◌≡◌, ℕ, [], Bool, true, false, cond, ◌||◌, ◌&&◌, Option, Some, None, ◌++◌, refl, sym, ap, ◌∙◌, append_assoc}
use Rattle.std.specs.Io.KnownBytes.{Appends}
use Rattle.std.proofs.KnownBytes.{Appends-nil, Appends-trans}
use Rattle.balise_rules.specs.Plan.{Plan}
use Rattle.balise_rules.specs.Session.{State}
use Rattle.balise_lines.specs.Writing.{AppendsPart}
use Rattle.balise_lines.proofs.WrittenTexts.{part_after, part_front, some_nothing}
use Rattle.balise_cli.specs.declared.asked.Asked.{Asked}
use Rattle.balise_text.specs.Answers.{reply_of}
use Rattle.balise_text.specs.Replies.{is_refused}
use Rattle.balise_text.specs.PlanLines.{plan_line_of}
use Rattle.balise_text.specs.Texts.{Text}
use Rattle.balise_text.specs.Printing.{IsCause}
use Rattle.balise_cli.specs.Output.{Commands, IsStep, Next, On, Over, Phase, after_command, after_read, read_line, reply_text}
use Rattle.balise_cli.specs.Output as phase
use Rattle.balise_cli.specs.PlanTexts.{end_text}
use Rattle.balise_cli.specs.Private.{DidAnswer, answer_text}
use Rattle.balise_cli.specs.Phases.{DidPart, DidSome, DidStep, EndMayRunOut, LineMayRunOut, WrittenOfEnd, WrittenOfLine, WroteSuch, is_telegram, last_text, phase_at}
use Rattle.balise_cli.specs.declared.answers.Answer.{Answer}
use Rattle.balise_cli.specs.declared.plan_reader.PlanStage.{PlanStage}
use Rattle.balise_cli.specs.declared.plan_reader.PlanStage.TheVariants.{Between, First, InGroup}
use Rattle.balise_text.specs.declared.run_fault.RunFault.{RunFault}
use Rattle.balise_text.specs.declared.run_fault.RunFault.TheVariants.{InputTooLong, OutOfMemory, ReadFault, WriteFault}
use Rattle.balise_cli.specs.declared.status.Status.TheVariants.{SomeRefused}

-- A command.

module _ (asked : Asked) (s t : State) (refused : Bool) (n : ℕ) (line : Text) (a : Answer) (did : DidAnswer line s a t) where
  -- its answer is the step's text
  is_step : (next : Next) → next ≡ after_command asked (reply_of a.reply) t refused → IsStep asked true (Commands s refused) n line (answer_text asked.quiet a) next
  is_step next e = (reply_of a.reply, (t, (did.0, ap (reply_text asked.quiet (reply_of a.reply)) did.1, e)))

  pub command_on : (old new : Option Text) → (asked.stop && is_refused (reply_of a.reply)) ≡ false → Appends old new (answer_text asked.quiet a)
      → DidStep asked (Commands s refused) n line old new (Commands t (refused || is_refused (reply_of a.reply))) None
  command_on old new e w =
      (answer_text asked.quiet a, (is_step _ (sym (ap (λ b. cond b (Over (end_text asked t) SomeRefused) (On (Commands t (refused || is_refused (reply_of a.reply))))) e)), w))

  stops : (asked.stop && is_refused (reply_of a.reply)) ≡ true → Over (end_text asked t) SomeRefused ≡ after_command asked (reply_of a.reply) t refused
  stops e = sym (ap (λ b. cond b (Over (end_text asked t) SomeRefused) (On (Commands t (refused || is_refused (reply_of a.reply))))) e)

  pub command_over : (old now new : Option Text) (q : Phase) → (asked.stop && is_refused (reply_of a.reply)) ≡ true → Appends old now (answer_text asked.quiet a) → Appends now new (end_text asked t)
      → DidStep asked (Commands s refused) n line old new q (Some SomeRefused)
  command_over old now new q e w v = (answer_text asked.quiet a, (end_text asked t, (is_step _ (stops e), Appends-trans old now new _ _ w v)))

  -- not all of its answer was written
  pub command_part : (old new : Option Text) → AppendsPart old new (answer_text asked.quiet a) → DidPart asked (Commands s refused) n line old new
  command_part old new w = (answer_text asked.quiet a, (after_command asked (reply_of a.reply) t refused, (is_step _ refl, part_front old new (answer_text asked.quiet a) _ w)))

  -- its answer was, and not all of the end
  pub command_end_part : (old now new : Option Text) → (asked.stop && is_refused (reply_of a.reply)) ≡ true → Appends old now (answer_text asked.quiet a) → AppendsPart now new (end_text asked t)
      → DidPart asked (Commands s refused) n line old new
  command_end_part old now new e w v = (answer_text asked.quiet a, (Over (end_text asked t) SomeRefused, (is_step _ (stops e), part_after old now new (answer_text asked.quiet a) (end_text asked t) w v)))

  -- memory ran out for the rest of the end
  pub command_ran_out : (old now new : Option Text) → (asked.stop && is_refused (reply_of a.reply)) ≡ true → Appends old now (answer_text asked.quiet a) → AppendsPart now new (end_text asked t)
      → WroteSuch (WrittenOfLine asked (Commands s refused) n line) old new
  command_ran_out old now new e w v =
      (answer_text asked.quiet a ++ v.0.done, ((answer_text asked.quiet a, (end_text asked t, (v.0.done, (is_step _ (stops e), (v.0.begins.0, (v.0.begins.1, v.1)), refl)))), Appends-trans old now new _ _ w v.0.appended))

-- where memory ran out for the rest of the end, a beginning of what the line gives was written
some_of_line : (asked : Asked) (s : State) (refused : Bool) (n : ℕ) (line : Text) (old new : Option Text) → WroteSuch (WrittenOfLine asked (Commands s refused) n line) old new → DidSome asked (Commands s refused) n line old new
some_of_line asked s refused n line old new w =
    let p = w.1.0 in
    let now = p.0 in
    let text = p.1.0 in
    let begun = p.1.1.0 in
    let parts = p.1.1.1 in
    let rest = parts.1.0 in (
      now,
      (
        Over text SomeRefused,
        (
          parts.0,
          record {
            done = w.0;
            begins = (rest, ap (λ (l : Text). l ++ rest) parts.2 ∙ append_assoc now begun rest ∙ ap (λ (l : Text). now ++ l) parts.1.1.0);
            appended = w.1.1;
          },
        ),
      ),
    )

-- where not all of it was written, a beginning was
some_of_part : (asked : Asked) (p : Phase) (n : ℕ) (line : Text) (old new : Option Text) → DidPart asked p n line old new → DidSome asked p n line old new
some_of_part asked p n line old new (out, (next, (is, w))) = (out, (next, (is, w.0)))

-- whatever the fault is
pub did_some : (asked : Asked) (s : State) (refused : Bool) (n : ℕ) (line : Text) (old new : Option Text) (before after : ℕ) (e : RunFault) → IsCause before after e
    → (e ≡ WriteFault → DidPart asked (Commands s refused) n line old new) → (e ≡ OutOfMemory → WroteSuch (WrittenOfLine asked (Commands s refused) n line) old new) → DidSome asked (Commands s refused) n line old new
did_some asked s refused n line old new before after OutOfMemory w f m = some_of_line asked s refused n line old new (m refl)
did_some asked s refused n line old new before after WriteFault w f m = some_of_part asked (Commands s refused) n line old new (f refl)
did_some asked s refused n line old new before after InputTooLong w f m = absurd w
did_some asked s refused n line old new before after ReadFault w f m = absurd w

-- A line of the plan or the journal.

abbrev pub IsReading : Phase → Type 0
IsReading (Commands s refused) = ⊥
IsReading _ = Unit {0}

pub plan_reading : (at : PlanStage) (plan : Plan) → IsReading (phase_at at plan)
plan_reading First plan = tt
plan_reading Between plan = tt
plan_reading (InGroup g ys) plan = tt

pub read_step : (asked : Asked) (p : Phase) (n : ℕ) (line : Text) → IsReading p → IsStep asked true p n line [] (after_read (read_line p n line))
read_step asked phase.Header n line h = (refl, refl)
read_step asked (phase.Between plan) n line h = (refl, refl)
read_step asked (phase.InGroup plan g ys) n line h = (refl, refl)
read_step asked (phase.InJournal part s) n line h = (refl, refl)
read_step asked (Commands s refused) n line h = absurd h

-- no memory was had for it: nothing was written
pub none_read : (asked : Asked) (p : Phase) (n : ℕ) (line : Text) (old : Option Text) → IsReading p → DidSome asked p n line old old
none_read asked p n line old h = ([], (after_read (read_line p n line), (read_step asked p n line h, some_nothing old (last_text (after_read (read_line p n line))))))

pub none_of_line : (asked : Asked) (p : Phase) (n : ℕ) (line : Text) (old : Option Text) → LineMayRunOut p (is_telegram (plan_line_of line)) → WroteSuch (WrittenOfLine asked p n line) old old
none_of_line asked (phase.InGroup plan g ys) n line old h = ([], ((h, refl), Appends-nil old))
none_of_line asked phase.Header n line old h = absurd h
none_of_line asked (phase.Between plan) n line old h = absurd h
none_of_line asked (phase.InJournal part s) n line old h = absurd h
none_of_line asked (Commands s refused) n line old h = absurd h

pub none_of_end : (asked : Asked) (p : Phase) (old : Option Text) → EndMayRunOut p → WroteSuch (WrittenOfEnd asked p) old old
none_of_end asked (phase.InGroup plan g ys) old h = ([], ((h, refl), Appends-nil old))
none_of_end asked phase.Header old h = absurd h
none_of_end asked (phase.Between plan) old h = absurd h
none_of_end asked (phase.InJournal part s) old h = absurd h
none_of_end asked (Commands s refused) old h = absurd h
