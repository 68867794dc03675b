-- How a run goes on after a line that was read, and how it ends.
use Rattle.std.proofs.Common.{◌≡◌, ◌≢◌, ℕ, [], Bool, true, false, Option, Some, None, Result, Ok, Err, refl, sym, ap, subst, ◌∙◌}
use Rattle.std.specs.Prelude.{IfErr, IfOk}
use Rattle.std.specs.Io.KnownBytes.{Appends, IsAtEnd, Keeps}
use Rattle.std.proofs.KnownBytes.{Appends-nil}
use Rattle.balise_rules.specs.declared.refusal.Refusal.{Refusal}
use Rattle.balise_rules.specs.Session.{State}
use Rattle.balise_lines.specs.Counts.{one_more}
use Rattle.balise_lines.specs.Lines.{HasNoEnd, Line}
use Rattle.balise_lines.specs.Reading.{LongNext, OverAtEnd, TookLine, TookNone, ahead, is_over, left, number_of, place_of}
use Rattle.balise_lines.specs.Writing.{AppendsPart, AppendsSome, Leaves}
use Rattle.balise_lines.specs.declared.counted.Counted.{Counted}
use Rattle.balise_lines.specs.declared.lines.Lines.{Lines}
use Rattle.balise_lines.proofs.HeldBytes.{ahead_few}
use Rattle.balise_lines.proofs.InputsLeft.{left_at_first, reader_ended}
use Rattle.balise_lines.proofs.WrittenTexts.{some_nothing}
use Rattle.balise_cli.specs.declared.asked.Asked.{Asked}
use Rattle.balise_text.specs.Replies.{bad_line}
use Rattle.balise_text.specs.Texts.{Text}
use Rattle.balise_text.specs.Printing.{IsCause, Prints, reason_of}
use Rattle.balise_text.specs.RunFaults.{IsFault}
use Rattle.balise_cli.specs.Output.{Bad, Commands, Good, Header, IsStep, Over, Phase, Read, after_read, at_end, read_line}
use Rattle.balise_cli.specs.PlanTexts.{end_text}
use Rattle.balise_cli.specs.Phases.{DidPart, DidSome, DidStep, WrittenOfEnd, WrittenOfLine, WroteSuch, last_text}
use Rattle.balise_cli.specs.Progress.{HasCome, IsReadAs, IsRefused, Ran, RanToEnd, RanToFault}
use Rattle.balise_cli.specs.Statuses.{status_of}
use Rattle.balise_text.specs.declared.run_fault.RunFault.{RunFault}
use Rattle.balise_text.specs.declared.run_fault.RunFault.TheVariants.{InputTooLong, OutOfMemory, ReadFault, WriteFault}
use Rattle.balise_cli.specs.declared.status.Status.{Status}
use Rattle.balise_cli.specs.declared.status.Status.TheVariants.{BadInput}
use Rattle.balise_cli.proofs.LineByLine.{TookIt, begins, begun_before, begun_ending, begun_in, ended, fault_before, fault_ending, fault_in, over_at, stepped, too_long}
use Rattle.balise_cli.proofs.LinesRead.{end_ran_out, end_unwritten, input_ended, line_ended, line_ran_out, line_unwritten, reader_failed}
use Rattle.balise_cli.proofs.OneLine.{IsReading, none_read, read_step}

taken : (l m : Lines) (had has : Option Text) (line : Line) → TookLine l had line m has → TookIt (left l had) (left m has) (is_over m) (place_of l) line
taken l m had has line took = record { is_line = took.is_line; consumed = took.consumed; fits = took.fits; over = took.over }

-- the counts of a fault in a line or at the end, where the reader didn't fail
counted : (read reads written writes : ℕ) (e : RunFault) → reads ≡ read → IsCause written writes e → IsFault read reads written writes e
counted read reads written writes OutOfMemory r w = (r, w)
counted read reads written writes WriteFault r w = (r, w)
counted read reads written writes InputTooLong r w = absurd w
counted read reads written writes ReadFault r w = absurd w

not_long : {A : Type 0} (written writes : ℕ) (e : RunFault) → IsCause written writes e → e ≡ InputTooLong → A
not_long written writes e w h = absurd (subst (IsCause written writes) h w)

not_read : {A : Type 0} (written writes : ℕ) (e : RunFault) → IsCause written writes e → e ≡ ReadFault → A
not_read written writes e w h = absurd (subst (IsCause written writes) h w)

-- a fault is one
not_both : {A : Type 0} (e : RunFault) → e ≡ OutOfMemory → e ≡ WriteFault → A
not_both e is h = absurd cc

out_of_memory : (writes : ℕ) (e : RunFault) → e ≡ OutOfMemory → IsCause writes writes e
out_of_memory writes e is = subst (IsCause writes writes) (sym is) refl

-- what is read of a number and a line is read of those that are the same
pub read_here : (p : Phase) (k n : ℕ) (xs ys : Text) (rd : Read) → k ≡ n → xs ≡ ys → read_line p k xs ≡ rd → read_line p n ys ≡ rd
read_here p k n xs ys rd e f is = subst (λ (m : ℕ). read_line p m ys ≡ rd) e (subst (λ (t : Text). read_line p k t ≡ rd) f is)

module _ (asked : Asked) (had old now : Option Text) (p : Phase) (l m : Lines) (before has : Option Text) (go : HasCome asked had old p l before now) where
  -- A line was taken.
  module _ (line : Line) (took : TookLine l before line m has) (end : OverAtEnd m has) where
    it : TookIt (left l before) (left m has) (is_over m) (place_of l) line
    it = taken l m before has line took

    pub went_on : (new : Option Text) (q : Phase) → DidStep asked p (number_of l) line.bytes now new q None → HasCome asked had old q m has new
    went_on new q did = stepped asked had (left l before) (left m has) old now new (is_over l) (is_over m) p q (number_of l) (number_of m) (place_of l) (place_of m) line took.before it did took.numbered took.placed go

    pub line_over : (new : Option Text) (q : Phase) (status : Status) (read reads written writes : ℕ) → DidStep asked p (number_of l) line.bytes now new q (Some status) → reads ≡ read → writes ≡ written
        → RanToEnd asked had has old new read reads written writes status
    line_over new q status read reads written writes did r w = record {
      output = over_at asked had (left l before) (left m has) old now new (is_over l) (is_over m) p q (number_of l) (place_of l) line status took.before it end did go;
      lines = line_ended asked had (left l before) has old now new (ahead m) (is_over l) (is_over m) p q (number_of l) (place_of l) line status took.before it (ahead_few m) end did go;
      unread = r;
      unwritten = w;
    }

    pub line_fails : (new : Option Text) (e : RunFault) (read reads written writes : ℕ) → DidSome asked p (number_of l) line.bytes now new → (e ≡ WriteFault → DidPart asked p (number_of l) line.bytes now new)
        → (e ≡ OutOfMemory → WroteSuch (WrittenOfLine asked p (number_of l) line.bytes) now new) → reads ≡ read → IsCause written writes e → RanToFault asked had has old new read reads written writes e
    line_fails new e read reads written writes did part wants r w = record {
      some = fault_in asked had (left l before) has old now new (ahead m) (is_over l) (is_over m) p (number_of l) (place_of l) line took.before it end did go;
      counts = counted read reads written writes e r w;
      long = not_long written writes e w;
      memory = λ h. line_ran_out asked had (left l before) has old now new (ahead m) (is_over l) (is_over m) p (number_of l) (place_of l) line took.before it (ahead_few m) end (wants h) go;
      complete = not_read written writes e w;
      full = λ h. line_unwritten asked had (left l before) has old now new (ahead m) (is_over l) (is_over m) p (number_of l) (place_of l) line took.before it (ahead_few m) end (part h) go;
      begun = begun_in asked had (left l before) (left m has) old now new (is_over l) (is_over m) p (number_of l) (place_of l) line took.before it end did go;
    }

    -- It is a line of the plan or the journal.
    pub line_out : IsReading p → (e : RunFault) → e ≡ OutOfMemory → WroteSuch (WrittenOfLine asked p (number_of l) line.bytes) now now → (read reads writes : ℕ) → reads ≡ read → RanToFault asked had has old now read reads writes writes e
    line_out h e is wrote read reads writes r = line_fails now e read reads writes writes (none_read asked p (number_of l) line.bytes now h) (not_both e is) (λ _. wrote) r (out_of_memory writes e is)

    pub line_read : IsReading p → (rd : Read) → read_line p (number_of l) line.bytes ≡ rd → IsReadAs asked had old m has now rd
    line_read h (Good q) e = went_on now q ([], (subst (λ (r : Read). IsStep asked true p (number_of l) line.bytes [] (after_read r)) e (read_step asked p (number_of l) line.bytes h), Appends-nil now))
    line_read h (Bad k r) e =
        let is : IsStep asked true p (number_of l) line.bytes [] (Over (bad_line k r) BadInput) = subst (λ (x : Read). IsStep asked true p (number_of l) line.bytes [] (after_read x)) e (read_step asked p (number_of l) line.bytes h) in record {
          output = λ new w. over_at asked had (left l before) (left m has) old now new (is_over l) (is_over m) p p (number_of l) (place_of l) line BadInput took.before it end ([], (bad_line k r, (is, w))) go;
          lines = λ new w. line_ended asked had (left l before) has old now new (ahead m) (is_over l) (is_over m) p p (number_of l) (place_of l) line BadInput took.before it (ahead_few m) end ([], (bad_line k r, (is, w))) go;
          some = λ new w. fault_in asked had (left l before) has old now new (ahead m) (is_over l) (is_over m) p (number_of l) (place_of l) line took.before it end ([], (Over (bad_line k r) BadInput, (is, w))) go;
          full = λ new w. line_unwritten asked had (left l before) has old now new (ahead m) (is_over l) (is_over m) p (number_of l) (place_of l) line took.before it (ahead_few m) end ([], (Over (bad_line k r) BadInput, (is, w))) go;
          begun = λ new w. begun_in asked had (left l before) (left m has) old now new (is_over l) (is_over m) p (number_of l) (place_of l) line took.before it end ([], (Over (bad_line k r) BadInput, (is, w))) go;
        }

  -- The input ended.
  module _ (took : TookNone l before m has) (end : OverAtEnd m has) where
    gone : IsAtEnd has
    gone = reader_ended has (ahead m) (end took.over)

    pub end_over : (new : Option Text) (status : Status) (text : Text) (read reads written writes : ℕ) → at_end asked p (number_of l) ≡ Over text status → Appends now new text → reads ≡ read → writes ≡ written
        → RanToEnd asked had has old new read reads written writes status
    end_over new status text read reads written writes e a r w = record {
      output = ended asked had (left l before) old now new (is_over l) p (number_of l) (place_of l) status took.at_end (text, (e, a)) go;
      lines = input_ended asked had (left l before) has old now new (ahead m) (is_over l) p (number_of l) (place_of l) status took.kept took.at_end gone (text, (e, a)) go;
      unread = r;
      unwritten = w;
    }

    pub end_fails : (new : Option Text) (e : RunFault) (read reads written writes : ℕ) → (some : AppendsSome now new (last_text (at_end asked p (number_of l)))) → (e ≡ WriteFault → some.begins.0 ≢ [])
        → (e ≡ OutOfMemory → WroteSuch (WrittenOfEnd asked p) now new) → reads ≡ read → IsCause written writes e → RanToFault asked had has old new read reads written writes e
    end_fails new e read reads written writes some part wants r w = record {
      some = fault_ending asked had (left l before) has old now new (ahead m) (is_over l) p (number_of l) (place_of l) took.kept took.at_end some go;
      counts = counted read reads written writes e r w;
      long = not_long written writes e w;
      memory = λ h. end_ran_out asked had (left l before) has old now new (ahead m) (is_over l) p (number_of l) (place_of l) took.kept took.at_end gone (wants h) go;
      complete = not_read written writes e w;
      full = λ h. end_unwritten asked had (left l before) has old now new (ahead m) (is_over l) p (number_of l) (place_of l) took.kept took.at_end gone (some, part h) go;
      begun = begun_ending asked had (left l before) old now new (is_over l) p (number_of l) (place_of l) took.at_end some go;
    }

    pub end_out : (e : RunFault) → e ≡ OutOfMemory → WroteSuch (WrittenOfEnd asked p) now now → (read reads writes : ℕ) → reads ≡ read → RanToFault asked had has old now read reads writes writes e
    end_out e is wrote read reads writes r = end_fails now e read reads writes writes (some_nothing now (last_text (at_end asked p (number_of l)))) (not_both e is) (λ _. wrote) r (out_of_memory writes e is)

    pub end_refused : (k : ℕ) (r : Refusal) → at_end asked p (number_of l) ≡ after_read (Bad k r) → IsRefused asked had has old now k r
    end_refused k r e = record {
      output = λ new w. ended asked had (left l before) old now new (is_over l) p (number_of l) (place_of l) BadInput took.at_end (bad_line k r, (e, w)) go;
      lines = λ new w. input_ended asked had (left l before) has old now new (ahead m) (is_over l) p (number_of l) (place_of l) BadInput took.kept took.at_end gone (bad_line k r, (e, w)) go;
      some = λ new w. fault_ending asked had (left l before) has old now new (ahead m) (is_over l) p (number_of l) (place_of l) took.kept took.at_end (subst (λ x. AppendsSome now new (last_text x)) (sym e) w) go;
      full = λ new w. end_unwritten asked had (left l before) has old now new (ahead m) (is_over l) p (number_of l) (place_of l) took.kept took.at_end gone (subst (λ x. AppendsPart now new (last_text x)) (sym e) w) go;
      begun = λ new w. begun_ending asked had (left l before) old now new (is_over l) p (number_of l) (place_of l) took.at_end (subst (λ x. AppendsSome now new (last_text x)) (sym e) w) go;
    }

  -- No line was taken.
  module _ (kept : Keeps (left l before) (left m has)) (end : OverAtEnd l before) where
    pub long_ahead : (read reads writes : ℕ) → LongNext (left l before) (place_of l) → is_over l ≡ false → reads ≡ read → RanToFault asked had has old now read reads writes writes InputTooLong
    long_ahead read reads writes next first r = record {
      some = fault_before asked had (left l before) has old now (ahead m) (is_over l) p (number_of l) (place_of l) kept end go;
      counts = (r, refl);
      long = λ _. too_long asked had (left l before) old now (is_over l) p (number_of l) (place_of l) next first go;
      memory = λ e. absurd cc;
      complete = λ e. absurd cc;
      full = λ e. absurd cc;
      begun = begun_before asked had (left l before) old now (is_over l) p (number_of l) (place_of l) end go;
    }

    pub failed_ahead : (read reads writes : ℕ) → HasNoEnd (ahead m) → reads ≡ one_more read → RanToFault asked had has old now read reads writes writes ReadFault
    failed_ahead read reads writes short r = record {
      some = fault_before asked had (left l before) has old now (ahead m) (is_over l) p (number_of l) (place_of l) kept end go;
      counts = (r, refl);
      long = λ e. absurd cc;
      memory = λ e. absurd cc;
      complete = λ _. reader_failed asked had (left l before) has old now (ahead m) (is_over l) p (number_of l) (place_of l) kept end short go;
      full = λ e. absurd cc;
      begun = begun_before asked had (left l before) old now (is_over l) p (number_of l) (place_of l) end go;
    }

-- the line for what is refused was written, or a call of the writer failed
pub refused_ran : {W : Type 0} (contents : W → Option Text) (asked : Asked) (had has old : Option Text) (writer writers : Counted W) (k : ℕ) (q : Refusal) (read reads : ℕ) (result : Result Status RunFault)
    → IsRefused asked had has old (contents writer.inner) k q → reads ≡ read → IfOk result (λ status. status ≡ BadInput) → IfErr result (λ e. e ≡ WriteFault) → Prints contents writer writers result (bad_line k q)
    → Ran asked had has old (contents writers.inner) read reads writer.failed writers.failed result
refused_ran contents asked had has old writer writers k q read reads (Ok status) is r ok err p = subst (RanToEnd asked had has old (contents writers.inner) read reads writer.failed writers.failed) (sym ok) (record {
  output = is.output (contents writers.inner) p.appended;
  lines = is.lines (contents writers.inner) p.appended;
  unread = r;
  unwritten = p.unfailed;
})
refused_ran contents asked had has old writer writers k q read reads (Err e) is r ok err p = record {
  some = is.some (contents writers.inner) p.begun;
  counts = counted read reads writer.failed writers.failed e r p.cause;
  long = not_long writer.failed writers.failed e p.cause;
  memory = λ h. let same : WriteFault ≡ OutOfMemory = sym err ∙ h in absurd cc;
  complete = not_read writer.failed writers.failed e p.cause;
  full = λ h. is.full (contents writers.inner) (p.begun, subst (λ f. Leaves (reason_of f) p.begun.begins.0) h p.left);
  begun = is.begun (contents writers.inner) p.begun;
}

-- the end of the commands was printed, or a beginning of it
pub commands_ended : {W : Type 0} (contents : W → Option Text) (asked : Asked) (had old : Option Text) (s : State) (refused : Bool) (l m : Lines) (before has : Option Text) (writer writers : Counted W) (result : Result Status RunFault)
    → HasCome asked had old (Commands s refused) l before (contents writer.inner) → TookNone l before m has → OverAtEnd m has → (read reads written : ℕ) → reads ≡ read → writer.failed ≡ written
    → IfOk result (λ status. status ≡ status_of refused) → Prints contents writer writers result (end_text asked s) → Ran asked had has old (contents writers.inner) read reads written writers.failed result
commands_ended contents asked had old s refused l m before has writer writers (Ok status) go took end read reads written r w ok p =
    end_over asked had old (contents writer.inner) (Commands s refused) l m before has go took end (contents writers.inner) status (end_text asked s) read reads written writers.failed (ap (Over (end_text asked s)) (sym ok)) p.appended r (p.unfailed ∙ w)
commands_ended contents asked had old s refused l m before has writer writers (Err e) go took end read reads written r w ok p =
    end_fails asked had old (contents writer.inner) (Commands s refused) l m before has go took end (contents writers.inner) e read reads written writers.failed p.begun (λ h. subst (λ f. Leaves (reason_of f) p.begun.begins.0) h p.left) (λ h. (p.begun.done, ((p.begun.begins.0, (p.begun.begins.1, subst (λ f. Leaves (reason_of f) p.begun.begins.0) h p.left)), p.begun.appended))) r
    (subst (λ (k : ℕ). IsCause k writers.failed e) w p.cause)

-- a run has come to its first line
pub at_first : (asked : Asked) (had old : Option Text) (lines : Lines) → ahead lines ≡ [] → number_of lines ≡ 1 → place_of lines ≡ 0 → HasCome asked had old Header lines had old
at_first asked had old lines a n k = begins asked had (left lines had) old (is_over lines) Header (number_of lines) (place_of lines) (left_at_first lines had a) refl n k
