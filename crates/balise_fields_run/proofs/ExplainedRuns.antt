-- What a run from digits to fields keeps from line to line, and how it ends.
use Rattle.std.proofs.Common.{◌≡◌, ◌∙◌, ◌||◌, ◌+◌, ℕ, Bool, true, false, List, [], ◌∷◌, ◌++◌, length, Option, refl, ap, sym, subst, arith, append_assoc, append-nil, length-append}
use Rattle.std.specs.Io.KnownBytes.{Appends}
use Rattle.std.proofs.KnownBytes.{Appends-nil}
use Rattle.balise_lines.specs.Laws.{joined}
use Rattle.balise_lines.specs.Lines.{Fits, Line, whole}
use Rattle.balise_lines.specs.Reading.{OverAtEnd, TookLine, TookNone}
use Rattle.balise_lines.specs.declared.counted.Counted.{Counted}
use Rattle.balise_lines.specs.declared.lines.Lines.{Lines}
use Rattle.balise_text.specs.Texts.{Text}
use Rattle.balise_text.specs.declared.run_fault.RunFault.{RunFault}
use Rattle.balise_text.specs.declared.run_fault.RunFault.TheVariants.{InputTooLong, OutOfMemory, ReadFault, WriteFault}
use Rattle.balise_fields.specs.declared.explained.Explained.{Explained}
use Rattle.balise_fields.specs.Explaining.{IsExplained, is_refused}
use Rattle.balise_fields.specs.ExplainedTexts.{explained_text}
use Rattle.balise_fields_run.specs.declared.status.Status.{Status}
use Rattle.balise_fields_run.specs.Explained.{AreExplained, AtEnd, FailsToWrite, RunsOutOfMemory}
use Rattle.balise_fields_run.specs.Runs.{DidLines, RanToFault}
use Rattle.balise_fields_run.specs.Statuses.{status_of}
use Rattle.balise_fields_run.specs.Steps.{LineFails}
use Rattle.balise_fields_run.proofs.RunEnds.{unwritten, without_memory}
use Rattle.balise_fields_run.proofs.RunSteps.{HasCome, at_end, here, one_more, stopped}

or_later : (a b c : Bool) → (a || b) || c ≡ (a || (b || c))
or_later true b c = refl
or_later false b c = refl

or_none : (a b : Bool) → a ≡ false → (a || b) ≡ (b || false)
or_none a true e = rw e refl
or_none a false e = rw e refl

-- one more line
one_more_line : (place : ℕ) (lines : List Line) (line : Line) (out : Text) (refused : Bool) (x : Explained) → AreExplained place lines out refused → Fits (place + length (joined lines)) line → IsExplained line.bytes x
    → AreExplained place (lines ++ line ∷ []) (out ++ explained_text x) (refused || is_refused x)
one_more_line place [] line out refused x s fits is =
    let at : place + length (joined []) ≡ place = omega arith in (
      subst (λ (k : ℕ). Fits k line) at fits,
      (x, ([], (false, (is, ap (λ (t : Text). t ++ explained_text x) s.0 ∙ sym (append-nil (explained_text x)), or_none refused (is_refused x) s.1, (refl, refl))))),
    )
one_more_line place (y ∷ ys) line out refused x (short, (z, (more, (later, (is, e, r, s))))) fits xs =
    let room : Fits ((place + length (whole y)) + length (joined ys)) line = subst (λ (k : ℕ). Fits k line) (omega (arith, length-append (whole y) (joined ys))) fits in (
      short,
      (
        z,
        (
          more ++ explained_text x,
          (
            later || is_refused x,
            (
              is,
              ap (λ (t : Text). t ++ explained_text x) e ∙ append_assoc (explained_text z) more (explained_text x),
              ap (λ (b : Bool). b || is_refused x) r ∙ or_later (is_refused z) later (is_refused x),
              one_more_line (place + length (whole y)) ys line more later x s room xs,
            ),
          ),
        ),
      ),
    )

-- a run has come so far, before the next line
abbrev pub IsExplainedSoFar : Option Text → Option Text → Lines → Option Text → Option Text → Bool → Type 0
IsExplainedSoFar had old lines has now refused = HasCome (AreExplained 0) had old lines has now refused

module _ (had old now : Option Text) (l m : Lines) (before has : Option Text) (refused : Bool) (go : IsExplainedSoFar had old l before now refused) where
  pub went_on : (line : Line) → TookLine l before line m has → (new : Option Text) (x : Explained) → IsExplained line.bytes x → Appends now new (explained_text x) → IsExplainedSoFar had old m has new (refused || is_refused x)
  went_on line took new x is wrote =
      one_more (AreExplained 0) had old now l m before has refused go line took new (explained_text x) (is_refused x)
      (one_more_line 0 go.lines line go.written refused x go.comes (here (AreExplained 0) had old now l m before has refused go line took) is) wrote

  pub ended : TookNone l before m has → OverAtEnd m has → (status : Status) → status ≡ status_of refused → DidLines (AreExplained 0) had has old now (AtEnd has status)
  ended took end status e = at_end (AreExplained 0) had old now l m before has refused go took end now (AtEnd has status) [] (λ none. (none, refl, refl, e)) (Appends-nil now)

-- a line wasn't done
pub line_fails : {W : Type 0} (contents : W → Option Text) (had has old before : Option Text) (l m : Lines) (writer writers : Counted W) (refused : Bool) (read reads written : ℕ) (line : Line) (e : RunFault) → IsExplainedSoFar had old l before (contents writer.inner) refused
    → TookLine l before line m has → OverAtEnd m has → LineFails contents writer writers line.bytes e → reads ≡ read → writer.failed ≡ written → RanToFault (AreExplained 0) RunsOutOfMemory FailsToWrite had has old (contents writers.inner) read reads written writers.failed e
line_fails contents had has old before l m writer writers refused read reads written line OutOfMemory go took end f r w =
    without_memory contents had has old writer writers read reads written r w
    (stopped (AreExplained 0) had old (contents writer.inner) l m before has refused go line took end (contents writer.inner) RunsOutOfMemory [] (λ behind few. (few, refl)) (Appends-nil (contents writer.inner))) f
line_fails contents had has old before l m writer writers refused read reads written line WriteFault go took end (x, is, s) r w =
    unwritten contents had has old writer writers read reads written r w (explained_text x) s
    (stopped (AreExplained 0) had old (contents writer.inner) l m before has refused go line took end (contents writers.inner) FailsToWrite s.begun.done (λ behind few. (few, (x, (is, (s.begun.begins.0, (s.begun.begins.1, s.left)))))) s.begun.appended)
line_fails contents had has old before l m writer writers refused read reads written line InputTooLong go took end f r w = absurd f
line_fails contents had has old before l m writer writers refused read reads written line ReadFault go took end f r w = absurd f
