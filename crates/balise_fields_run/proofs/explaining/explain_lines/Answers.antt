-- A run from digits to fields, line by line.
use Rattle.std.proofs.Common.{◌∙◌, ◌||◌, Bool, refl, sym, subst}
use Rattle.balise_lines.specs.Reading.{line_of}
use Rattle.balise_text.specs.Texts.{Text}
use Rattle.balise_fields_run.specs.Explained.{AreExplained}
use Rattle.balise_fields_run.specs.Steps.{LineDone, LineFails}
use Rattle.balise_text.proofs.LinesTaken.{took_line, took_none}
use Rattle.balise_fields_run.proofs.ExplainedRuns.{IsExplainedSoFar, ended, line_fails, went_on}
use Rattle.balise_fields_run.proofs.RunEnds.{none_ahead}
use Rattle.balise_fields_run.proofs.RunSteps.{at_first}
use Rattle.balise_fields_run.proofs.explaining.explain_lines.Goals as goal

pub lines-init : goal.lines-init
lines-init g c = (refl, refl, λ e. absurd (let f = sym c.new-lines.ensures.over ∙ e in cc), at_first (AreExplained 0) _ _ c.new-lines.result (refl, refl) c.new-lines.ensures.ahead c.new-lines.ensures.place)

pub returns-in-Err : goal.returns-in-Err
returns-in-Err g c =
    none_ahead g.R.Read.remaining (g.R.Read.remaining c.args.reader.now.inner) (g.W.Write.contents c.args.writer.now.inner) (g.W.Write.contents c.lines.writer.inner) c.lines.lines c.next.new.lines c.lines.reader c.next.new.reader c.lines.refused
    c.args.reader.now.failed c.args.writer.now.failed c.lines.writer.failed c.in-Err.fault c.lines.invariant.3 c.in-Err.ensures.fault c.lines.invariant.2 c.lines.invariant.0 c.lines.invariant.1

pub returns-in-Ok-End : goal.returns-in-Ok-End
returns-in-Ok-End g c = record {
  lines = ended _ _ _ _ _ _ _ c.lines.refused c.lines.invariant.3 (took_none _ _ _ _ _ c.in-Ok-End.field-0-is c.in-Ok-End.ensures.took) c.in-Ok-End.ensures.over c.of_refused.result c.of_refused.ensures;
  unread = c.in-Ok-End.ensures.unfailed ∙ c.lines.invariant.0;
  unwritten = c.lines.invariant.1;
}

pub returns-in-Err-explain : goal.returns-in-Err-explain
returns-in-Err-explain g c =
    let contents = g.W.Write.contents in
    let f = subst (λ (t : Text). LineFails contents c.lines.writer c.explain.new.writer t c.in-Err-explain.fault) c.line.ensures c.in-Err-explain.ensures.fault in
    line_fails contents _ _ _ _ _ _ c.lines.writer c.explain.new.writer c.lines.refused _ _ _ _ c.in-Err-explain.fault c.lines.invariant.3 (took_line _ _ _ _ _ _ c.in-Ok-Line.field-0-is c.in-Ok-Line.ensures.took) c.in-Ok-Line.ensures.over f
    (c.in-Ok-Line.ensures.unfailed ∙ c.lines.invariant.0) c.lines.invariant.1

pub lines-preserved : goal.lines-preserved
lines-preserved g c =
    let contents = g.W.Write.contents in
    let old = contents c.args.writer.now.inner in
    let new = contents c.explain.new.writer.inner in
    let d : LineDone contents c.lines.writer c.explain.new.writer (line_of c.next.new.lines) c.in-Ok.is_refused
    = subst (λ (t : Text). LineDone contents c.lines.writer c.explain.new.writer t c.in-Ok.is_refused) c.line.ensures c.in-Ok.ensures.ok in (
      c.in-Ok-Line.ensures.unfailed ∙ c.lines.invariant.0,
      d.3.unfailed ∙ c.lines.invariant.1,
      c.in-Ok-Line.ensures.over,
      subst (λ (b : Bool). IsExplainedSoFar (g.R.Read.remaining c.args.reader.now.inner) old c.next.new.lines (g.R.Read.remaining c.next.new.reader.inner) new (c.lines.refused || b)) (sym d.2)
          (went_on _ _ _ _ _ _ _ c.lines.refused c.lines.invariant.3 _ (took_line _ _ _ _ _ _ c.in-Ok-Line.field-0-is c.in-Ok-Line.ensures.took) new d.0 d.1 d.3.appended),
    )
