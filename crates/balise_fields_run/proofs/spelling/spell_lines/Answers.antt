-- A run from fields to digits, line by line.
use Rattle.std.proofs.Common.{◌≡◌, ◌∙◌, ℕ, refl, sym, subst}
use Rattle.balise_text.specs.Texts.{Text}
use Rattle.balise_fields_run.specs.ItemLines.{closed_bad, closed_text, line_bad, line_text, open_after}
use Rattle.balise_fields_run.specs.ItemSteps.{TextDone, TextFails}
use Rattle.balise_text.proofs.LinesTaken.{took_line, took_none}
use Rattle.balise_fields_run.proofs.ItemRuns.{at_first, end_fails, ended, line_fails, went_on}
use Rattle.balise_fields_run.proofs.RunEnds.{none_ahead}
use Rattle.balise_fields_run.proofs.spelling.spell_lines.Goals as goal

-- what is known of a number and a text is known of what they are
known : (n k : ℕ) (s t : Text) (P : ℕ → Text → Type 0) → n ≡ k → s ≡ t → P n s → P k t
known n k s t P a b x = subst (P k) b (subst (λ (j : ℕ). P j s) a x)

pub lines-init : goal.lines-init
lines-init g c = (refl, refl, λ e. absurd (let f = sym c.new-lines.ensures.over ∙ e in cc), at_first _ _ c.new-lines.result c.new-lines.ensures.ahead c.new-lines.ensures.place c.new-lines.ensures.number)

pub returns-in-Err : goal.returns-in-Err
returns-in-Err g c =
    none_ahead g.R.Read.remaining (g.R.Read.remaining c.args.reader.now.inner) (g.W.Write.contents c.args.writer.now.inner) (g.W.Write.contents c.lines.writer.inner) c.lines.lines c.next.new.lines c.lines.reader c.next.new.reader c.lines.refused
    c.args.reader.now.failed c.args.writer.now.failed c.lines.writer.failed c.in-Err.fault c.lines.invariant.3.run c.in-Err.ensures.fault c.lines.invariant.2 c.lines.invariant.0 c.lines.invariant.1

pub returns-in-Ok : goal.returns-in-Ok
returns-in-Ok g c =
    let contents = g.W.Write.contents in
    let d = subst (λ (n : ℕ). TextDone contents c.lines.writer c.close.new.writer (closed_text n c.lines.current) (closed_bad n c.lines.current) c.in-Ok.is_refused) c.number-number.ensures c.in-Ok.ensures.ok in
    record {
      lines = ended _ _ _ _ _ _ _ c.lines.current c.lines.refused c.lines.invariant.3 (took_none _ _ _ _ _ c.in-Ok-End.field-0-is c.in-Ok-End.ensures.took) c.in-Ok-End.ensures.over
          (contents c.close.new.writer.inner) c.in-Ok.is_refused c.of_refused.result d.1.appended d.0 c.of_refused.ensures;
      unread = c.in-Ok-End.ensures.unfailed ∙ c.lines.invariant.0;
      unwritten = d.1.unfailed ∙ c.lines.invariant.1;
    }

pub returns-in-Err-close : goal.returns-in-Err-close
returns-in-Err-close g c =
    let contents = g.W.Write.contents in
    let f = subst (λ (n : ℕ). TextFails contents c.lines.writer c.close.new.writer (closed_text n c.lines.current) c.in-Err-close.fault) c.number-number.ensures c.in-Err-close.ensures.fault in
    end_fails contents _ _ _ _ _ _ c.lines.writer c.close.new.writer c.lines.current c.lines.refused _ _ _ c.in-Err-close.fault c.lines.invariant.3 c.in-Ok-End.ensures.over (c.in-Ok-End.ensures.unfailed ∙ c.lines.invariant.0) c.lines.invariant.1
    (took_none _ _ _ _ _ c.in-Ok-End.field-0-is c.in-Ok-End.ensures.took) f

pub returns-in-Err-spell_line : goal.returns-in-Err-spell_line
returns-in-Err-spell_line g c =
    let contents = g.W.Write.contents in
    let f = known _ _ _ _ (λ n t. TextFails contents c.lines.writer c.spell_line.new.writer (line_text n t c.lines.current) c.in-Err-spell_line.fault) c.number-number.ensures c.line.ensures c.in-Err-spell_line.ensures.fault in
    line_fails contents _ _ _ _ _ _ c.lines.writer c.spell_line.new.writer c.lines.current c.lines.refused _ _ _ c.in-Err-spell_line.fault c.lines.invariant.3 c.in-Ok-Line.ensures.over (c.in-Ok-Line.ensures.unfailed ∙ c.lines.invariant.0) c.lines.invariant.1
    _ (took_line _ _ _ _ _ _ c.in-Ok-Line.field-0-is c.in-Ok-Line.ensures.took) f

pub lines-preserved : goal.lines-preserved
lines-preserved g c =
    let contents = g.W.Write.contents in
    let bad = c.in-Ok-spell_line.is_refused in
    let item = c.lines.current in
    let d = known _ _ _ _ (λ n t. TextDone contents c.lines.writer c.spell_line.new.writer (line_text n t item) (line_bad n t item) bad) c.number-number.ensures c.line.ensures c.in-Ok-spell_line.ensures.ok in
    let o = known _ _ _ _ (λ n t. c.spell_line.new.current ≡ open_after n t item) c.number-number.ensures c.line.ensures c.in-Ok-spell_line.ensures.item in (
      c.in-Ok-Line.ensures.unfailed ∙ c.lines.invariant.0,
      d.1.unfailed ∙ c.lines.invariant.1,
      c.in-Ok-Line.ensures.over,
      went_on _ _ _ _ _ _ _ item c.lines.refused c.lines.invariant.3 _ (took_line _ _ _ _ _ _ c.in-Ok-Line.field-0-is c.in-Ok-Line.ensures.took)
          (contents c.spell_line.new.writer.inner) c.spell_line.new.current bad d.1.appended o d.0,
    )
