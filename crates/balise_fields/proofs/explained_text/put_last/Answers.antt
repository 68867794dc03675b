use Rattle.std.proofs.Common.{◌∙◌, codes, length, sym}
use Rattle.std.proofs.lemmas.Bool.{eqb-false}
use Rattle.balise_lines.specs.Writing.{LastFailed}
use Rattle.balise_fields.specs.ExplainedTexts.{fields_text, last_text}
use Rattle.balise_fields.proofs.Sequences.{behind, last_parts, some_front_of}
use Rattle.balise_fields.proofs.explained_text.put_last.Goals as goal

pub returns-in-Err : goal.returns-in-Err
returns-in-Err g c =
    let fs = c.args.fields.now in
    some_front_of LastFailed _ (last_text fs) (codes "packet\n") (fields_text fs) _ _ (last_parts fs (eqb-false (length fs) 0 (sym c.is_empty.ensures ∙ c.if-is_empty.false))) c.in-Err.ensures

pub returns : goal.returns
returns g c =
    let fs = c.args.fields.now in
    behind (λ _. LastFailed) _ c.put_fields.result (last_text fs) (codes "packet\n") (fields_text fs) _ _ _ (last_parts fs (eqb-false (length fs) 0 (sym c.is_empty.ensures ∙ c.if-is_empty.false))) c.in_default.ensures c.put_fields.ensures
