use Rattle.balise_lines.specs.Writing.{LastFailed}
use Rattle.balise_lines.proofs.PartsWritten.{wrote_none, wrote_more, wrote_some}
use Rattle.balise_text.proofs.Lists.{text_left}
use Rattle.balise_fields.specs.ExplainedTexts.{field_text}
use Rattle.balise_fields.proofs.explained_text.put_fields.Goals as goal

pub loop-field-init : goal.loop-field-init
loop-field-init g c = wrote_none _ _ _

pub loop-field-preserved : goal.loop-field-preserved
loop-field-preserved g c = wrote_more _ _ _ _ _ _ _ _ (text_left field_text c.args.fields.now c.loop-field.field-index _ c.loop-field-test.true) c.loop-field.invariant c.in_default.ensures

pub returns-in-Err : goal.returns-in-Err
returns-in-Err g c = wrote_some LastFailed _ _ _ _ _ _ _ _ (text_left field_text c.args.fields.now c.loop-field.field-index _ c.loop-field-test.true) c.loop-field.invariant c.in-Err.ensures
