use Rattle.std.proofs.Common.{◌∙◌, sym}
use Rattle.balise_fields_run.proofs.TextParts.{ends_none}
use Rattle.balise_fields_run.proofs.item_line.spell_line.Goals as goal

pub returns-in-Ok-grow-clause-ok : goal.returns-in-Ok-grow-clause-ok
returns-in-Ok-grow-clause-ok g c = ends_none g.W.Write.contents c.args.writer.now c.args.number c.args.text.now c.args.current.now c.in-Ok.line c.in-Ok.ensures (sym c.ends_item.ensures ∙ c.if-not-ends_item.true)
