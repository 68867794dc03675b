use Rattle.std.proofs.Common.{◌∙◌, ap, inl, refl}
use Rattle.balise_c.specs.FieldsOutcome.{IsPrintedBy, WroteBy}
use Rattle.balise_c.proofs.FieldTexts.{cut_by, printed_by, ran_over}
use Rattle.balise_c.proofs.HandingOver.{filled, unfilled}
use Rattle.balise_c.proofs.fields.fill_with_fields.Goals as goal

pub returns-in_default : goal.returns-in_default
returns-in_default c = unfilled (IsPrintedBy c.args.way c.args.input.now) c.args.output.now (inl refl)

pub returns : goal.returns
returns c =
    let text = c.bytes.result.now in
    let ended = c.run-ended.result in
    let wrote : WroteBy c.args.way c.args.input.now text ended =
    ran_over c.args.way c.args.input.now text c.new-reader.result.inner.now c.run-ended.new.reader.inner.now c.new-writer.result.inner.bytes.items c.run-ended.new.writer.inner.bytes.items
    c.new-reader.result.failed c.run-ended.new.reader.failed c.new-writer.result.failed c.run-ended.new.writer.failed ended (cc) (ap (λ t. t.bytes.items) c.new-writer.ensures.inner ∙ c.in-Ok.ensures) (cc) (cc) (cc) c.run-ended.ensures in
    filled ended c.hand_over.result text c.args.output.now c.hand_over.new.output c.hand_over.new.written c.hand_over.ensures (WroteBy c.args.way c.args.input.now) (IsPrintedBy c.args.way c.args.input.now)
    (printed_by c.args.way c.args.input.now text ended) (cut_by c.args.way c.args.input.now text ended) wrote
