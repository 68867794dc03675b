-- The walk by the number's kind follows the packet's form.
use Rattle.std.proofs.Common.{◌∙◌, refl}
use Rattle.balise_codec.proofs.MisfitWalk.{walked, first_along}
use Rattle.balise_codec.proofs.misfit.find_misfit.Goals as goal

pub returns-in-Ok : goal.returns-in-Ok
returns-in-Ok c = c.left_over.ensures ∙ walked c.args.version c.number_of.result _ c.args.values.now c.new-speller.result _ c.new-speller.ensures c.number_of.ensures c.of-kind.ensures c.in-Ok.ensures ∙ first_along c.args.version c.args.values.now c.has_no_fields.result c.has_no_fields.ensures c.if-has_no_fields.false

pub returns-in-Err : goal.returns-in-Err
returns-in-Err c = c.into_misfit.ensures ∙ walked c.args.version c.number_of.result _ c.args.values.now c.new-speller.result _ c.new-speller.ensures c.number_of.ensures c.of-kind.ensures (c.in-Err.ensures (λ _. refl)) ∙ first_along c.args.version c.args.values.now c.has_no_fields.result c.has_no_fields.ensures c.if-has_no_fields.false
