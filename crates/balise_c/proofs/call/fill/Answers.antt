use Rattle.std.proofs.Common.{◌≡◌, inl, refl, subst, sym}
use Rattle.balise_text.specs.Texts.{Text}
use Rattle.balise_c.specs.Outcome.{IsPrinted, Ran}
use Rattle.balise_c.proofs.HandingOver.{filled, unfilled}
use Rattle.balise_c.proofs.Texts.{cut, nothing, printed}
use Rattle.balise_c.proofs.call.fill.Goals as goal

pub returns-in_default : goal.returns-in_default
returns-in_default c = unfilled (IsPrinted c.args.asked c.args.input.now) c.args.output.now (nothing c.args.asked c.args.input.now, inl refl)

pub returns : goal.returns
returns c =
    let asked = c.args.asked in
    let input = c.args.input.now in
    let text = c.bytes.result.now in
    let ended = c.run_into-ended.result in
    let same : text ≡ c.run_into-ended.new.writer.inner.bytes.items = cc in
    let wrote : Ran asked input text ended = subst (λ (t : Text). Ran asked input t ended) (sym same) c.run_into-ended.ensures in
    filled ended c.hand_over.result text c.args.output.now c.hand_over.new.output c.hand_over.new.written c.hand_over.ensures (Ran asked input) (IsPrinted asked input) (printed asked input text ended) (cut asked input text ended) wrote
