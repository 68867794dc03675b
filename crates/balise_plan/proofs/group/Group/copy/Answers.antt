use Rattle.std.proofs.Common.{◌∷◌, ◌++◌, [], take, ap, sym, ◌∙◌}
use Rattle.std.specs.List.{enumerate_from}
use Rattle.std.proofs.lemmas.List.{take_more}
use Rattle.balise_plan.proofs.items.Tagged.{push-tagged}
use Rattle.balise_plan.proofs.group.Group.copy.Goals as goal

pub loop-telegram-preserved : goal.loop-telegram-preserved
loop-telegram-preserved c =
    let telegrams = c.by_tag-turned.result.0.now in
    let i = c.loop-telegram.telegram-index in
    c.in_ok-push.ensures.ok ∙ sym (push-tagged (take i telegrams) c.in_ok-copy.field-0 c.loop-telegram.copies c.loop-telegram.invariant)
    ∙ ap (λ x. enumerate_from 0 (take i telegrams ++ x ∷ [])) (c.in_ok-copy.ensures.ok ∙ c.telegram-item.is) ∙ ap (enumerate_from 0) (sym (take_more telegrams i c.telegram-item.result c.loop-telegram-test.true))
