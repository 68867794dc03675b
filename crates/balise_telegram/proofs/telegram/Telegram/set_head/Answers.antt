-- The refusals in their order.
use Rattle.std.proofs.Common.{◌∙◌, refl, sym, inl}
use Rattle.balise_rules.specs.Packet.{with_value}
use Rattle.balise_telegram.proofs.HeaderSet.{fit, refused_steering, refused_wide, header_set}
use Rattle.balise_telegram.proofs.telegram.Telegram.set_head.Goals as goal

pub returns-then-not-is_free : goal.returns-then-not-is_free
returns-then-not-is_free c = (refused_steering c.args.var c.args.value c.in-Some.old c.args.self.now.head (sym c.in-Some.ensures) (sym c.is_free.ensures ∙ c.if-not-is_free.true), refl)

pub returns-then-value-width-ne0 : goal.returns-then-value-width-ne0
returns-then-value-width-ne0 c = (refused_wide c.args.var c.args.value c.width.result c.in-Some.old c.args.self.now.head (sym c.in-Some.ensures) (sym c.is_free.ensures ∙ c.if-not-is_free.false) c.width.ensures.width c.if-value-width-ne0.true, refl)

pub put_in_head-requires-clause-var : goal.put_in_head-requires-clause-var
put_in_head-requires-clause-var c = inl (sym c.is_free.ensures ∙ c.if-not-is_free.false)

pub put_in_head-requires-clause-fits : goal.put_in_head-requires-clause-fits
put_in_head-requires-clause-fits c = fit c.args.var c.args.value c.width.result c.width.ensures.width c.if-value-width-ne0.false

pub returns : goal.returns
returns c =
    let head = c.args.self.now.head in
    let h = header_set c.args.var c.args.value c.width.result c.in-Some.old head (with_value c.args.var 0 c.args.value head) (sym c.in-Some.ensures) (sym c.is_free.ensures ∙ c.if-not-is_free.false) c.width.ensures.width c.if-value-width-ne0.false refl in
    (h.0, h.1, c.put_in_head.ensures)
