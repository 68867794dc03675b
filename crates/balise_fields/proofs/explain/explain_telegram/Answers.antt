use Rattle.std.proofs.Common.{◌∙◌, ap, inl, sym}
use Rattle.balise_rules.specs.Digits.{read_hex}
use Rattle.balise_codec.proofs.HeadsRead.{on_ok}
use Rattle.balise_fields.specs.Explaining.{IsBits, IsTelegram}
use Rattle.balise_fields.proofs.explain.explain_telegram.Goals as goal

pub returns-in-Ok : goal.returns-in-Ok
returns-in-Ok c =
    let e = ap (λ n. read_hex n c.args.text.now) (sym c.bits_due-due.ensures) ∙ c.in-Ok.ensures.ok in
    on_ok (IsBits c.in-Ok.bits) (IsTelegram c.args.text.now) c.explain_bits.result (λ x p. inl (c.in-Ok.bits, e, p)) c.explain_bits.ensures
