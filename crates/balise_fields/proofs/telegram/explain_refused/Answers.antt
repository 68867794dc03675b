use Rattle.std.proofs.Common.{◌≡◌, ◌∙◌, true, sym, ap}
use Rattle.balise_rules.specs.declared.variable.Var.TheVariants.{MVersion}
use Rattle.balise_rules.specs.Packet.{value}
use Rattle.balise_rules.specs.Telegram.{is_balise, read_header}
use Rattle.balise_codec.proofs.HeadsRead.{on_ok}
use Rattle.balise_fields.specs.Explaining.{IsBegun, IsTelegramBegun}
use Rattle.balise_fields.proofs.FieldsFound.{balise_numbers, begun_of}
use Rattle.balise_fields.proofs.telegram.explain_refused.Goals as goal

pub returns : goal.returns
returns c =
    let b = c.args.bits.now in
    let h = c.read-numbers.result in
    let i : is_balise (read_header b) ≡ true = ap is_balise (sym c.read-numbers.ensures) ∙ balise_numbers h.q_updown h.q_media c.if-numbers-ne1.false c.if-numbers-ne0.false in
    let v : h.m_version ≡ value MVersion 0 (read_header b) = ap (value MVersion 0) c.read-numbers.ensures in
    on_ok _ (IsBegun (IsTelegramBegun b)) c.explain_stop.result (λ x p. begun_of b h.m_version x v i p) c.explain_stop.ensures
