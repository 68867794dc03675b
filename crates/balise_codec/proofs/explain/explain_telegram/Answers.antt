-- Length and header are looked at first, as the definition does.
use Rattle.std.proofs.Common.{◌∙◌, ap, sym}
use Rattle.balise_rules.specs.Telegram.{is_balise}
use Rattle.balise_telegram.proofs.TelegramsRead.{bad_length, no_balise}
use Rattle.balise_codec.proofs.explain.explain_telegram.Goals as goal

pub returns-then-len-clause-fault : goal.returns-then-len-clause-fault
returns-then-len-clause-fault c = λ _. bad_length c.args.bits.now c.len.result c.len-2.result c.len.ensures c.len-2.ensures c.if-len.true

pub returns-then-not-is_balise-clause-fault : goal.returns-then-not-is_balise-clause-fault
returns-then-not-is_balise-clause-fault c = λ _. no_balise c.args.bits.now c.len.result c.len-2.result c.len.ensures c.len-2.ensures c.if-len.false (ap is_balise (sym c.read-header.ensures) ∙ sym c.is_balise.ensures ∙ c.if-not-is_balise.true)
