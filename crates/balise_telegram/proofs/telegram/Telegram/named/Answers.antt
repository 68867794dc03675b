use Rattle.balise_rules.specs.Telegram.{read_telegram}
use Rattle.balise_telegram.specs.Packed.{telegram_of}
use Rattle.balise_telegram.proofs.PackedPlaces.{held_read}
use Rattle.balise_telegram.proofs.Seen.{read_one}
use Rattle.balise_telegram.proofs.telegram.Telegram.named.Goals as goal

pub invariant_of-telegram : goal.invariant_of-telegram
invariant_of-telegram c = let b = c.args.bits in read_one b (telegram_of (read_telegram b)) (held_read b c.in_ok-names.ensures.ok)

pub returns-clause-ok : goal.returns-clause-ok
returns-clause-ok c = c.in_ok-names.ensures.ok

pub returns-clause-names : goal.returns-clause-names
returns-clause-names c = c.in_ok-names.ensures.names (telegram_of (read_telegram c.args.bits)) c.in_ok-names.ensures.ok
