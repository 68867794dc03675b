use Rattle.std.proofs.Common.{sym, ap, arith}
use Rattle.balise_rules.specs.Telegram.{is_balise}
use Rattle.balise_telegram.proofs.HeaderBits.{header_is}
use Rattle.balise_telegram.proofs.HeaderWindows.{first_is, second_is}
use Rattle.balise_telegram.proofs.header.Header.is_balise_in.Goals as goal

pub returns : goal.returns
returns c = rw (c.number-first.ensures, first_is 0 1 8 c.args.bits.now (omega (arith, c.requires)), second_is 0 8 1 c.args.bits.now (omega (arith, c.requires))) (sym (ap is_balise (header_is c.args.bits.now c.requires)))
