use Rattle.std.proofs.Common.{◌∙◌, ◌/◌, ◌%◌, ℕ, sym, ap, arith}
use Rattle.balise_rules.specs.Packet.{value}
use Rattle.balise_rules.specs.declared.variable.Var.TheVariants.{NPig, NTotal}
use Rattle.balise_telegram.proofs.HeaderBits.{header_is}
use Rattle.balise_telegram.proofs.HeaderWindows.{first_is, second_is}
use Rattle.balise_telegram.proofs.header.Header.place_in.Goals as goal

pub returns-clause-pig : goal.returns-clause-pig
returns-clause-pig c = ap (λ (k : ℕ). k / 8) c.number-both.ensures ∙ first_is 9 3 3 c.args.bits.now (omega (arith, c.requires)) ∙ sym (ap (value NPig 0) (header_is c.args.bits.now c.requires))

pub returns-clause-total : goal.returns-clause-total
returns-clause-total c = ap (λ (k : ℕ). k % 8) c.number-both.ensures ∙ second_is 9 3 3 c.args.bits.now (omega (arith, c.requires)) ∙ sym (ap (value NTotal 0) (header_is c.args.bits.now c.requires))
