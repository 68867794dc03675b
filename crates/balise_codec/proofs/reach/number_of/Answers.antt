-- The first eight bits are those of the part.
use Rattle.std.proofs.Common.{◌∙◌, ◌-◌, ap, sym, drop}
use Rattle.std.proofs.lemmas.List.{take-take}
use Rattle.balise_rules.specs.Bits.{num}
use Rattle.balise_codec.proofs.reach.number_of.Goals as goal

pub returns : goal.returns
returns c = λ h. c.number.ensures ∙ ap num (sym (take-take 8 (c.args.end - c.args.at) (drop c.args.at c.args.bits.now) h))
