use Rattle.std.proofs.Common.{arith}
use Rattle.balise_text.proofs.UpTo.{last_part, part_before}
use Rattle.balise_text.proofs.words.Words.after.Goals as goal

pub returns-then-len-self : goal.returns-then-len-self
returns-then-len-self c = last_part c.args.self.mark c.args.self.text.now c.args.len c.requires.part (omega (arith, c.if-len-self.true))

pub returns : goal.returns
returns c = part_before c.args.self.mark c.args.self.text.now c.args.len c.requires.part (omega (arith, c.if-len-self.false))
