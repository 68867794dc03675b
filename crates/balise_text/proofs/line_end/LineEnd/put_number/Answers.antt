use Rattle.std.proofs.Common.{◌≤◌, ◌<◌, ◌^◌, ℕ, arith, decimal, length}
use Rattle.std.proofs.lemmas.Fmt.{length-decimal-le}
use Rattle.balise_text.proofs.line_end.LineEnd.put_number.Goals as goal

few_digits : (n : ℕ) → n < 2 ^ 64 → length (decimal n) ≤ 20
few_digits n h = length-decimal-le 20 n (omega arith) (omega (arith, h)) h

pub write_digits-self-requires : goal.write_digits-self-requires
write_digits-self-requires c = let few = few_digits c.args.number (omega (arith, c.ranges.number.fits)) in (omega (arith, few, c.if-self-lt-MOST_DIGITS.false), omega arith)

pub returns-clause-left : goal.returns-clause-left
returns-clause-left c = let few = few_digits c.args.number (omega (arith, c.ranges.number.fits)) in omega (arith, few, c.write_digits-self.ensures.start)
