use Rattle.std.proofs.Common.{◌≡◌, take, ◌++◌}
use Rattle.balise_codec.specs.Spelling.{laid}
use Rattle.balise_codec.proofs.spell.write_values.Given as goal

abbrev pub invariant-loop-i : goal.invariant-loop-i
invariant-loop-i l = l.bits ≡ l.fn.bits ++ laid (take l.i l.values)
