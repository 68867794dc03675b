use Rattle.std.proofs.Common.{◌≡◌, take}
use Rattle.balise_edits.proofs.copying.copy_telegrams.Given as goal

abbrev pub invariant-loop-telegram : goal.invariant-loop-telegram
invariant-loop-telegram l = l.copies.items ≡ take l.telegram-index l.telegrams.items
