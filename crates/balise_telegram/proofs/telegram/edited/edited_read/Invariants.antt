use Rattle.std.proofs.Common.{◌≡◌}
use Rattle.balise_telegram.proofs.KeptTags.{base_tags}
use Rattle.balise_telegram.proofs.telegram.edited.edited_read.Given as goal

abbrev pub invariant-loop-i : goal.invariant-loop-i
invariant-loop-i l = l.tags.items ≡ base_tags 0 l.i
