use Rattle.std.proofs.Common.{◌≡◌, ◌+◌, length, take}
use Rattle.balise_rules.specs.Forms.{spelling}
use Rattle.balise_layout.specs.Collected.{all_keyed}
use Rattle.balise_codec.specs.Places.{placed}
use Rattle.balise_codec.proofs.placed.place_all.Given as goal

abbrev pub invariant-loop-i : goal.invariant-loop-i
invariant-loop-i l = (l.placed.items ≡ placed l.fn.at (all_keyed (take l.i l.fields))) × (l.next ≡ l.fn.at + length (spelling (all_keyed (take l.i l.fields))))
