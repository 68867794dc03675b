use Rattle.std.proofs.Common.{◌≡◌, ◌++◌, None, take}
use Rattle.balise_rules.specs.Forms.{spelling}
use Rattle.balise_layout.specs.Collected.{all_keyed}
use Rattle.balise_codec.specs.Telegrams.{too_wide}
use Rattle.balise_codec.proofs.telegram.write_fields.Given as goal

abbrev pub invariant-loop-i : goal.invariant-loop-i
invariant-loop-i l = (l.bits ≡ l.fn.bits ++ spelling (all_keyed (take l.i l.fields))) × (too_wide (all_keyed (take l.i l.fields)) ≡ None)
