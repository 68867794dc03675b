use Rattle.std.proofs.Common.{◌≡◌}
use Rattle.balise_edits.specs.Anchors.{new_anchor}
use Rattle.balise_history.proofs.Hanging.{hung_in}
use Rattle.balise_history.proofs.Mapping.{changed_up_to}
use Rattle.balise_history.proofs.history.re_anchor_all.Given as goal

abbrev pub invariant-loop-later : goal.invariant-loop-later
invariant-loop-later l = l.entries ≡ changed_up_to (hung_in (new_anchor l.on l.entry.0) l.serials) l.later-index l.initial.entries
