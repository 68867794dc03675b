-- Entry by entry, those of the serials get the anchor.
use Rattle.std.proofs.Common.{◌≡◌, ◌<◌, ◌∙◌, get_or, length, refl, arith}
use Rattle.balise_rules.specs.Paths.{Entry}
use Rattle.balise_edits.specs.Anchors.{new_anchor}
use Rattle.balise_history.specs.Lists.{is_among}
use Rattle.balise_history.proofs.Hanging.{hung_in}
use Rattle.balise_history.proofs.Mapping.{one-more, all-changed}
use Rattle.balise_history.proofs.history.re_anchor_all.Goals as goal
use Rattle.balise_history.proofs.history.re_anchor_all.Goals.{then-is_among, else-is_among}

pub loop-later-preserved : goal.loop-later-preserved
loop-later-preserved c =
    let anchor = new_anchor c.args.on c.args.entry.now.0 in
    let place = c.loop-later.later-index in
    let entry : Entry = get_or c.loop-later.entries place c.later-item.result in
    let within : place < length c.args.entries.now = omega arith in
    let among : c.is_among.result ≡ is_among entry.0.0 c.args.serials.now = rw c.serial.ensures at c.is_among.ensures in
    elim c.if-is_among.branch [
      | then-is_among w ↦ w.entries-is ∙ one-more (hung_in anchor c.args.serials.now) c.args.entries.now c.loop-later.entries place c.later-item.result w.re_anchor.new.later c.loop-later.invariant within (rw (← among, w.if-is_among.true) w.re_anchor.ensures)
      | else-is_among w ↦ w.entries-is ∙ one-more (hung_in anchor c.args.serials.now) c.args.entries.now c.loop-later.entries place c.later-item.result entry c.loop-later.invariant within (rw (← among, w.if-is_among.false) refl)
    ]

pub returns : goal.returns
returns c = c.loop-later.invariant ∙ all-changed (hung_in (new_anchor c.args.on c.args.entry.now.0) c.args.serials.now) c.args.entries.now c.loop-later.later-index (omega arith)
