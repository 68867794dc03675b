-- The lines of standing edits are written one after another.
use Rattle.balise_lines.proofs.PartsWritten.{wrote_none, wrote_more, wrote_some}
use Rattle.balise_facts.proofs.Sequences.{item_text}
use Rattle.balise_facts.proofs.edits.put_edits.Goals as goal

pub loop-entry-init : goal.loop-entry-init
loop-entry-init g c = rw c.standing-standing.ensures (wrote_none _ _ _)

pub loop-entry-preserved : goal.loop-entry-preserved
loop-entry-preserved g c =
    wrote_more _ _ _ _ _ _ _ _ (item_text _ _ _ _ c.loop-entry-test.true c.entry-item.is) c.loop-entry.invariant
    c.in_default.ensures

pub returns-in-Err : goal.returns-in-Err
returns-in-Err g c =
    wrote_some _ _ _ _ _ _ _ _ _ (item_text _ _ _ _ c.loop-entry-test.true c.entry-item.is) c.loop-entry.invariant
    c.in-Err.ensures
