-- The lines of serials are written one after another.
use Rattle.balise_lines.proofs.PartsWritten.{wrote_none, wrote_more, wrote_some}
use Rattle.balise_text.proofs.Lists.{text_left}
use Rattle.balise_facts.proofs.edits.put_serials.Goals as goal

pub loop-serial-init : goal.loop-serial-init
loop-serial-init g c = wrote_none _ _ _

pub loop-serial-preserved : goal.loop-serial-preserved
loop-serial-preserved g c =
    wrote_more _ _ _ _ _ _ _ _ (text_left _ _ _ 0 c.loop-serial-test.true) c.loop-serial.invariant c.in_default.ensures

pub returns-in-Err : goal.returns-in-Err
returns-in-Err g c =
    wrote_some _ _ _ _ _ _ _ _ _ (text_left _ _ _ 0 c.loop-serial-test.true) c.loop-serial.invariant c.in-Err.ensures
