-- The lines of places are written one after another.
use Rattle.balise_lines.proofs.PartsWritten.{wrote_none, wrote_more, wrote_some}
use Rattle.balise_facts.proofs.Sequences.{mapped_text}
use Rattle.balise_facts.proofs.places.put_places.Goals as goal

pub loop-place-init : goal.loop-place-init
loop-place-init g c = wrote_none _ _ _

pub loop-place-preserved : goal.loop-place-preserved
loop-place-preserved g c =
    wrote_more _ _ _ _ _ _ _ _ (mapped_text _ _ _ _ _ c.loop-place-test.true) c.loop-place.invariant c.in_default.ensures

pub returns-in-Err : goal.returns-in-Err
returns-in-Err g c =
    wrote_some _ _ _ _ _ _ _ _ _ (mapped_text _ _ _ _ _ c.loop-place-test.true) c.loop-place.invariant c.in-Err.ensures
