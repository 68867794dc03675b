-- The serial of an edit, then places changed, places needed and dependents.
use Rattle.balise_lines.specs.Writing.{LastFailed}
use Rattle.balise_facts.proofs.Sequences.{begun_first, begun_next, done_next}
use Rattle.balise_facts.proofs.edits.put_lines.Goals as goal

pub returns-in-Err : goal.returns-in-Err
returns-in-Err g c = begun_first _ c.in-Err.ensures

pub returns-in-Err-put_places : goal.returns-in-Err-put_places
returns-in-Err-put_places g c =
    begun_next c.in_default.ensures
    (begun_first _ c.in-Err-put_places.ensures)

pub returns-in-Err-put_places-2 : goal.returns-in-Err-put_places-2
returns-in-Err-put_places-2 g c =
    begun_next c.in_default.ensures
    (begun_next c.in_default-put_places.ensures
    (begun_first _ c.in-Err-put_places-2.ensures))

pub returns : goal.returns
returns g c =
    done_next (λ _. LastFailed) _ c.put_serials.result _ _ _ _ _ c.in_default.ensures
    (done_next (λ _. LastFailed) _ c.put_serials.result _ _ _ _ _ c.in_default-put_places.ensures
    (done_next (λ _. LastFailed) _ c.put_serials.result _ _ _ _ _ c.in_default-put_places-2.ensures c.put_serials.ensures))
