-- The line of a group, and then those of its telegrams.
use Rattle.balise_lines.specs.Writing.{LastFailed}
use Rattle.balise_facts.proofs.Sequences.{begun_first, done_next}
use Rattle.balise_facts.proofs.tags.put_group_lines.Goals as goal

pub returns-in-Err : goal.returns-in-Err
returns-in-Err g c = rw (← c.identity-id.ensures) (begun_first _ c.in-Err.ensures)

pub returns : goal.returns
returns g c = rw (← c.identity-id.ensures)
    (done_next (λ _. LastFailed) _ c.put_telegrams.result _ _ _ _ _ c.in_default.ensures c.put_telegrams.ensures)
