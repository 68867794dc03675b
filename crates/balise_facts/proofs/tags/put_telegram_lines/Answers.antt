-- The line of a telegram, and then those of its packets.
use Rattle.balise_lines.specs.Writing.{LastFailed}
use Rattle.balise_facts.proofs.Sequences.{begun_first, done_next}
use Rattle.balise_facts.proofs.tags.put_telegram_lines.Goals as goal

pub returns-in-Err : goal.returns-in-Err
returns-in-Err g c = begun_first _ c.in-Err.ensures

pub returns : goal.returns
returns g c =
    done_next (λ _. LastFailed) _ c.put_packets.result _ _ _ _ _ c.in_default.ensures c.put_packets.ensures
