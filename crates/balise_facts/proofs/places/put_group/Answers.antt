-- A part of a telegram, after the tag of its group and a slash.
use Rattle.balise_facts.proofs.Steps.{step_begun, step_behind}
use Rattle.balise_facts.proofs.places.put_group.Goals as goal

pub returns-in-Err : goal.returns-in-Err
returns-in-Err g c = rw c.in-Telegram.is (step_begun _ _ _ _ _ _ _ c.format-group.ensures c.in-Err.ensures)

pub returns-in_default : goal.returns-in_default
returns-in_default g c = rw c.in-Telegram.is (step_behind _ c.put_telegram.result _ _ _ _ _ _ _ c.format-group.ensures c.in_default.ensures c.put_telegram.ensures)
