-- A packet or a part of it, after the tag of its telegram and a slash.
use Rattle.std.proofs.Common.{◌∙◌}
use Rattle.balise_facts.proofs.Steps.{step_begun, step_behind}
use Rattle.balise_facts.proofs.places.put_telegram.Goals as goal

pub returns-in-Err : goal.returns-in-Err
returns-in-Err g c = rw c.in-Packet.is (step_begun _ _ _ _ _ _ _ (c.as_bytes-telegram.ensures.value ∙ c.format.ensures.text) c.in-Err.ensures)

pub returns-in_default : goal.returns-in_default
returns-in_default g c = rw c.in-Packet.is (step_behind _ c.put_packet.result _ _ _ _ _ _ _ (c.as_bytes-telegram.ensures.value ∙ c.format.ensures.text) c.in_default.ensures c.put_packet.ensures)
