use Rattle.std.proofs.Common.{drop}
use Rattle.balise_layout.specs.Collected.{all_keyed}
use Rattle.balise_view.specs.Given.{field_data}
use Rattle.balise_view.proofs.Sent.{SentUpTo}
use Rattle.balise_view.proofs.packet.send_fields.Given as goal

abbrev pub invariant-loop-var : goal.invariant-loop-var
invariant-loop-var g l = SentUpTo field_data (all_keyed l.fields) (all_keyed (drop l.var-index l.fields)) (g.S.Serializer.written l.initial.out) (g.S.Serializer.written l.out)
