use Rattle.std.proofs.Common.{drop}
use Rattle.balise_view.specs.Given.{telegram_data}
use Rattle.balise_view.proofs.Sent.{SentUpTo}
use Rattle.balise_view.proofs.group.send_telegrams.Given as goal

abbrev pub invariant-loop-pig : goal.invariant-loop-pig
invariant-loop-pig g l = SentUpTo (λ y. telegram_data y.1) l.group (drop l.pig l.group) (g.S.Serializer.written l.initial.out) (g.S.Serializer.written l.out)
