use Rattle.std.proofs.Common.{◌≡◌, ◌-◌}
use Rattle.balise_rules.specs.Forms.{Form, repeat}
use Rattle.balise_rules.specs.Packets.{counted}
use Rattle.balise_layout.proofs.parts.walk_counted.Given as goal

abbrev pub invariant-loop : goal.invariant-loop
invariant-loop g l = (rest : Form) → g.W.Walk.run (counted g.P.Repeated.form rest) l.fn.walker ≡ g.W.Walk.run (repeat (l.more - l.counter) g.P.Repeated.form rest) l.walker
