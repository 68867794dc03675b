-- The packet that stands at the place is held as its bits.
use Rattle.std.proofs.Common.{◌≡◌, ◌∙◌, sym, ap, Ok, drop, List, Bool}
use Rattle.balise_rules.specs.Packet.{read_first}
use Rattle.balise_layout.specs.Held.{held}
use Rattle.balise_layout.specs.Layouts.{next_of}
use Rattle.balise_layout.specs.Kinds.{number_of}
use Rattle.balise_layout.proofs.First.{read_lies}
use Rattle.balise_layout.proofs.packet.Packet.read.Goals as goal

pub returns-clause-lies : goal.returns-clause-lies
returns-clause-lies c =
    let f = c.in_ok-kind.ensures.found in
    let next = next_of (number_of c.in_ok-kind.kind) in
    let is : read_first c.args.version (drop c.args.at c.args.bits.now) ≡ Ok (held next c.in_ok-packed.packed, drop c.in_ok-kind.end c.args.bits.now) = f.3 ∙ ap (λ (x : List Bool). Ok (held next x, drop c.in_ok-kind.end c.args.bits.now)) (sym c.in_ok-packed.ensures.ok) in
    read_lies c.args.version c.args.at c.in_ok-kind.end c.args.bits.now (held next c.in_ok-packed.packed) f.0 f.1 is
