-- What was found is read, and as long as the place after it is far.
use Rattle.std.proofs.Common.{◌-◌}
use Rattle.balise_rules.specs.Bits.{part}
use Rattle.balise_layout.specs.Held.{held}
use Rattle.balise_layout.specs.Layouts.{next_of}
use Rattle.balise_layout.specs.Kinds.{number_of}
use Rattle.balise_layout.proofs.First.{read_lies}
use Rattle.balise_layout.proofs.packet.Packet.check.Goals as goal

pub returns-clause-stands : goal.returns-clause-stands
returns-clause-stands c =
    let f = c.in_ok-end.ensures.found in
    let p = held (next_of (number_of c.in_ok-end.field-0-0)) (part c.args.at (c.in_ok-end.end - c.args.at) c.args.bits.now) in
    let lies = read_lies c.args.version c.args.at c.in_ok-end.end c.args.bits.now p f.0 f.1 f.3 in
    (p, f.3, lies.0, lies.1, lies.2)
