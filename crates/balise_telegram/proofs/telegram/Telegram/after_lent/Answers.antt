use Rattle.std.proofs.Common.{◌≡◌, ◌∙◌, ap, arith}
use Rattle.balise_rules.specs.Packet.{width}
use Rattle.balise_telegram.proofs.Walking.{few, next_below, shown_size}
use Rattle.balise_telegram.proofs.telegram.Telegram.after_lent.Goals as goal

pub overflow_add-result : goal.overflow_add-result
overflow_add-result c = omega (arith, few c.packed-packed.result.now c.args.self.now c.packed-packed.ensures, c.requires.stands)

pub overflow_add-result-2 : goal.overflow_add-result-2
overflow_add-result-2 c =
    let b = c.packed-packed.result.now in
    let y = c.args.self.now in
    let s = c.packed-packed.ensures in
    let z = next_below b y c.args.place.index c.args.place.at s c.requires.place.1 c.requires.stands in
    let size : c.width.result ≡ width z.packet.1 = c.width.ensures ∙ ap width (c.requires.lent z.packet z.is) in
    omega (arith, z.within, size, (shown_size b y s).1)

pub returns-clause-place : goal.returns-clause-place
returns-clause-place c =
    let z = next_below c.packed-packed.result.now c.args.self.now c.args.place.index c.args.place.at c.packed-packed.ensures c.requires.place.1 c.requires.stands in
    let size : c.width.result ≡ width z.packet.1 = c.width.ensures ∙ ap width (c.requires.lent z.packet z.is) in
    (omega (arith, c.requires.stands), omega (arith, size, z.further, c.requires.place.1))
