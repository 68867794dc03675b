use Rattle.std.proofs.Common.{◌%◌, arith, refl}
use Rattle.balise_layout.proofs.Lent.{head_parts}
use Rattle.balise_telegram.proofs.Walking.{few, next_below, one_after, shown_size}
use Rattle.balise_telegram.proofs.telegram.walking.after_head.Goals as goal

pub returns-clause-place : goal.returns-clause-place
returns-clause-place c = λ y s p below.
    let b = c.args.bits.now in
    let at = c.args.place.at in
    let z = next_below b y c.args.place.index at s p.1 below in
    let parts = head_parts b at c.args.head (omega (arith, z.within, z.least)) c.requires.head in
    one_after b y c.args.place _ (c.args.head % 8192) s p below parts.1 refl refl

pub overflow_add-result : goal.overflow_add-result
overflow_add-result c = omega (arith, few c.args.bits.now c.requires.stands.0 c.requires.stands.1, c.requires.stands.2.0)

pub overflow_add-result-2 : goal.overflow_add-result-2
overflow_add-result-2 c =
    let r = c.requires.stands in
    let b = c.args.bits.now in
    let at = c.args.place.at in
    let z = next_below b r.0 c.args.place.index at r.1 r.2.1 r.3 in
    let parts = head_parts b at c.args.head (omega (arith, z.within, z.least)) c.requires.head in
    let most = (shown_size b r.0 r.1).1 in
    omega (arith, z.within, z.size, parts.1, most)
