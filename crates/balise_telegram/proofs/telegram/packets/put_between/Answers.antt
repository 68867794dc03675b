use Rattle.std.proofs.Common.{◌∙◌, ◌+◌, ◌-◌, List, length, ap, arith}
use Rattle.balise_rules.specs.Bits.{part}
use Rattle.balise_rules.specs.Packet.{width}
use Rattle.balise_bits.proofs.Putting.{length-put_at, length-part}
use Rattle.std.specs.List.{insert}
use Rattle.balise_rules.specs.declared.tag.Tag.{Tag}
use Rattle.balise_telegram.proofs.Placing.{used-insert}
use Rattle.balise_telegram.proofs.Seen.{tags-insert}
use Rattle.balise_telegram.proofs.Spliced.{gap_fits, put_in}
use Rattle.balise_telegram.proofs.telegram.packets.put_between.Goals as goal

pub overflow_add-place : goal.overflow_add-place
overflow_add-place c =
    let f = gap_fits c.args.bits.now c.requires.0 c.args.place.index c.args.place.at (width c.args.packet.now) c.args.used c.requires.1 c.requires.3 in omega (arith, f.0, f.1, f.2, c.width-width.ensures)

pub overflow_sub-used : goal.overflow_sub-used
overflow_sub-used c =
    let f = gap_fits c.args.bits.now c.requires.0 c.args.place.index c.args.place.at (width c.args.packet.now) c.args.used c.requires.1 c.requires.3 in omega (arith, f.0)

pub move_part-requires-clause-within : goal.move_part-requires-clause-within
move_part-requires-clause-within c =
    let f = gap_fits c.args.bits.now c.requires.0 c.args.place.index c.args.place.at (width c.args.packet.now) c.args.used c.requires.1 c.requires.3 in omega (arith, f.0, f.1)

pub move_part-requires-clause-room : goal.move_part-requires-clause-room
move_part-requires-clause-room c =
    let f = gap_fits c.args.bits.now c.requires.0 c.args.place.index c.args.place.at (width c.args.packet.now) c.args.used c.requires.1 c.requires.3 in omega (arith, f.0, f.1, c.width-width.ensures)

pub put_over-requires : goal.put_over-requires
put_over-requires c =
    let b = c.args.bits.now in
    let f = gap_fits b c.requires.0 c.args.place.index c.args.place.at (width c.args.packet.now) c.args.used c.requires.1 c.requires.3 in
    let n = c.args.used - c.args.place.at in
    let size = length-part c.args.place.at n b (omega (arith, f.0, f.1)) in
    let same = length-put_at (c.args.place.at + c.width-width.result) (part c.args.place.at n b) b (omega (arith, size, f.0, f.1, c.width-width.ensures)) in
    omega (arith, f.0, f.1, ap length c.move_part.ensures, same)

pub returns-clause-shown : goal.returns-clause-shown
returns-clause-shown c = λ y s o p.
    let b = c.args.bits.now in
    let f = gap_fits b y c.args.place.index c.args.place.at (width c.args.packet.now) c.args.used s p in
    put_in b c.move_part.new.self c.put_over.new.out y c.args.place.index (c.args.tag, c.args.packet.now) c.args.place.at c.width-width.result c.args.used s p.place c.width-width.ensures p.all
    (omega (arith, f.1, c.width-width.ensures)) c.move_part.ensures c.put_over.ensures

pub returns-clause-over : goal.returns-clause-over
returns-clause-over c = λ y s o p. (
  c.in_ok-insert.ensures.ok ∙ ap (λ (l : List Tag). insert l c.args.place.index c.args.tag) o.0 ∙ tags-insert y.packets c.args.place.index (c.args.tag, c.args.packet.now),
  o.1,
  (let more = used-insert y.packets c.args.place.index (c.args.tag, c.args.packet.now) in let all = p.all in omega (arith, more, all, c.width-width.ensures)),
)
