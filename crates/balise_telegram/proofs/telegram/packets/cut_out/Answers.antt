use Rattle.std.proofs.Common.{ℕ, List, Bool, ◌+◌, ◌-◌, ◌∙◌, length, ap, arith}
use Rattle.std.proofs.lemmas.List.{length-map}
use Rattle.std.specs.List.{remove}
use Rattle.balise_rules.specs.declared.tag.Tag.{Tag}
use Rattle.balise_rules.specs.Packet.{Packet}
use Rattle.balise_rules.specs.Bits.{part}
use Rattle.balise_bits.proofs.Putting.{length-put_at, length-part}
use Rattle.balise_telegram.proofs.Seen.{tags-remove}
use Rattle.balise_telegram.proofs.Spliced.{spot_fits, taken_out, Fitting}
use Rattle.balise_telegram.proofs.Using.{used-remove}
use Rattle.balise_rules.specs.Telegram.{Telegram}
use Rattle.balise_telegram.specs.Shown.{IsOver, IsShown, Spot}
use Rattle.balise_telegram.specs.declared.telegram.edited.Edited.{Edited}
use Rattle.balise_telegram.proofs.telegram.packets.cut_out.Goals as goal

-- the packet that is cut out lies within what is used
fits : {b : List Bool} (e : Edited) {i at w u : ℕ} (r : (y : Telegram) × IsShown b y × IsOver e y × Spot y i at w u) → Fitting b r.0 i at w u r.3.packet
fits {b} e {i} {at} {w} {u} r = spot_fits b r.0 i at w u r.1 r.3

pub overflow_add-after : goal.overflow_add-after
overflow_add-after c = let f = fits c.args.edited.now c.requires in omega (arith, f.end, f.most, f.small)

pub overflow_sub-used : goal.overflow_sub-used
overflow_sub-used c = let f = fits c.args.edited.now c.requires in omega (arith, f.end)

pub move_part-requires-clause-within : goal.move_part-requires-clause-within
move_part-requires-clause-within c = let f = fits c.args.edited.now c.requires in omega (arith, f.end, f.most)

pub move_part-requires-clause-room : goal.move_part-requires-clause-room
move_part-requires-clause-room c = let f = fits c.args.edited.now c.requires in omega (arith, f.end, f.most)

pub overflow_sub-used-2 : goal.overflow_sub-used-2
overflow_sub-used-2 c = let f = fits c.args.edited.now c.requires in omega (arith, f.end)

pub overflow_sub-used-3 : goal.overflow_sub-used-3
overflow_sub-used-3 c = let f = fits c.args.edited.now c.requires in omega (arith, f.end)

pub put_part-requires-clause-within : goal.put_part-requires-clause-within
put_part-requires-clause-within c =
    let f = fits c.args.edited.now c.requires in
    let ground = ap length c.requires.2.1 in
    omega (arith, f.end, f.most, ground, c.requires.1.ground)

pub put_part-requires-clause-room : goal.put_part-requires-clause-room
put_part-requires-clause-room c =
    let b = c.args.bits.now in
    let f = fits c.args.edited.now c.requires in
    let after = c.args.place.at + c.args.width in
    let n = c.args.used - after in
    let size = length-part after n b (omega (arith, f.end, f.most)) in
    let same = length-put_at c.args.place.at (part after n b) b (omega (arith, size, f.end, f.most)) in
    omega (arith, f.end, f.most, ap length c.move_part.ensures, same)

pub remove-requires : goal.remove-requires
remove-requires c =
    let f = fits c.args.edited.now c.requires in
    let count = ap length c.requires.2.0 in
    let all = length-map c.requires.0.packets (λ (p : Tag × Packet). p.0) in
    omega (arith, f.below, count, all)

pub returns-clause-shown : goal.returns-clause-shown
returns-clause-shown c = λ y s o p.
    let b = c.args.bits.now in
    let f = spot_fits b y c.args.place.index c.args.place.at c.args.width c.args.used s p in
    taken_out b c.move_part.new.self c.put_part.new.self c.args.edited.now.ground y c.args.place.index p.packet c.args.place.at c.args.width c.args.used s f.below f.is p.place p.wide p.all o.1 c.move_part.ensures c.put_part.ensures

pub returns-clause-over : goal.returns-clause-over
returns-clause-over c = λ y s o p.
    let f = spot_fits c.args.bits.now y c.args.place.index c.args.place.at c.args.width c.args.used s p in
    let less = used-remove y.packets c.args.place.index p.packet f.below f.is in
    let all = p.all in
    let wide = p.wide in
    (c.remove.ensures.items ∙ ap (λ (l : List Tag). remove l c.args.place.index) o.0 ∙ tags-remove y.packets c.args.place.index, o.1, omega (arith, less, all, wide))

pub overflow_sub-edited : goal.overflow_sub-edited
overflow_sub-edited c = let f = fits c.args.edited.now c.requires in omega (arith, f.end)
