-- The number and the length of the packet that is read there.
use Rattle.std.proofs.Common.{◌≡◌, ◌∙◌, ◌+◌, ◌/◌, ◌%◌, ◌^◌, ℕ, List, Bool, Option, ap, arith}
use Rattle.balise_rules.specs.Bits.{num, part}
use Rattle.balise_rules.specs.Packet.{Packet}
use Rattle.balise_layout.specs.Layouts.{next_of, layout_in}
use Rattle.balise_layout.specs.Kinds.{number_of}
use Rattle.balise_layout.proofs.Lent.{Lies, Read, head_parts, read_there, read_lies_there}
use Rattle.balise_layout.proofs.Spelt.{held_is, is_held}
use Rattle.balise_layout.proofs.packet_ref.PacketRef.of_head.Goals as goal

pub overflow_add-end : goal.overflow_add-end
overflow_add-end c =
    let r = read_there c.args.version c.args.at c.args.bits.now c.requires.there.0 c.requires.there.1 c.requires.there.2 in
    let h = head_parts c.args.bits.now c.args.at c.args.head (omega (arith, r.within, r.least)) c.requires.head in
    omega (arith, r.within, r.said, h.1, c.len-len.ensures, c.len-len.type_inv)

there : (version at h : ℕ) (b : List Bool) (p : Packet) (k : Option ℕ) → Read version at b p → h ≡ num (part at 23 b) → k ≡ layout_in version (h / 2 ^ 15) → Lies (next_of k) b at (at + h % 8192) p
there version at h b p k r e of =
    let s = head_parts b at h (omega (arith, r.within, r.least)) e in
    read_lies_there version at (h % 8192) k b p r (of ∙ ap (layout_in version) s.0) s.1

pub invariant_of-result : goal.invariant_of-result
invariant_of-result c =
    let l = there c.args.version c.args.at c.args.head c.args.bits.now c.requires.there.0 (number_of c.of-kind.result) (read_there c.args.version c.args.at c.args.bits.now c.requires.there.0 c.requires.there.1 c.requires.there.2) c.requires.head c.of-kind.ensures in
    (l.ordered, l.within, is_held _ _ c.requires.there.0 l.holds)

pub returns : goal.returns
returns c = λ p after e. held_is _ _ p (there c.args.version c.args.at c.args.head c.args.bits.now p (number_of c.of-kind.result) (read_there c.args.version c.args.at c.args.bits.now p after e) c.requires.head c.of-kind.ensures).holds
