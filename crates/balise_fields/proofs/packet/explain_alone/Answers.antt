use Rattle.std.proofs.Common.{◌≡◌, ◌≢◌, ◌∙◌, Err, rules, sym, ap, inl, inr}
use Rattle.balise_rules.specs.declared.refusal.Refusal.{Refusal}
use Rattle.balise_rules.specs.declared.refusal.Refusal.TheVariants.{BadLength, OutOfMemory, SpareBits}
use Rattle.balise_rules.specs.Addresses.{packet_in}
use Rattle.balise_fields.proofs.PacketDigits.{refused_after, spare_whole, whole_size, whole_within}
use Rattle.balise_telegram.proofs.PacketDigits.{IsWhole}
use Rattle.balise_fields.proofs.packet.explain_alone.Goals as goal

not_memory : (e : Refusal) → e ≡ SpareBits → e ≢ OutOfMemory
not_memory e h k = let m : SpareBits ≡ OutOfMemory = sym h ∙ k in cc

pub explain_spare-requires : goal.explain_spare-requires
explain_spare-requires c =
    let b = c.args.bits.now in
    let k : packet_in c.args.version b ≡ Err SpareBits = c.in-Err-SpareBits.ensures.fault (not_memory c.in-Err-SpareBits.field-0 c.in-Err-SpareBits.field-0-is) ∙ ap Err c.in-Err-SpareBits.field-0-is in
    let w : IsWhole b = spare_whole c.args.version b k in
    record { whole = whole_size b w; within = whole_within b w }

pub explain_fault-requires : goal.explain_fault-requires
explain_fault-requires c = λ p after h.
    let m : c.in-Err.refusal ≢ OutOfMemory = search rules in
    let x : c.in-Err.refusal ≢ BadLength = search rules in
    let y : c.in-Err.refusal ≢ SpareBits = search rules in
    elim (refused_after c.args.version c.args.bits.now c.in-Err.refusal p after h (c.in-Err.ensures.fault m)) [ inl e ↦ x e | inr e ↦ y e ]
