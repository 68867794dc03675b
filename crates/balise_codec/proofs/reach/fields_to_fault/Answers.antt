-- What the walk kept is what stands before the fault.
use Rattle.std.proofs.Common.{◌≡◌, ◌-◌, ◌≤◌, ℕ, List, Bool, true, false, sym, subst, length, take, drop, [], Option, Err, arith}
use Rattle.std.proofs.lemmas.List.{length-take, length-drop}
use Rattle.balise_rules.specs.Bits.{num, part}
use Rattle.balise_rules.specs.Forms.{Fields}
use Rattle.balise_rules.specs.Packets.{packet}
use Rattle.balise_layout.specs.declared.fault.LayoutFault.{LayoutFault}
use Rattle.balise_layout.specs.declared.fault.LayoutFault.TheVariants.{LayoutMismatch, OutOfMemory}
use Rattle.balise_layout.specs.Held.{headed}
use Rattle.balise_layout.specs.Layouts.{next_of, layout_in}
use Rattle.balise_codec.specs.Traces.{Stopped, Trace, trace}
use Rattle.balise_codec.specs.declared.trace.Due.{Due}
use Rattle.balise_codec.specs.declared.trace.Due.TheVariants.{End}
use Rattle.balise_codec.proofs.Tracing.{reads, stops, fewer_left, traced}
use Rattle.balise_codec.proofs.reach.fields_to_fault.Goals as goal

sure : (f : LayoutFault) → f ≡ LayoutMismatch → f ≡ OutOfMemory → true ≡ false
sure f e q = cc

long : (b : List Bool) (at end : ℕ) → at ≤ end → end ≤ length b → length (part at (end - at) b) ≡ end - at
long b at end h k = omega (arith, length-take (end - at) (drop at b), length-drop at b)

first : (b : List Bool) (at end n : ℕ) → at ≤ end → end ≤ length b → (8 ≤ end - at → n ≡ num (take 8 (part at (end - at) b))) → 8 ≤ length (part at (end - at) b) → n ≡ num (take 8 (part at (end - at) b))
first b at end n h k f l = f (omega (arith, l, long b at end h k))

stopped_there : (version n : ℕ) (own : Option ℕ) (b : List Bool) (at end : ℕ) (old new : Trace) (e : LayoutFault) → at ≤ end → end ≤ length b → old ≡ traced [] (part at (end - at) b) End → (8 ≤ end - at → n ≡ num (take 8 (part at (end - at) b))) → own ≡ layout_in version n → e ≡ LayoutMismatch → ((e ≡ OutOfMemory → true ≡ false) → trace (headed (next_of own)) old ≡ Err (e, new)) → Stopped (packet version) [] (part at (end - at) b) new.fields new.left new.due × (length new.left ≤ end - at)
stopped_there version n own b at end old new e h k start number kind is walked =
    let x = part at (end - at) b in
    let s = stops version n own x old new e start (first b at end n h k number) kind (walked (sure e is)) in
    (s, subst (λ (m : ℕ). length new.left ≤ m) (long b at end h k) (fewer_left (packet version) [] new.fields x new.left new.due s))

pub reached-requires : goal.reached-requires
reached-requires c =
    let r = c.requires in
    let s = stopped_there c.args.version c.number_of-number.result _ c.args.bits.now c.args.at c.args.end c.new-tracer.result c.walk.new.walker c.in-Err-LayoutMismatch.field-0 r.ordered r.within c.new-tracer.ensures c.number_of-number.ensures c.of-kind.ensures c.in-Err-LayoutMismatch.field-0-is c.in-Err-LayoutMismatch.ensures in
    omega (arith, s.1)

pub returns-in-Ok-clause-reaches : goal.returns-in-Ok-clause-reaches
returns-in-Ok-clause-reaches c =
    let b = c.args.bits.now in
    (_, reads c.args.version c.number_of-number.result _ (part c.args.at (c.args.end - c.args.at) b) c.new-tracer.result c.walk.new.walker c.new-tracer.ensures (first b c.args.at c.args.end c.number_of-number.result c.requires.ordered c.requires.within c.number_of-number.ensures) c.of-kind.ensures c.in-Ok.ensures)

pub returns-in-Err-LayoutMismatch-clause-reaches : goal.returns-in-Err-LayoutMismatch-clause-reaches
returns-in-Err-LayoutMismatch-clause-reaches c =
    let r = c.requires in
    let new = c.walk.new.walker in
    let b = part c.args.at (c.args.end - c.args.at) c.args.bits.now in
    let s = stopped_there c.args.version c.number_of-number.result _ c.args.bits.now c.args.at c.args.end c.new-tracer.result new c.in-Err-LayoutMismatch.field-0 r.ordered r.within c.new-tracer.ensures c.number_of-number.ensures c.of-kind.ensures c.in-Err-LayoutMismatch.field-0-is c.in-Err-LayoutMismatch.ensures in
    let due = subst (λ (d : Due). Stopped (packet c.args.version) [] b new.fields new.left d) (sym c.reached.ensures.due) s.0 in
    (new.left, subst (λ (fs : Fields). Stopped (packet c.args.version) [] b fs new.left c.reached.result.due) (sym c.reached.ensures.fields) due, c.reached.ensures.at)
