-- The walk goes over all bits from the place on.
use Rattle.std.proofs.Common.{◌≡◌, ◌∙◌, true, false, sym, subst, length, drop, [], arith}
use Rattle.std.proofs.lemmas.List.{length-drop}
use Rattle.balise_rules.specs.Forms.{Fields}
use Rattle.balise_layout.specs.declared.fault.LayoutFault.{LayoutFault}
use Rattle.balise_layout.specs.declared.fault.LayoutFault.TheVariants.{LayoutMismatch, OutOfMemory}
use Rattle.balise_codec.specs.declared.trace.Due.{Due}
use Rattle.balise_codec.specs.Heads.{head}
use Rattle.balise_codec.specs.Traces.{Stopped}
use Rattle.balise_codec.proofs.Tracing.{fewer_left}
use Rattle.balise_codec.proofs.HeadsRead.{head_reads, head_stops}
use Rattle.balise_codec.proofs.head.head_fault.Goals as goal

sure : (f : LayoutFault) → f ≡ LayoutMismatch → f ≡ OutOfMemory → true ≡ false
sure f e q = cc

pub reached-requires : goal.reached-requires
reached-requires c =
    let b = c.args.bits.now in
    let new = c.walk_head.new.walker in
    let s = head_stops b c.args.at c.len-end.result c.new-tracer.result new c.in-Err-LayoutMismatch.field-0 c.len-end.ensures c.new-tracer.ensures (c.in-Err-LayoutMismatch.ensures (sure _ c.in-Err-LayoutMismatch.field-0-is)) in
    omega (arith, fewer_left _ _ new.fields (drop c.args.at b) new.left new.due s, length-drop c.args.at b, c.len-end.ensures)

pub returns-in-Ok-clause-none : goal.returns-in-Ok-clause-none
returns-in-Ok-clause-none c = (_, head_reads c.args.bits.now c.args.at c.len-end.result c.new-tracer.result c.walk_head.new.walker c.len-end.ensures c.new-tracer.ensures c.in-Ok.ensures)

pub returns-in-Err-LayoutMismatch-clause-stops : goal.returns-in-Err-LayoutMismatch-clause-stops
returns-in-Err-LayoutMismatch-clause-stops c =
    let b = c.args.bits.now in
    let new = c.walk_head.new.walker in
    let form = head (length (drop c.args.at b)) in
    let s = head_stops b c.args.at c.len-end.result c.new-tracer.result new c.in-Err-LayoutMismatch.field-0 c.len-end.ensures c.new-tracer.ensures (c.in-Err-LayoutMismatch.ensures (sure _ c.in-Err-LayoutMismatch.field-0-is)) in
    let due = subst (λ (d : Due). Stopped form [] (drop c.args.at b) new.fields new.left d) (sym c.reached.ensures.due) s in
    let r = c.reached.result in
    (new.left, subst (λ (fs : Fields). Stopped form [] (drop c.args.at b) fs new.left r.due) (sym c.reached.ensures.fields) due, c.reached.ensures.at ∙ omega (arith, c.requires, length-drop c.args.at b, c.len-end.ensures))
