-- The field is the first of those that are left.
use Rattle.std.proofs.Common.{arith, ◌-◌, take, drop, sym, ◌∙◌, ap}
use Rattle.std.proofs.lemmas.List.{length-take, length-drop}
use Rattle.balise_rules.specs.Forms.{valued}
use Rattle.balise_codec.specs.Traces.{trace}
use Rattle.balise_codec.proofs.Tracing.{trace_on, trace_short, traced}
use Rattle.balise_codec.proofs.trace.TracerWalk.take.Goals as goal

pub returns : goal.returns
returns c = λ next.
    let r = c.self.inside in
    ap (trace (valued c.args.var next)) (sym c.self.view_is)
    ∙ trace_on c.args.var next r.fields c.see.new.self r.due r.bits.now r.at r.end c.width-width.result c.number-value.result c.width-width.ensures.width c.self.invariant.1 (omega arith) c.number-value.ensures c.in_ok-see.ensures

pub returns-then-left-width : goal.returns-then-left-width
returns-then-left-width c = λ next _.
    let r = c.self.inside in
    let rest = take (r.end - r.at) (drop r.at r.bits.now) in
    ap (trace (valued c.args.var next)) (sym c.self.view_is)
    ∙ trace_short c.args.var next (traced r.fields rest r.due) (omega (arith, length-take (r.end - r.at) (drop r.at r.bits.now), length-drop r.at r.bits.now, c.width-width.ensures.width, c.if-left-width.true))
