-- No bit is left exactly where the place is the end.
use Rattle.std.proofs.Common.{arith, ◌-◌, take, drop, sym, ◌∙◌, ap, Ok}
use Rattle.std.proofs.lemmas.List.{length-take, length-drop}
use Rattle.balise_rules.specs.Forms.{shut}
use Rattle.balise_codec.specs.Traces.{trace}
use Rattle.balise_codec.proofs.Tracing.{trace_shut, trace_open}
use Rattle.balise_codec.proofs.trace.TracerWalk.end.Goals as goal

pub returns-then-self : goal.returns-then-self
returns-then-self c = λ _.
    let r = c.self.inside in
    let rest = take (r.end - r.at) (drop r.at r.bits.now) in
    ap (trace shut) (sym c.self.view_is) ∙ trace_open r.fields rest r.due (omega (arith, c.self.invariant.1, c.if-self.true, length-take (r.end - r.at) (drop r.at r.bits.now), length-drop r.at r.bits.now))

pub returns : goal.returns
returns c =
    let r = c.self.inside in
    let rest = take (r.end - r.at) (drop r.at r.bits.now) in
    ap (trace shut) (sym c.self.view_is) ∙ trace_shut r.fields rest r.due (omega (arith, c.if-self.false, length-take (r.end - r.at) (drop r.at r.bits.now))) ∙ ap Ok c.self.view_is
