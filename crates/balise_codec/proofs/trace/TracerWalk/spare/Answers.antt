use Rattle.std.proofs.Common.{ap, sym, ◌∙◌, ◌-◌, take, drop}
use Rattle.balise_rules.specs.Forms.{never}
use Rattle.balise_codec.specs.Traces.{trace}
use Rattle.balise_codec.proofs.Tracing.{trace_never, traced}
use Rattle.balise_codec.proofs.trace.TracerWalk.spare.Goals as goal

pub returns : goal.returns
returns c =
    let r = c.self.inside in
    ap (trace never) (sym c.self.view_is) ∙ trace_never (traced r.fields (take (r.end - r.at) (drop r.at r.bits.now)) r.due)
