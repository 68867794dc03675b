-- The value that is taken is the first of those left.
use Rattle.std.proofs.Common.{ap, sym, ◌∙◌}
use Rattle.balise_rules.specs.declared.variable.Var.TheVariants.{NidPacket}
use Rattle.balise_rules.specs.Forms.{valued}
use Rattle.balise_codec.specs.Misfits.{walk_values}
use Rattle.balise_codec.proofs.MisfitWalk.{values_skip, values_stop, values_on}
use Rattle.balise_codec.proofs.misfit.SpellerWalk.take.Goals as goal

pub returns-then-eq : goal.returns-then-eq
returns-then-eq c = λ next. values_skip c.args.var next c.args.self.now (sym c.eq.ensures ∙ c.if-eq.true)

pub returns-in-Some : goal.returns-in-Some
returns-in-Some c = λ next _.
    let i = c.self.inside in
    ap (walk_values (valued c.args.var next)) (sym c.self.view_is) ∙ values_stop c.args.var next i.values.now i.count i.misfit c.in-Some.misfit (sym c.eq.ensures ∙ c.if-eq.false) (sym c.misfit_of.ensures ∙ c.in-Some.is)

pub returns : goal.returns
returns c = λ next.
    let i = c.self.inside in
    ap (walk_values (valued c.args.var next)) (sym c.self.view_is) ∙ values_on c.args.var next i.values.now i.count i.misfit (NidPacket, 0) (sym c.eq.ensures ∙ c.if-eq.false) (sym c.misfit_of.ensures ∙ c.in_default.is)
