-- The field is the first of those that are left.
use Rattle.std.proofs.Common.{arith, ◌-◌, take, drop, sym, ◌∙◌, ap, Err}
use Rattle.std.proofs.lemmas.List.{length-take, length-drop}
use Rattle.balise_rules.specs.Forms.{valued}
use Rattle.balise_layout.specs.declared.fault.LayoutFault.TheVariants.{LayoutMismatch}
use Rattle.balise_layout.specs.Walks.{walk}
use Rattle.balise_layout.proofs.Walks.{walk_step, walk_short}
use Rattle.balise_layout.proofs.walker.WalkerWalk.take.Goals as goal

pub returns : goal.returns
returns g c = λ next.
    let r = c.self.inside in
    ap (walk g.V.Visit.step (valued c.args.var next)) (sym c.self.view_is)
    ∙ walk_step g.V.Visit.step c.args.var next r.visitor c.see.new.self r.bits r.at r.end c.width-width.result c.number-value.result c.width-width.ensures.width c.self.invariant.1 (omega arith) c.number-value.ensures c.in_ok-see.ensures

pub returns-then-left-width : goal.returns-then-left-width
returns-then-left-width g c = λ next _.
    let r = c.self.inside in
    let rest = take (r.end - r.at) (drop r.at r.bits) in
    ap (walk g.V.Visit.step (valued c.args.var next)) (sym c.self.view_is)
    ∙ walk_short g.V.Visit.step c.args.var next (r.visitor, rest) (omega (arith, length-take (r.end - r.at) (drop r.at r.bits), length-drop r.at r.bits, c.width-width.ensures.width, c.if-left-width.true)) ∙ ap (λ s. Err (LayoutMismatch, s)) c.self.view_is
