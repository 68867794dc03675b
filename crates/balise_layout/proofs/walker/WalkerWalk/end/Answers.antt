-- No bit is left exactly where the place is the end.
use Rattle.std.proofs.Common.{arith, ◌-◌, take, drop, sym, ◌∙◌, ap, Ok, Err}
use Rattle.std.proofs.lemmas.List.{length-take, length-drop}
use Rattle.balise_rules.specs.Forms.{shut}
use Rattle.balise_layout.specs.declared.fault.LayoutFault.TheVariants.{LayoutMismatch}
use Rattle.balise_layout.specs.Walks.{walk}
use Rattle.balise_layout.proofs.Walks.{walk_shut, walk_open}
use Rattle.balise_layout.proofs.walker.WalkerWalk.end.Goals as goal

pub returns-then-self : goal.returns-then-self
returns-then-self g c = λ _.
    let r = c.self.inside in
    let rest = take (r.end - r.at) (drop r.at r.bits) in
    ap (walk g.V.Visit.step shut) (sym c.self.view_is) ∙ walk_open g.V.Visit.step r.visitor rest (omega (arith, length-take (r.end - r.at) (drop r.at r.bits), length-drop r.at r.bits)) ∙ ap (λ s. Err (LayoutMismatch, s)) c.self.view_is

pub returns : goal.returns
returns g c =
    let r = c.self.inside in
    let rest = take (r.end - r.at) (drop r.at r.bits) in
    ap (walk g.V.Visit.step shut) (sym c.self.view_is) ∙ walk_shut g.V.Visit.step r.visitor rest (omega (arith, length-take (r.end - r.at) (drop r.at r.bits))) ∙ ap Ok c.self.view_is
