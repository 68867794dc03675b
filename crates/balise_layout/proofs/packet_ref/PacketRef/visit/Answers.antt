-- A walk over a packet's bits shows its fields.
use Rattle.std.proofs.Common.{◌∙◌}
use Rattle.std.proofs.lemmas.Result.{err_from_is_err_and}
use Rattle.balise_layout.specs.Layouts.{next_of}
use Rattle.balise_layout.specs.Kinds.{number_of}
use Rattle.balise_layout.proofs.Held.{visited, not_stuck}
use Rattle.balise_layout.proofs.FewElements.{few_elements}
use Rattle.balise_layout.proofs.Lent.{lies}
use Rattle.balise_layout.proofs.packet_ref.PacketRef.visit.Goals as goal

pub returns-in_err-walk-clause-shows : goal.returns-in_err-walk-clause-shows
returns-in_err-walk-clause-shows g c =
    let next = next_of (number_of c.self.inside.kind) in
    let l = lies c.self.inside c.args.self.now c.self.invariant c.self.view_is in
    let p = err_from_is_err_and c.from_residual.result c.from_residual.ensures.1 in
    rw (p.1, p.2) (λ some. not_stuck g.V.Visit.step next c.args.visitor _ c.args.self.now c.new-walker.result c.in_err-walk.field-0.0 _ l.holds c.new-walker.ensures (c.in_err-walk.ensures some))

pub returns-clause-shows : goal.returns-clause-shows
returns-clause-shows g c =
    let next = next_of (number_of c.self.inside.kind) in
    let l = lies c.self.inside c.args.self.now c.self.invariant c.self.view_is in
    c.into_visitor.ensures
    ∙ visited g.V.Visit.step next c.args.visitor _ c.args.self.now c.new-walker.result c.walk.new.walker l.holds c.new-walker.ensures c.in_ok-walk.ensures

pub returns-in_err-walk-clause-few : goal.returns-in_err-walk-clause-few
returns-in_err-walk-clause-few g c =
    let l = lies c.self.inside c.args.self.now c.self.invariant c.self.view_is in
    few_elements c.self.inside.kind _ c.args.self.now l.holds

pub returns-clause-few : goal.returns-clause-few
returns-clause-few g c =
    let l = lies c.self.inside c.args.self.now c.self.invariant c.self.view_is in
    few_elements c.self.inside.kind _ c.args.self.now l.holds
