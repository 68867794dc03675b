use Rattle.std.proofs.Common.{◌≡◌, ◌∙◌, None, option_map, slice_get, sym, arith, subst}
use Rattle.balise_rules.proofs.Cases.{found as by_option}
use Rattle.balise_index.specs.Cells.{cell_of}
use Rattle.balise_index.specs.Identities.{indexed}
use Rattle.balise_index.specs.Narrow.{slots_of}
use Rattle.balise_index.proofs.identities.Right.{right_there, nowhere}
use Rattle.balise_index.proofs.identities.Slots.{place_end}
use Rattle.balise_index.proofs.identities.TwoLists.{length_slots}
use Rattle.balise_index.proofs.identity_map.IdentityMap.place.Goals as goal

pub returns-in-Some : goal.returns-in-Some
returns-in-Some g c =
    let i = c.in-Some.i in
    let id = c.args.id in
    subst (λ l. slice_get l i ≡ option_map (λ v. (id, v)) (indexed l id)) c.self.view_is
    (right_there c.self.inside.ids.items c.self.inside.values.items (cell_of c.self.inside.cells) c.self.invariant.0 c.self.invariant.1 id c.near.result i (sym c.right_cell.ensures ∙ c.in-Some.is))

pub returns-in-Some-right_cell : goal.returns-in-Some-right_cell
returns-in-Some-right_cell g c =
    let i = c.in-Some-right_cell.i in
    let id = c.args.id in
    subst (λ l. slice_get l i ≡ option_map (λ v. (id, v)) (indexed l id)) c.self.view_is
    (right_there c.self.inside.ids.items c.self.inside.values.items (cell_of c.self.inside.cells) c.self.invariant.0 c.self.invariant.1 id c.far.result i (sym c.right_cell-2.ensures ∙ c.in-Some-right_cell.is))

pub returns-in-None : goal.returns-in-None
returns-in-None g c =
    let ns = c.self.inside.ids.items in
    let vs = c.self.inside.values.items in
    let n = c.len.result in
    let id = c.args.id in
    let near : c.right_cell.result ≡ None = by_option c.right_cell.result (λ e. e) (λ x e. absurd (c.in_default.not-Some x e)) in
    subst (λ l. slice_get l n ≡ option_map (λ v. (id, v)) (indexed l id)) c.self.view_is
    (place_end (slots_of ns vs) (cell_of c.self.inside.cells) c.self.invariant.1 id n (omega (arith, c.len.ensures, c.self.inside.ids.ok.0, length_slots ns vs c.self.invariant.0))
    (nowhere ns vs (cell_of c.self.inside.cells) c.self.invariant.0 c.self.invariant.1 id c.far.result c.near.result (cc) (sym c.right_cell.ensures ∙ near) (sym c.right_cell-2.ensures ∙ c.in-None.is)))
