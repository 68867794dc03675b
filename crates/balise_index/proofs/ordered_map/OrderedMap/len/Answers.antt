use Rattle.std.proofs.Common.{◌∙◌, length, sym, ap}
use Rattle.balise_index.specs.InOrder.{tagged}
use Rattle.balise_index.proofs.order.Entries.{all_there, length-order}
use Rattle.balise_index.proofs.ordered_map.OrderedMap.len.Goals as goal

pub returns : goal.returns
returns g c =
    let held = tagged c.self.inside.order.rare c.self.inside.held.entries in
    c.len.ensures.len ∙ sym (length-order held c.self.inside.order.items (all_there c.self.invariant.0)) ∙ ap (λ v. length v.entries) c.self.view_is
