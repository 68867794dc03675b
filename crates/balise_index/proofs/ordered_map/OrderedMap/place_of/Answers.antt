use Rattle.std.proofs.Common.{◌∙◌, position, sym, ap}
use Rattle.std.specs.Map.{keys_of}
use Rattle.balise_rules.specs.Tags.{same_tag}
use Rattle.balise_index.specs.InOrder.{tagged}
use Rattle.balise_index.proofs.order.Entries.{all_there, keys-order}
use Rattle.balise_index.proofs.ordered_map.OrderedMap.place_of.Goals as goal

pub returns : goal.returns
returns g c =
    let held = tagged c.self.inside.order.rare c.self.inside.held.entries in
    c.place_near.ensures ∙ ap (position (same_tag c.args.tag)) (sym (keys-order held c.self.inside.order.items (all_there c.self.invariant.0))) ∙ ap (λ v. position (same_tag c.args.tag) (keys_of v.entries)) c.self.view_is
