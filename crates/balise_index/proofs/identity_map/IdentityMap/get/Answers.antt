use Rattle.std.proofs.Common.{◌≡◌, ◌∙◌, Bor, option_map, slice_get, sym, ap, subst}
use Rattle.balise_index.specs.Identities.{indexed}
use Rattle.balise_index.specs.Narrow.{slots_of}
use Rattle.balise_index.proofs.identities.TwoLists.{item_read, value_there}
use Rattle.balise_index.proofs.identity_map.IdentityMap.get.Goals as goal

pub returns : goal.returns
returns g c =
    let ns = c.self.inside.ids.items in
    let vs = c.self.inside.values.items in
    let xs = slots_of ns vs in
    let i = c.place.result in
    let id = c.args.id in
    let at : slice_get xs i ≡ option_map (λ v. (id, v)) (indexed xs id) = subst (λ l. slice_get l i ≡ option_map (λ v. (id, v)) (indexed l id)) (sym c.self.view_is) c.place.ensures in
    record {
      value = item_read (λ (x : Bor _). x.now) c.deref.result.now i c.get.result c.get.ensures.lookup.0 c.get.ensures.lookup.1
          ∙ ap (λ l. slice_get l i) c.deref.ensures.value
          ∙ value_there ns vs i id (indexed xs id) c.self.invariant.0 at ∙ ap (λ l. indexed l id) c.self.view_is;
    }
