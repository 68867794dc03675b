use Rattle.std.proofs.Common.{◌≡◌, ◌∙◌, MutBor, Some, cond, option_map, slice_get, refl, sym, ap}
use Rattle.std.proofs.Math.ListN.{length-set}
use Rattle.std.specs.Option.{is_some}
use Rattle.balise_index.specs.Cells.{cell_of}
use Rattle.balise_index.specs.Identities.{indexed, is_id}
use Rattle.balise_index.specs.Narrow.{slots_of}
use Rattle.balise_index.proofs.identities.TwoLists.{item_read, value_there, placed_written, updates_written}
use Rattle.balise_index.proofs.identity_map.IdentityMap.get_mut.Goals as goal

pub invariant_of-self-lent : goal.invariant_of-self-lent
invariant_of-self-lent g c = λ r. (
  λ w. (
    c.self.invariant.0 ∙ sym (length-set c.self.inside.values.items c.place-i.result w),
    placed_written c.self.inside.ids.items c.self.inside.values.items (cell_of c.self.inside.cells) c.self.invariant.0 c.self.invariant.1 c.place-i.result w,
  ),
  c.self.invariant,
)

pub returns : goal.returns
returns g c =
    let ns = c.self.inside.ids.items in
    let vs = c.self.inside.values.items in
    let xs = slots_of ns vs in
    let i = c.place-i.result in
    let id = c.args.id in
    let at : slice_get xs i ≡ option_map (λ v. (id, v)) (indexed xs id) = c.place-i.ensures in (
      (
        refl,
        λ w h q. updates_written ns vs (cell_of c.self.inside.cells) c.self.invariant.0 c.self.invariant.1 i w id at (ap (λ l. is_some (indexed l id)) c.self.view_is ∙ h) q
            ∙ ap (λ l. cond (is_id id q) (Some w) (indexed l q)) c.self.view_is,
        c.self.view_is,
      ),
      record { writes_back = tt; value = item_read (λ (x : MutBor _). x.now) vs i c.get_mut.result c.get_mut.ensures.item.0 c.get_mut.ensures.item.1 ∙ value_there ns vs i id (indexed xs id) c.self.invariant.0 at ∙ ap (λ l. indexed l id) c.self.view_is },
    )
