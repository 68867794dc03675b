use Rattle.std.proofs.Common.{◌≡◌, ◌<◌, Some, sym, subst}
use Rattle.std.specs.BTreeSet as set
use Rattle.std.specs.Option.{IfSome}
use Rattle.balise_index.specs.NameIndex.{indexed, names_of}
use Rattle.balise_index.proofs.names.Slots.{are_full}
use Rattle.balise_plan.proofs.plan.Plan.links_to.Goals as goal

pub returns-in-Some-clause-some : goal.returns-in-Some-clause-some
returns-in-Some-clause-some c =
    let e : Some c.in-Some.links.now ≡ indexed (names_of c.self.inside.index) c.args.id = c.in-Some.ensures in
    subst (λ o. IfSome o (λ s. 0 < set.btree_set_len s)) (sym e) (are_full c.self.inside.index c.args.id)
