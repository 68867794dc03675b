use Rattle.std.proofs.Common.{◌∙◌, refl, sym, ap, subst}
use Rattle.indexmap.specs.IndexMap.{set_value_at}
use Rattle.balise_rules.proofs.Tests.{nat_test}
use Rattle.balise_index.specs.InOrder.{in_order, tagged, HoldsKnown, IsOrder}
use Rattle.balise_index.proofs.order.Coded.{entries-written, find-held, known-written, order-written, Coded}
use Rattle.balise_index.proofs.order.Held.{none-held}
use Rattle.balise_index.proofs.order.Written.{found-own, none-written, set-own}
use Rattle.balise_index.proofs.ordered_map.OrderedMap.get_mut.Goals as goal
use Rattle.balise_index.proofs.ordered_map.OrderedMap.get_mut.Goals.{In-Some}

coded : (g : _) (c : In-Some g) → Coded c.self.inside.order.rare c.self.inside.held.entries c.self.inside.order.items c.args.self.now.entries c.in-Some.code c.args.tag
coded g c = record { one = c.in-Some.ensures.one; is = record { known = c.in-Some.ensures.known; tag = c.in-Some.ensures.tag }; kept = c.self.invariant; view = ap (λ v. v.entries) c.self.view_is }

pub invariant_of-self-lent-2 : goal.invariant_of-self-lent-2
invariant_of-self-lent-2 g c = λ r.
    let code = coded g (goal.at.invariant_of-self-lent-2 g c).In-Some in
    let same = ap (λ m. m.entries) (sym c.get_mut.follows.holds-at-none) in (
      λ w. (order-written code (c.get_mut.follows.lender w).entries w (c.get_mut.follows.holds w).0, known-written code (c.get_mut.follows.lender w).entries w (c.get_mut.follows.holds w).0),
      (subst (λ l. IsOrder (tagged c.self.inside.order.rare l) c.self.inside.order.items) same c.self.invariant.0, subst (HoldsKnown c.self.inside.order.rare) same c.self.invariant.1),
    )

pub invariant_of-self-lent : goal.invariant_of-self-lent
invariant_of-self-lent g c = λ r.
    let code = coded g (goal.at.invariant_of-self-lent g c).In-Some in
    let held = c.self.inside.held.entries in
    let i = c.in-Some-own_place.i in (
      λ w.
          let set = set-own nat_test held i c.in-Some.code w c.get_index_mut.ensures.unique c.in-Some-own_place.ensures in
          (order-written code (set_value_at held i w) w set, known-written code (set_value_at held i w) w set),
      c.self.invariant,
    )

pub returns-in_default : goal.returns-in_default
returns-in_default g c =
    let view = ap (λ v. v.entries) c.self.view_is in
    let none = none-held c.self.inside.order.rare c.self.inside.held.entries c.args.tag c.in_default.ensures.none c.self.invariant.1 c.self.invariant.0 view in
    ((refl, λ w. view ∙ sym (none-written c.args.tag c.args.self.now.entries w none), view), record { writes_back = tt; value = sym none })

pub returns-in-Some-own_place : goal.returns-in-Some-own_place
returns-in-Some-own_place g c =
    let code = coded g (goal.at.returns-in-Some-own_place g c).In-Some in
    let held = c.self.inside.held.entries in
    let i = c.in-Some-own_place.i in (
      (
        refl,
        λ w. entries-written code (set_value_at held i w) w (set-own nat_test held i c.in-Some.code w c.get_index_mut.ensures.unique c.in-Some-own_place.ensures),
        code.view,
      ),
      record {
        writes_back = tt;
        value = c.get_index_mut.ensures.value ∙ found-own nat_test held i c.in-Some.code c.get_index_mut.ensures.unique c.in-Some-own_place.ensures ∙ sym (find-held code);
      },
    )

pub returns : goal.returns
returns g c =
    let code = coded g (goal.at.returns g c).In-Some in (
      (
        refl,
        λ w. entries-written code (c.get_mut.follows.lender w).entries w (c.get_mut.follows.holds w).0,
        ap (λ m. in_order (tagged c.self.inside.order.rare m.entries) c.self.inside.order.items) c.get_mut.follows.holds-at-none ∙ code.view,
      ),
      record { writes_back = tt; value = c.get_mut.ensures.value ∙ sym (find-held code) },
    )
