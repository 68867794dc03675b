use Rattle.std.proofs.Common.{◌≡◌, ◌∙◌, None, sym, ap, subst, arith}
use Rattle.balise_rules.specs.Tagged.{find}
use Rattle.balise_rules.specs.Tags.{same_tag}
use Rattle.balise_index.specs.InOrder.{in_order, tagged, HoldsKnown, IsOrder}
use Rattle.balise_index.proofs.order.Coded.{entries-left, find-held, held-there, known-new, order-left, within-order, Coded}
use Rattle.balise_index.proofs.order.Held.{none-held}
use Rattle.balise_index.proofs.order.Taken.{no-place, no-place-of, none-removed}
use Rattle.balise_index.proofs.ordered_map.OrderedMap.remove.Goals as goal
use Rattle.balise_index.proofs.ordered_map.OrderedMap.remove.Goals.{In-Some, In_default, In_default-swap_remove}

none : (g : _) (c : In_default g) → find same_tag c.args.tag c.args.self.now.entries ≡ None
none g c = none-held c.self.inside.order.rare c.self.inside.held.entries c.args.tag c.in_default.ensures.none c.self.invariant.1 c.self.invariant.0 (ap (λ v. v.entries) c.self.view_is)

pub returns-in_default-clause-place : goal.returns-in_default-clause-place
returns-in_default-clause-place g c = sym (no-place c.args.tag c.args.self.now.entries (none g (goal.at.returns-in_default-clause-place g c).In_default))

pub returns-in_default-clause-value : goal.returns-in_default-clause-value
returns-in_default-clause-value g c = sym (none g (goal.at.returns-in_default-clause-value g c).In_default)

pub returns-in_default-clause-entries : goal.returns-in_default-clause-entries
returns-in_default-clause-entries g c = sym (none-removed c.args.tag c.args.self.now.entries (none g (goal.at.returns-in_default-clause-entries g c).In_default))

pub returns-in_default-place_of-clause-value : goal.returns-in_default-place_of-clause-value
returns-in_default-place_of-clause-value g c = sym (no-place-of c.args.tag c.args.self.now.entries (sym c.in_default-place_of.ensures))

pub returns-in_default-place_of-clause-entries : goal.returns-in_default-place_of-clause-entries
returns-in_default-place_of-clause-entries g c = sym (none-removed c.args.tag c.args.self.now.entries (no-place-of c.args.tag c.args.self.now.entries (sym c.in_default-place_of.ensures)))

coded : (g : _) (c : In-Some g) → Coded c.self.inside.order.rare c.self.inside.held.entries c.self.inside.order.items c.args.self.now.entries c.in-Some.code c.args.tag
coded g c = record { one = c.in-Some.ensures.one; is = record { known = c.in-Some.ensures.known; tag = c.in-Some.ensures.tag }; kept = c.self.invariant; view = ap (λ v. v.entries) c.self.view_is }

-- a tag that has a place has a value
unmet : (g : _) (c : In_default-swap_remove g) → ⊥
unmet g c = held-there (coded g (goal.at.In_default-swap_remove g c).In-Some) c.in-Some-place_of.i (sym c.in-Some-place_of.ensures) (sym c.in_default-swap_remove.ensures.value)

pub returns-in_default-swap_remove-clause-place : goal.returns-in_default-swap_remove-clause-place
returns-in_default-swap_remove-clause-place g c = absurd (unmet g (goal.at.returns-in_default-swap_remove-clause-place g c).In_default-swap_remove)

pub returns-in_default-swap_remove-clause-value : goal.returns-in_default-swap_remove-clause-value
returns-in_default-swap_remove-clause-value g c = absurd (unmet g (goal.at.returns-in_default-swap_remove-clause-value g c).In_default-swap_remove)

pub returns-in_default-swap_remove-clause-entries : goal.returns-in_default-swap_remove-clause-entries
returns-in_default-swap_remove-clause-entries g c = absurd (unmet g (goal.at.returns-in_default-swap_remove-clause-entries g c).In_default-swap_remove)

pub remove-requires : goal.remove-requires
remove-requires g c = let w = within-order (coded g (goal.at.remove-requires g c).In-Some) c.in-Some-place_of.i (sym c.in-Some-place_of.ensures) in omega (arith, w)

pub invariant_of-self-2 : goal.invariant_of-self-2
invariant_of-self-2 g c =
    let rare = c.self.inside.order.rare in
    let code = coded g (goal.at.invariant_of-self-2 g c).In-Some in
    let new = c.swap_remove.new.self.entries in
    let order : IsOrder (tagged rare new) c.remove.new.self.items = subst (IsOrder (tagged rare new)) (sym c.remove.ensures.items) (order-left code c.in-Some-place_of.i (sym c.in-Some-place_of.ensures) new c.in-Some-swap_remove.ensures.updates.0) in
    subst (λ r. IsOrder (tagged r new) c.remove.new.self.items × HoldsKnown r new) (sym c.remove.ensures.rare) (order, known-new code new None c.in-Some-swap_remove.ensures.updates.0)

pub returns-clause-value : goal.returns-clause-value
returns-clause-value g c = c.in-Some-swap_remove.ensures.value ∙ sym (find-held (coded g (goal.at.returns-clause-value g c).In-Some))

pub returns-clause-entries : goal.returns-clause-entries
returns-clause-entries g c =
    let new = c.swap_remove.new.self.entries in
    ap (λ r. in_order (tagged r new) c.remove.new.self.items) c.remove.ensures.rare
    ∙ ap (in_order (tagged c.self.inside.order.rare new)) c.remove.ensures.items
    ∙ entries-left (coded g (goal.at.returns-clause-entries g c).In-Some) c.in-Some-place_of.i (sym c.in-Some-place_of.ensures) new c.in-Some-swap_remove.ensures.updates.0
