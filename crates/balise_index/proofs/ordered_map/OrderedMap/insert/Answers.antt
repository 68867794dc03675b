use Rattle.std.proofs.Common.{◌≡◌, ◌∙◌, ℕ, cond, length, Some, Ok, Err, sym, ap, subst, arith}
use Rattle.std.specs.Result.{IsOk, OnOk}
use Rattle.std.specs.declared.result.Result.{Result}
use Rattle.std.proofs.lemmas.Bool.{true≢false}
use Rattle.std.specs.Prelude.{eqb}
use Rattle.balise_rules.specs.Tagged.{find}
use Rattle.balise_index.specs.InOrder.{in_order, tagged, IsOrder}
use Rattle.balise_index.proofs.order.Entries.{all_there, length-order}
use Rattle.balise_index.proofs.order.Coded.{entries-new, known-new, order-new, Coded}
use Rattle.balise_index.proofs.order.Held.{known-kept, tagged-kept}
use Rattle.balise_index.proofs.ordered_map.OrderedMap.insert.Goals as goal
use Rattle.balise_index.proofs.ordered_map.OrderedMap.insert.Goals.{After-insert, After-insert-code}

pub insert-code-requires : goal.insert-code-requires
insert-code-requires g c =
    let all = length-order (tagged c.self.inside.order.rare c.self.inside.held.entries) c.self.inside.order.items (all_there c.self.invariant.0) in
    let is = ap (λ v. length v.entries) c.self.view_is in
    record {
      within = omega (arith, c.requires.within, all, is);
      room = omega (arith, c.requires.room.0, ap (λ v. v.room) c.self.view_is);
    }

on_ok : {A E P : Type 0} (r : Result A E) → IsOk r → OnOk r P → P
on_ok (Ok a) h p = p
on_ok (Err b) h p = absurd (true≢false (sym h))

-- the new code stands for the tag, and each other for the one that it stood for
coded : (g : _) (c : After-insert-code g) → Coded c.insert-code.new.self.rare c.self.inside.held.entries c.self.inside.order.items c.args.self.now.entries c.insert-code.result c.args.tag
coded g c =
    let same = tagged-kept c.self.inside.order.rare c.insert-code.new.self.rare c.self.inside.held.entries c.insert-code.ensures.kept c.self.invariant.1 in
    record {
      one = c.insert-code.ensures.one;
      is = record { known = c.insert-code.ensures.known; tag = c.insert-code.ensures.tag };
      kept = (subst (λ l. IsOrder l c.self.inside.order.items) (sym same) c.self.invariant.0, known-kept c.self.inside.order.rare c.insert-code.new.self.rare c.self.inside.held.entries c.insert-code.ensures.more c.self.invariant.1);
      view = ap (λ l. in_order l c.self.inside.order.items) same ∙ ap (λ v. v.entries) c.self.view_is;
    }

put : (g : _) (c : After-insert g) (d : ℕ) → find eqb d c.insert.new.self.entries ≡ cond (eqb c.insert-code.result d) (Some c.args.value) (find eqb d c.self.inside.held.entries)
put g c = (on_ok c.insert.result (c.insert.ensures.succeeds (omega (arith, ap (λ v. v.spare) c.self.view_is, c.requires.room.1))) c.insert.ensures.updates).0

pub invariant_of-self : goal.invariant_of-self
invariant_of-self g c =
    let w = goal.at.invariant_of-self g c in
    let code = coded g w.After-insert-code in
    let new = c.insert.new.self.entries in (
      subst (IsOrder (tagged c.insert-code.new.self.rare new)) (sym c.insert-code.ensures.items) (order-new code new c.args.value c.args.i (put g w.After-insert) c.requires.new c.requires.within),
      known-new code new (Some c.args.value) (put g w.After-insert),
    )

pub returns : goal.returns
returns g c =
    let w = goal.at.returns g c in
    ap (in_order (tagged c.insert-code.new.self.rare c.insert.new.self.entries)) c.insert-code.ensures.items
    ∙ entries-new (coded g w.After-insert-code) c.insert.new.self.entries c.args.value c.args.i (put g w.After-insert) c.requires.new c.requires.within
