use Rattle.std.proofs.Common.{◌≡◌, ◌∙◌, None, cond, option_map, slice_get, sym, ap, arith, subst}
use Rattle.std.specs.Option.{is_some}
use Rattle.balise_index.specs.Cells.{cell_of, KeepsOthers}
use Rattle.balise_index.specs.Identities.{indexed, is_id}
use Rattle.balise_index.proofs.identities.TakenOut.{not_there, updates_none, placed_end, updates_end, end_cell, taken_value, placed_within, updates_within, Out}
use Rattle.balise_index.proofs.identities.TwoLists.{length_slots}
use Rattle.balise_index.proofs.identity_map.IdentityMap.remove.Goals.{then-i-len-2, else-i-len-2, After-swap_remove-value}
use Rattle.balise_index.proofs.identity_map.IdentityMap.remove.Goals as goal

pub returns-then-i-len-clause-value : goal.returns-then-i-len-clause-value
returns-then-i-len-clause-value g c =
    let id = c.args.id in
    let at = subst (λ l. slice_get l c.place-i.result ≡ option_map (λ v. (id, v)) (indexed l id)) (sym c.self.view_is) c.place-i.ensures in
    let none = not_there c.self.inside.ids.items c.self.inside.values.items c.place-i.result id c.self.invariant.0 (omega (arith, c.if-i-len.true, c.len.ensures, c.self.inside.ids.ok.0)) at in
    sym none ∙ ap (λ l. indexed l id) c.self.view_is

pub returns-then-i-len-clause-updates : goal.returns-then-i-len-clause-updates
returns-then-i-len-clause-updates g c = updates_none c.args.self.now c.args.id (sym (returns-then-i-len-clause-value g c))

pub overflow_cast-i : goal.overflow_cast-i
overflow_cast-i g c = omega (arith, c.if-i-len.false, c.len.ensures, c.self.inside.ids.ok.0, length_slots c.self.inside.ids.items c.self.inside.values.items c.self.invariant.0, c.self.invariant.1.few)

-- the slot is taken out of both lists
out : (g : _) (c : After-swap_remove-value g) → Out c.self.inside.ids.items c.swap_remove.new.self.items c.self.inside.values.items c.swap_remove-value.new.self.items (cell_of c.self.inside.cells) c.place-i.result c.swap_remove.result c.swap_remove-value.result c.args.id
out g c = record {
  same = c.self.invariant.0;
  at = c.self.invariant.1;
  inside = omega (arith, c.if-i-len.false, c.len.ensures, c.self.inside.ids.ok.0);
  n_is = c.swap_remove.ensures.value;
  v_is = c.swap_remove-value.ensures.value;
  ids = c.swap_remove.ensures.items;
  values = c.swap_remove-value.ensures.items;
  place = subst (λ l. slice_get l c.place-i.result ≡ option_map (λ v. (c.args.id, v)) (indexed l c.args.id)) (sym c.self.view_is) c.place-i.ensures;
}

pub set-requires : goal.set-requires
set-requires g c =
    let o = out g (goal.at.set-requires g c).After-swap_remove-value in
    ap is_some (ap (cell_of c.forget.new.self) c.wide.ensures ∙ end_cell o (cell_of c.forget.new.self) c.forget.ensures.kept c.index.result.now (omega (arith, c.if-i-len-2.true, c.len-2.ensures, c.swap_remove.ensures.len, c.self.inside.ids.ok.0)) c.index.ensures)

pub invariant_of-self : goal.invariant_of-self
invariant_of-self g c =
    placed_within (out g (goal.at.invariant_of-self g c).After-swap_remove-value) (cell_of c.forget.new.self) c.forget.ensures.kept
    c.index.result.now (omega (arith, c.if-i-len-2.true, c.len-2.ensures, c.swap_remove.ensures.len, c.self.inside.ids.ok.0)) c.index.ensures
    (cell_of c.set.new.self) (subst (KeepsOthers (cell_of c.forget.new.self) (cell_of c.set.new.self)) c.wide.ensures c.set.ensures.kept) (ap (cell_of c.set.new.self) (sym c.wide.ensures) ∙ c.set.ensures.noted)

pub invariant_of-self-else-i-len-2 : goal.invariant_of-self-else-i-len-2
invariant_of-self-else-i-len-2 g c =
    let o = out g (goal.at.invariant_of-self-else-i-len-2 g c).After-swap_remove-value in
    placed_end o (cell_of c.forget.new.self) c.forget.ensures.kept (omega (arith, c.if-i-len-2.false, c.len-2.ensures, c.swap_remove.ensures.len, c.self.inside.ids.ok.0))

pub returns-clause-value : goal.returns-clause-value
returns-clause-value g c = sym (taken_value (out g (goal.at.returns-clause-value g c).After-swap_remove-value)) ∙ ap (λ l. indexed l c.args.id) c.self.view_is

pub returns-clause-updates : goal.returns-clause-updates
returns-clause-updates g c q =
    let back = ap (λ l. cond (is_id c.args.id q) None (indexed l q)) c.self.view_is in
    let o = out g (goal.at.returns-clause-updates g c).After-swap_remove-value in
    elim c.if-i-len-2.branch [
      | then-i-len-2 w ↦
          ap (λ m. indexed m q) w.self-is ∙ updates_within o (cell_of c.forget.new.self) c.forget.ensures.kept
          w.index.result.now (omega (arith, w.if-i-len-2.true, c.len-2.ensures, c.swap_remove.ensures.len, c.self.inside.ids.ok.0)) w.index.ensures
          (cell_of w.set.new.self) (subst (KeepsOthers (cell_of c.forget.new.self) (cell_of w.set.new.self)) w.wide.ensures w.set.ensures.kept) (ap (cell_of w.set.new.self) (sym w.wide.ensures) ∙ w.set.ensures.noted) q ∙ back
      | else-i-len-2 w ↦ ap (λ m. indexed m q) w.self-is ∙ updates_end o (cell_of c.forget.new.self) c.forget.ensures.kept (omega (arith, w.if-i-len-2.false, c.len-2.ensures, c.swap_remove.ensures.len, c.self.inside.ids.ok.0)) q ∙ back
    ]
