use Rattle.std.proofs.Common.{◌≡◌, ◌∙◌, ◌∷◌, ◌++◌, [], Bool, true, false, List, cond, if◌then◌else◌, length, Some, sym, ap, arith, subst}
use Rattle.std.specs.Result.{is_ok}
use Rattle.std.proofs.lemmas.Bool.{true≢false}
use Rattle.balise_index.specs.Cells.{cell_of}
use Rattle.balise_index.specs.Identities.{indexed, is_id}
use Rattle.balise_index.specs.IdentityMap.{IsPlaced}
use Rattle.balise_index.specs.Narrow.{slots_of}
use Rattle.balise_index.proofs.identities.Added.{placed_kept}
use Rattle.balise_index.proofs.identities.PutIn.{placed_put, updates_put}
use Rattle.balise_index.proofs.identity_map.IdentityMap.insert.Goals as goal

pub invariant_of-self-in_err-note : goal.invariant_of-self-in_err-note
invariant_of-self-in_err-note g c =
    let ns = c.self.inside.ids.items in
    let vs = c.self.inside.values.items in
    let cells = cell_of c.note.new.self in
    let same = c.in_ok-reserve.ensures.items in
    let same-2 = c.in_ok-reserve-2.ensures.items in (
      ap length same ∙ c.self.invariant.0 ∙ sym (ap length same-2),
      subst (λ l. IsPlaced (slots_of l c.reserve-2.new.self.items) cells) (sym same)
          (subst (λ l. IsPlaced (slots_of ns l) cells) (sym same-2)
          (placed_kept (slots_of ns vs) (cell_of c.self.inside.cells) cells c.self.invariant.1 c.args.id (ap (λ l. indexed l c.args.id) c.self.view_is ∙ c.requires) c.note.ensures.kept)),
    )

pushed : {A : Type 0} (b : Bool) (xs ys : List A) (x : A) → b ≡ true → ys ≡ xs → (if b then ys ++ x ∷ [] else ys) ≡ xs ++ x ∷ []
pushed true xs ys x e f = ap (λ l. l ++ x ∷ []) f
pushed false xs ys x e f = absurd (true≢false (sym e))

pub invariant_of-self-2 : goal.invariant_of-self-2
invariant_of-self-2 g c =
    let ids = c.push.ensures.items ∙ pushed (is_ok c.push.result) c.self.inside.ids.items c.reserve.new.self.items c.in-Some.narrow (c.push.ensures.succeeds (omega (arith, c.in_ok-reserve.ensures.ok))) c.in_ok-reserve.ensures.items in
    let values = c.push-2.ensures.items ∙ pushed (is_ok c.push-2.result) c.self.inside.values.items c.reserve-2.new.self.items c.args.value (c.push-2.ensures.succeeds (omega (arith, c.in_ok-reserve-2.ensures.ok))) c.in_ok-reserve-2.ensures.items in
    placed_put c.self.inside.ids.items c.push.new.self.items c.self.inside.values.items c.push-2.new.self.items (cell_of c.self.inside.cells) (cell_of c.note.new.self) c.self.invariant.0 c.self.invariant.1 c.args.id c.in-Some.narrow c.args.value c.in-Some.ensures.some (ap (λ l. indexed l c.args.id) c.self.view_is ∙ c.requires) c.len-i.result (omega (arith, c.len-i.ensures, c.self.inside.ids.ok.0)) (omega (arith, c.if-i-ge4294967295.false)) c.note.ensures.kept (c.in_ok-note.ensures.noted) ids values

pub returns-clause-updates : goal.returns-clause-updates
returns-clause-updates g c q =
    let ids = c.push.ensures.items ∙ pushed (is_ok c.push.result) c.self.inside.ids.items c.reserve.new.self.items c.in-Some.narrow (c.push.ensures.succeeds (omega (arith, c.in_ok-reserve.ensures.ok))) c.in_ok-reserve.ensures.items in
    let values = c.push-2.ensures.items ∙ pushed (is_ok c.push-2.result) c.self.inside.values.items c.reserve-2.new.self.items c.args.value (c.push-2.ensures.succeeds (omega (arith, c.in_ok-reserve-2.ensures.ok))) c.in_ok-reserve-2.ensures.items in
    let updates = updates_put c.self.inside.ids.items c.push.new.self.items c.self.inside.values.items c.push-2.new.self.items (cell_of c.self.inside.cells) (cell_of c.note.new.self) c.self.invariant.0 c.self.invariant.1 c.args.id c.in-Some.narrow c.args.value c.in-Some.ensures.some (ap (λ l. indexed l c.args.id) c.self.view_is ∙ c.requires) c.len-i.result (omega (arith, c.len-i.ensures, c.self.inside.ids.ok.0)) (omega (arith, c.if-i-ge4294967295.false)) c.note.ensures.kept (c.in_ok-note.ensures.noted) ids values in
    updates q ∙ ap (λ l. cond (is_id c.args.id q) (Some c.args.value) (indexed l q)) c.self.view_is
