-- Each field begins where the ones before it end.
use Rattle.std.proofs.Common.{◌∙◌, ◌++◌, ◌∷◌, [], ℕ, List, ap, sym, take, get_or, arith}
use Rattle.balise_rules.specs.declared.variable.Var.TheVariants.{NidPacket}
use Rattle.balise_layout.specs.Collected.{keyed, all_keyed}
use Rattle.balise_codec.specs.Places.{placed}
use Rattle.balise_codec.specs.declared.placed.Placed.{Placed}
use Rattle.balise_codec.proofs.Placing.{one_more, placed_at, spelling-none}
use Rattle.balise_codec.proofs.placed.place_all.Goals as goal

pub loop-i-init : goal.loop-i-init
loop-i-init c = (c.new-placed.ensures.items, omega (arith, spelling-none))

pub overflow_add-next : goal.overflow_add-next
overflow_add-next c =
    let m = one_more c.args.at c.loop-i.i c.args.fields.now (NidPacket, 0, 0) c.loop-i-test.true in
    omega (arith, c.requires, c.loop-i.invariant.1, m.within, c.width.ensures.width)

pub loop-i-preserved : goal.loop-i-preserved
loop-i-preserved c =
    let x = get_or c.args.fields.now c.loop-i.i (NidPacket, 0, 0) in
    let m = one_more c.args.at c.loop-i.i c.args.fields.now (NidPacket, 0, 0) c.loop-i-test.true in
    let s = c.loop-i.invariant in (
      c.in_ok-push.ensures.items ∙ ap (λ (l : List Placed). l ++ placed_at c.loop-i.next (keyed x) ∷ []) s.0 ∙ ap (λ (k : ℕ). placed c.args.at (all_keyed (take c.loop-i.i c.args.fields.now)) ++ placed_at k (keyed x) ∷ []) s.1 ∙ sym m.placed,
      omega (arith, s.1, m.next, c.width.ensures.width),
    )
