use Rattle.std.proofs.Common.{ℕ, List, refl, arith, rules}
use Rattle.balise_bits.proofs.Refilled.{take-refill}
use Rattle.balise_bits.proofs.store.Small.as_mut_slice.Goals as goal

pub returns : goal.returns
returns c =
    let inside = c.self.inside in
    let refilled = λ (w : List ℕ). take-refill inside.count inside.cells.xs w (omega arith) in (
      (refl, λ w. rw (← c.self.view_is) (λ i. record { items = refilled w i })),
      record { writes_back = tt; value = search rules },
    )
