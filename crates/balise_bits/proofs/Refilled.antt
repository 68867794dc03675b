-- A list that others were written over.
use Rattle.std.proofs.Common.{◌≡◌, ℕ, ◌≤◌, List, length, take, arith, rules, length-take-le}
use Rattle.std.proofs.lemmas.List.{same_lists, places}
use Rattle.std.proofs.lemmas.Bool.{cases_lt}
use Rattle.std.specs.List.{refill}

-- the first items of a refilled list are the refilled first items
pub take-refill : (n : ℕ) (xs ws : List ℕ) → n ≤ length xs → take n (refill (length xs) xs ws) ≡ refill (length (take n xs)) (take n xs) ws
take-refill n xs ws le =
    let cut = length-take-le n xs le in
    same_lists _ _ (search (rules, places)) (λ k d h. grind (arith, places, cases_lt k (length ws)))
