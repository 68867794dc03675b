-- How many numbers pass a test from the first on.
use Rattle.std.proofs.Common.{◌≡◌, ◌∙◌, ◌+◌, ◌≤◌, ◌<◌, ℕ, zero, suc, Bool, true, false, ◌&&◌, cond, List, [], ◌∷◌, All, length, take, drop, refl, ap, arith}
use Rattle.std.specs.List.{list_all, prefix_len}
use Rattle.std.proofs.lemmas.List.{get_or-take, length-take}
use Rattle.std.proofs.lemmas.List.Sums.{prefix_len_passes}

-- the first ones that pass
pub passing : (p : ℕ → Bool) (xs : List ℕ) → All (λ n. p n ≡ true) (take (prefix_len p xs) xs)
passing p xs = λ k d l.
    let m : k < prefix_len p xs = omega (arith, l, length-take (prefix_len p xs) xs) in
    ap p (get_or-take (prefix_len p xs) xs k d m) ∙ prefix_len_passes p xs k d m

-- a whole block that passes
pub block-passes : (p : ℕ → Bool) (n : ℕ) (xs : List ℕ) → n ≤ length xs → list_all p (take n xs) ≡ true → prefix_len p xs ≡ n + prefix_len p (drop n xs)
block-passes p zero xs h all = omega arith
block-passes p (suc n) [] h all = absurd (omega (arith, h))
block-passes p (suc n) (x ∷ xs) h all = by (p x) (list_all p (take n xs)) refl all (block-passes p n xs (omega (arith, h))) where
  by : (b c : Bool) → p x ≡ b → (b && c) ≡ true → (c ≡ true → prefix_len p xs ≡ n + prefix_len p (drop n xs)) → cond b (1 + prefix_len p xs) 0 ≡ suc n + prefix_len p (drop n xs)
  by true c e h rest = let r = rest h in omega (arith, r)
  by false c e h rest = absurd cc
