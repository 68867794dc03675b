-- How the count of failed calls goes on.
use Rattle.std.specs.Prelude.{◌≡◌, ℕ, ◌+◌, ◌-◌, ◌<◌, ◌^◌, min, List, length, Result, MatchResult}

-- one more, up to the largest `u64`
abbrev pub one_more : ℕ → ℕ
one_more n = min (n + 1) (2 ^ 64 - 1)

-- an error counts, and nothing else
abbrev pub Counts : {A E : Type 0} → ℕ → ℕ → Result A E → Type 0
Counts old new r = MatchResult r (λ _. new ≡ old) (λ _. new ≡ one_more old)

-- an error counts, and so does a write of some bytes that took none
abbrev pub CountsWrite : {E : Type 0} → ℕ → ℕ → Result ℕ E → List ℕ → Type 0
CountsWrite old new r buf =
    MatchResult r (λ n. (0 < n → new ≡ old) × (length buf ≡ 0 → new ≡ old) × (n ≡ 0 → 0 < length buf → new ≡ one_more old))
    (λ _. new ≡ one_more old)
