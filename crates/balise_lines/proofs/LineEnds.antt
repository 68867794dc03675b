-- Where the first line feed stands among bytes, from what a search of a part of them answers.
use Rattle.std.proofs.Common.{◌≡◌, ◌≢◌, ℕ, suc, ◌+◌, ◌≤◌, ◌<◌, List, ◌∷◌, ◌++◌, length, take, drop, get_or, sym, ap, subst, ◌∙◌, arith, take-append-drop, eq-eqb}
use Rattle.std.proofs.lemmas.List.{length-take, length-drop, get_or-drop, get_or-take}
use Rattle.std.proofs.lemmas.List.Elements.{All-append, All-from_get_or}
use Rattle.std.proofs.lemmas.Bool.{eqb-true}
use Rattle.std.proofs.Math.Seq.{drop-cons, take-add}
use Rattle.balise_lines.specs.Lines.{EndsAt, HasNoEnd}
use Rattle.memchr.specs.Find.{NoneBefore, Nowhere, Passes, is_byte}

-- a place with a line feed cuts the bytes there
cut_at : (xs : List ℕ) (n : ℕ) → n < length xs → get_or xs n 0 ≡ 10 → xs ≡ take n xs ++ 10 ∷ drop (suc n) xs
cut_at xs n inside is = sym (take-append-drop n xs) ∙ ap (λ t. take n xs ++ t) (drop-cons xs n 0 inside ∙ ap (λ b. b ∷ drop (suc n) xs) is)

-- no byte below the place passes the search
none_before : (xs : List ℕ) (k : ℕ) → k ≤ length xs → Nowhere (Passes (is_byte 10) xs) 0 k → HasNoEnd (take k xs)
none_before xs k inside nowhere = All-from_get_or (λ b. b ≢ 10) (take k xs) 0 (λ i l is. here i l is)
  where
    here : (i : ℕ) → i < length (take k xs) → get_or (take k xs) i 0 ≡ 10 → ⊥
    here i l is =
        let below : i < k = omega (arith, length-take {A = ℕ}) in
        nowhere i (omega arith) below (eq-eqb (get_or xs i 0) 10 (sym (get_or-take k xs i 0 below) ∙ is))

-- a search after the first n bytes found none
pub none_found : (xs hay : List ℕ) (n : ℕ) → hay ≡ drop n xs → HasNoEnd (take n xs) → Nowhere (Passes (is_byte 10) hay) 0 (length hay) → HasNoEnd xs
none_found xs hay n e front nowhere =
    subst HasNoEnd (take-append-drop n xs) (All-append (λ b. b ≢ 10) (take n xs) (drop n xs) front (subst HasNoEnd e back))
  where
    back : HasNoEnd hay
    back = All-from_get_or (λ b. b ≢ 10) hay 0 (λ k l is. nowhere k (omega arith) l (eq-eqb (get_or hay k 0) 10 is))

-- a search after the first n bytes found one
pub found_at : (xs hay : List ℕ) (n k : ℕ) → hay ≡ drop n xs → HasNoEnd (take n xs) → NoneBefore (Passes (is_byte 10) hay) 0 (length hay) k
    → Passes (is_byte 10) hay k → EndsAt xs (n + k)
found_at xs hay n k e front before passes =
    let within : k < length hay = before.high in
    let size : length hay ≡ length (drop n xs) = ap length e in
    let place : n + k < length xs = omega (arith, length-drop {A = ℕ}) in
    let is : get_or xs (n + k) 0 ≡ 10 = sym (get_or-drop n xs k 0) ∙ ap (λ l. get_or l k 0) (sym e) ∙ eqb-true (get_or hay k 0) 10 passes in
    let back : HasNoEnd (take k (drop n xs)) = subst (λ l. HasNoEnd (take k l)) e (none_before hay k (omega arith) before.before) in
    (place, cut_at xs (n + k) place is, subst HasNoEnd (sym (take-add n k xs)) (All-append (λ b. b ≢ 10) (take n xs) (take k (drop n xs)) front back))
