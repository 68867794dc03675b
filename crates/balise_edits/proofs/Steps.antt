-- A list gone through by place, as far as it goes.
use Rattle.std.proofs.Common.{◌≡◌, ◌∙◌, ◌+◌, ℕ, List, [], ◌∷◌, ◌++◌, drop, take, sym, ap, ⊎_elim, Some, None, slice_get}
use Rattle.std.proofs.lemmas.List.{drop_all, take_more}
use Rattle.std.proofs.lemmas.Option.{get_or_from_slice_get, slice_get_cases, slice_get_within}

pub drop-none : {A : Type 0} → (xs : List A) → (i : ℕ) → slice_get xs i ≡ None → drop i xs ≡ []
drop-none xs i e = ⊎_elim (λ w. absurd (let k : None ≡ Some w.0 = sym e ∙ w.2 in cc)) (λ w. drop_all i xs w.0) (slice_get_cases xs i).1

pub take-more : {A : Type 0} → (xs : List A) → (i : ℕ) → (x : A) → slice_get xs i ≡ Some x → take (i + 1) xs ≡ take i xs ++ x ∷ []
take-more xs i x e = take_more xs i x (slice_get_within xs i x e) ∙ ap (λ y. take i xs ++ y ∷ []) (get_or_from_slice_get xs i x x e)
