-- A list that is changed item by item, in order.
use Rattle.std.proofs.Common.{◌≡◌, ◌<◌, ◌+◌, ◌∙◌, ℕ, suc, List, ◌++◌, length, get_or, map, take, drop, set, refl, ap, arith}
use Rattle.std.proofs.lemmas.List.{append-nil, drop-set-lt, drop_all, get_or_default, length-append, length-drop, length-map, length-take, take-set, take_all}
use Rattle.std.proofs.lemmas.List.Edits.{map_over_more}

-- what an item was changed to is nothing to the others
pub others-left : {A : Type 0} (xs : List A) (i : ℕ) (x : A) → take i (set xs i x) ++ drop (suc i) (set xs i x) ≡ take i xs ++ drop (suc i) xs
others-left xs i x = rw (take-set, drop-set-lt (suc i) xs i x (omega arith)) refl

module _ {A : Type 0} (f : A → A) where
  -- the first items were changed, and the others not yet
  abbrev pub changed_up_to : ℕ → List A → List A
  changed_up_to i xs = map f (take i xs) ++ drop i xs

  pub all-changed : (xs : List A) (i : ℕ) → length xs ≡ i → changed_up_to i xs ≡ map f xs
  all-changed xs i e = ap (λ ys. map f ys ++ drop i xs) (take_all i xs (omega (arith, e))) ∙ ap (λ ys. map f xs ++ ys) (drop_all i xs (omega (arith, e))) ∙ append-nil (map f xs)

  pub one-more : (xs ys : List A) (i : ℕ) (d x : A) → ys ≡ changed_up_to i xs → i < length xs → x ≡ f (get_or ys i d) → set ys i x ≡ changed_up_to (i + 1) xs
  one-more xs ys i d x e l q =
      let within : i < length ys = omega (arith, l, ap (λ zs. length zs) e, length-append (map f (take i xs)) (drop i xs), length-map (take i xs) f, length-take i xs, length-drop i xs) in
      ap (set ys i) q ∙ map_over_more f xs ys i (get_or ys i d) l e (get_or_default ys i d (get_or ys i d) within)
