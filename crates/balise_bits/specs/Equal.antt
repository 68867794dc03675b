-- When two lists of bits are the same, as a test.
use Rattle.std.specs.Prelude.{◌≡◌, Bool, true, false, List, [], ◌∷◌, refl}
use Rattle.std.specs.Cmp.{IsEquivalence, both_ways}
use Rattle.std.proofs.Common.{ap, sym, ◌∙◌}

unfoldable pub bits_eq : List Bool → List Bool → Bool
bits_eq [] [] = true
bits_eq (true ∷ xs) (true ∷ ys) = bits_eq xs ys
bits_eq (false ∷ xs) (false ∷ ys) = bits_eq xs ys
bits_eq _ _ = false

-- the test holds of equal lists alone
pub bits_eq-true : (a b : List Bool) → bits_eq a b ≡ true → a ≡ b
unfolding bits_eq
bits_eq-true [] [] e = refl
bits_eq-true [] (true ∷ ys) e = cc e
bits_eq-true [] (false ∷ ys) e = cc e
bits_eq-true (true ∷ xs) [] e = cc e
bits_eq-true (false ∷ xs) [] e = cc e
bits_eq-true (true ∷ xs) (true ∷ ys) e = ap (λ (l : List Bool). true ∷ l) (bits_eq-true xs ys e)
bits_eq-true (true ∷ xs) (false ∷ ys) e = cc e
bits_eq-true (false ∷ xs) (true ∷ ys) e = cc e
bits_eq-true (false ∷ xs) (false ∷ ys) e = ap (λ (l : List Bool). false ∷ l) (bits_eq-true xs ys e)

pub bits_eq-self : (a : List Bool) → bits_eq a a ≡ true
unfolding bits_eq
bits_eq-self [] = refl
bits_eq-self (true ∷ xs) = bits_eq-self xs
bits_eq-self (false ∷ xs) = bits_eq-self xs

pub bits_eq-same : (a b : List Bool) → a ≡ b → bits_eq a b ≡ true
bits_eq-same a b e = ap (bits_eq a) (sym e) ∙ bits_eq-self a

-- it is an equality
pub bits_eq_laws : IsEquivalence bits_eq
bits_eq_laws = record {
  refl = bits_eq-self;
  symm = λ x y. both_ways (bits_eq x y) (bits_eq y x) (λ e. bits_eq-same y x (sym (bits_eq-true x y e))) (λ e. bits_eq-same x y (sym (bits_eq-true y x e)));
  congr = λ x y z e. ap (λ (l : List Bool). bits_eq l z) (bits_eq-true x y e);
}
