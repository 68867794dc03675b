-- The tag at a place of a list is that of the item there.
use Rattle.std.proofs.Common.{◌≡◌, ◌∙◌, ◌<◌, ℕ, zero, suc, List, [], ◌∷◌, length, get_or, refl, sym, ap, subst, arith}
use Rattle.balise_plan.specs.OneOrMore.{tag_at}

pub tag_is : {T : Type 0} (xs : List (ℕ × T)) (i : ℕ) (d : ℕ × T) → i < length xs → tag_at xs i ≡ (get_or xs i d).0
tag_is [] i d h = absurd (omega (arith, h))
tag_is (x ∷ xs) zero d h = refl
tag_is (x ∷ xs) (suc i) d h = tag_is xs i d (omega (arith, h))

pub item_there : {T : Type 0} (xs : List (ℕ × T)) (i : ℕ) (d : ℕ × T) → i < length xs → d ≡ get_or xs i d → (tag_at xs i, d.1) ≡ get_or xs i (tag_at xs i, d.1)
item_there xs i d h e = subst (λ k. (k, d.1) ≡ get_or xs i (k, d.1)) (ap (λ q. q.0) e ∙ sym (tag_is xs i d h)) e
