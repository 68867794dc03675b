-- A change of one item, as the code makes it at its place in a list or under its key in a map.
use Rattle.std.proofs.Common.{◌≡◌, ℕ, Bool, cond, List, Some, None, position, refl, sym, ◌∙◌, ap, slice_set, get_or, zero, suc, ◌<◌, [], ◌∷◌, length, arith}
use Rattle.balise_rules.specs.Tagged.{find, each, Distinct}
use Rattle.balise_rules.proofs.Tests.{IsTest}
use Rattle.balise_rules.proofs.Each.{each-absent}
use Rattle.balise_telegram.proofs.Turning.{each_to}
use Rattle.balise_plan.specs.Within.{Within, Absent, Changed}
use Rattle.balise_plan.proofs.items.Places.{at-position, none-position, at-lookup, set-each}

-- the item x of a key stands at a place, where the code found it
pub record Standing {K X : Type 0} (same : K → K → Bool) (k : K) (xs old : List (K × X)) (x : X) : Type 0 where
  pub view : xs ≡ old
  pub place : ℕ
  pub key : K
  pub found : Some place ≡ position (λ q. same k q.0) xs
  pub is : (key, x) ≡ get_or xs place (key, x)

module _ {K X : Type 0} {same : K → K → Bool} (t : IsTest same) {k : K} {xs old : List (K × X)} {x : X} (s : Standing same k xs old x) where
  pub found_at : find same k old ≡ Some x
  found_at = ap (find same k) (sym s.view) ∙ at-lookup (same k) xs s.place (s.key, x) (at-position (same k) xs s.place (sym s.found)) ∙ ap (λ z. Some z.1) (sym s.is)

  pub each_at : Distinct same xs → (f : X → X) (y : X) → y ≡ f x → slice_set xs s.place (s.key, y) ≡ each (λ q z. cond (same k q) (f z) z) old
  each_at u f y w = set-each t k f xs s.place (s.key, x) y u (at-position (same k) xs s.place (sym s.found)) s.is w ∙ ap (each (λ q z. cond (same k q) (f z) z)) s.view

  pub at_place : {B : Type 0} → Distinct same xs → (none : B) (R : X → B → X → Type 0) (r : B) (y : X) → R x r y → Within same k none R old r (slice_set xs s.place (s.key, y))
  at_place u none R r y c = Changed x y found_at c (each_at u (λ _. y) y refl)

-- no item of the key stands in the list
module _ {K X : Type 0} (same : K → K → Bool) (k : K) (xs old : List (K × X)) (v : xs ≡ old) (e : None ≡ position (λ q. same k q.0) xs) where
  pub found_none : find same k old ≡ None
  found_none = ap (find same k) (sym v) ∙ none-position (same k) xs (sym e)

  pub at_none : {B : Type 0} (none : B) (R : X → B → X → Type 0) → Within same k none R old none old
  at_none none R = Absent found_none refl refl

  pub absent_at : (f : X → X) → each (λ q x. cond (same k q) (f x) x) old ≡ old
  absent_at f = each-absent same k f old found_none

-- ---- A list changed item by item

-- the next item still is the old one, and a write there is one step more
pub each-step : {K A : Type 0} (f : K → A → A) (i : ℕ) (xs : List (K × A)) (d : K × A) (w : A) → i < length xs → d ≡ get_or (each_to f i xs) i d → w ≡ f d.0 d.1 → slice_set (each_to f i xs) i (d.0, w) ≡ each_to f (suc i) xs
each-step f i [] d w h e q = absurd (omega (arith, h))
each-step f zero (y ∷ ys) d w h e q = rw (q, e) refl
each-step f (suc i) (y ∷ ys) d w h e q = ap (λ r. (y.0, f y.0 y.1) ∷ r) (each-step f i ys d w (omega (arith, h)) e q)
