-- One value written to its slot.
use Rattle.std.proofs.Common.{◌≡◌, ◌≢◌, ◌∙◌, ℕ, zero, suc, true, false, eqb, List, [], ◌∷◌, Option, Some, slice_get, slice_set, refl, sym, ap, arith}
use Rattle.std.proofs.lemmas.Bool.{eqb-true, eqb-false, eq-eqb}
use Rattle.std.proofs.Math.ListN.{length-set}
use Rattle.balise_rules.specs.declared.identity.Id.{Id}
use Rattle.balise_rules.proofs.Cases.{unsome}
use Rattle.balise_rules.proofs.Tests.{split_on}
use Rattle.balise_index.specs.Identities.{Updates}
use Rattle.balise_index.specs.IdentityMap.{IsPlaced}
use Rattle.balise_index.proofs.identities.Slots.{pair, found, not_it, same_under, updates_by}

pub set_it : {A : Type 0} (xs : List A) (i : ℕ) (x s : A) → slice_get xs i ≡ Some s → slice_get (slice_set xs i x) i ≡ Some x
set_it [] i x s e = cc
set_it (y ∷ ys) zero x s e = refl
set_it (y ∷ ys) (suc i) x s e = set_it ys i x s e

pub set_other : {A : Type 0} (xs : List A) (i j : ℕ) (x : A) → i ≢ j → slice_get (slice_set xs i x) j ≡ slice_get xs j
set_other [] i j x n = refl
set_other (y ∷ ys) zero zero x n = absurd (n refl)
set_other (y ∷ ys) zero (suc j) x n = refl
set_other (y ∷ ys) (suc i) zero x n = refl
set_other (y ∷ ys) (suc i) (suc j) x n = set_other ys i j x (λ e. n (ap suc e))

module _ {V : Type 0} (xs : List (Id × V)) (cells : Id → Option ℕ) (at : IsPlaced xs cells) (i : ℕ) (s : Id × V) (here : slice_get xs i ≡ Some s) (w : V) where
  abbrev written : List (Id × V)
  written = slice_set xs i (s.0, w)

  at_it : (j : ℕ) → eqb i j ≡ true → slice_get written j ≡ Some (s.0, w)
  at_it j d = ap (slice_get written) (sym (eqb-true i j d)) ∙ set_it xs i (s.0, w) s here

  elsewhere : (j : ℕ) → eqb i j ≡ false → slice_get written j ≡ slice_get xs j
  elsewhere j d = set_other xs i j (s.0, w) (eqb-false i j d)

  pub placed_set : IsPlaced written cells
  placed_set = record {
    few = omega (arith, at.few, length-set xs i (s.0, w));
    placed = λ j t e. split_on (eqb i j)
        (λ d. let u : pair s.0 w ≡ t = unsome (sym (at_it j d) ∙ e) in ap (λ (z : Id × V). cells z.0) (sym u) ∙ at.placed i s here ∙ ap (λ (k : ℕ). Some k) (eqb-true i j d))
        (λ d. at.placed j t (sym (elsewhere j d) ∙ e));
  }

  pub updates_set : Updates xs written s.0 (Some w)
  updates_set = updates_by xs written s.0 (Some w)
      (found written cells placed_set i (s.0, w) (at_it i (eq-eqb i i refl)))
      (λ q d. same_under written xs cells cells placed_set at q
      (λ j v e. split_on (eqb i j)
      (λ h. let u : pair s.0 w ≡ pair q v = unsome (sym (at_it j h) ∙ e) in absurd (not_it u d))
      (λ h. (j, sym (elsewhere j h) ∙ e)))
      (λ j v e. split_on (eqb i j)
      (λ h. let u : s ≡ pair q v = unsome (sym here ∙ ap (slice_get xs) (eqb-true i j h) ∙ e) in absurd (not_it u d))
      (λ h. (j, elsewhere j h ∙ e))))
