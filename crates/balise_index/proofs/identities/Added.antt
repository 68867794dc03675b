-- One slot more at the end.
use Rattle.std.proofs.Common.{◌≡◌, ◌∙◌, ℕ, zero, suc, ◌<◌, false, List, [], ◌∷◌, ◌++◌, Option, Some, None, length, slice_get, refl, sym, ap, arith, length-append}
use Rattle.balise_rules.specs.declared.identity.Id.{Id}
use Rattle.balise_rules.specs.Tags.{same_id}
use Rattle.balise_rules.proofs.Cases.{unsome}
use Rattle.balise_rules.proofs.Tests.{id_test, split_keys}
use Rattle.balise_index.specs.Identities.{indexed, Updates}
use Rattle.balise_index.specs.Cells.{KeepsOthers}
use Rattle.balise_index.specs.IdentityMap.{IsPlaced}
use Rattle.balise_index.proofs.identities.Slots.{pair, none_some, found, not_it, same_under, updates_by}

push_old : {A : Type 0} (xs : List A) (x s : A) (j : ℕ) → slice_get xs j ≡ Some s → slice_get (xs ++ x ∷ []) j ≡ Some s
push_old [] x s j e = cc
push_old (y ∷ ys) x s zero e = e
push_old (y ∷ ys) x s (suc j) e = push_old ys x s j e

push_new : {A : Type 0} (xs : List A) (x : A) → slice_get (xs ++ x ∷ []) (length xs) ≡ Some x
push_new [] x = refl
push_new (y ∷ ys) x = push_new ys x

-- by cases: it stood there, or it is the new one
push_cases : {A P : Type 0} (xs : List A) (x s : A) (j : ℕ) → slice_get (xs ++ x ∷ []) j ≡ Some s → (slice_get xs j ≡ Some s → P) → (j ≡ length xs → x ≡ s → P) → P
push_cases [] x s zero e f g = g refl (unsome e)
push_cases [] x s (suc j) e f g = absurd cc
push_cases (y ∷ ys) x s zero e f g = f e
push_cases (y ∷ ys) x s (suc j) e f g = push_cases ys x s j e f (λ k. g (ap suc k))

-- cells that say of each other identity what they did
module _ {V : Type 0} (xs : List (Id × V)) (cells noted : Id → Option ℕ) (at : IsPlaced xs cells) (id : Id) (free : indexed xs id ≡ None) (kept : KeepsOthers cells noted id) where
  another : (j : ℕ) (s : Id × V) → slice_get xs j ≡ Some s → same_id id s.0 ≡ false
  another j s e = split_keys id_test id s.0 (λ d k. absurd (none_some free (ap (indexed xs) k ∙ found xs cells at j s e))) (λ d. d)

  pub placed_kept : IsPlaced xs noted
  placed_kept = record { few = at.few; placed = λ j s e. kept s.0 (another j s e) j (at.placed j s e) }

module _ {V : Type 0} (xs : List (Id × V)) (cells noted : Id → Option ℕ) (at : IsPlaced xs cells) (id : Id) (value : V) (free : indexed xs id ≡ None) (room : length xs < 4294967295)
    (kept : KeepsOthers cells noted id) (set : noted id ≡ Some (length xs)) where
  abbrev put : Id × V
  put = (id, value)

  abbrev more : List (Id × V)
  more = xs ++ put ∷ []

  pub placed_push : IsPlaced more noted
  placed_push = record {
    few = omega (arith, room, length-append xs ((id, value) ∷ []));
    placed = λ j s e. push_cases xs put s j e
        ((placed_kept xs cells noted at id free kept).placed j s)
        (λ k m. ap (λ (z : Id × V). noted z.0) (sym m) ∙ set ∙ ap (λ (n : ℕ). Some n) (sym k));
  }

  pub updates_push : Updates xs more id (Some value)
  updates_push = updates_by xs more id (Some value)
      (found more noted placed_push (length xs) put (push_new xs put))
      (λ q d. same_under more xs noted cells placed_push at q
      (λ j v e. push_cases xs put (pair q v) j e (λ h. (j, h)) (λ k m. absurd (not_it m d)))
      (λ j v e. (j, push_old xs put (q, v) j e)))
