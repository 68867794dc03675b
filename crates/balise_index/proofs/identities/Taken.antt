-- One slot less, with the last one in its place.
use Rattle.std.proofs.Common.{◌≡◌, ◌≢◌, ◌∙◌, ℕ, zero, suc, ◌-◌, ◌<◌, ◌≤◌, ◌⊎◌, inl, inr, false, eqb, List, [], ◌∷◌, Option, Some, None, length, take, slice_get, slice_set, slice_index_or, refl, sym, ap, arith}
use Rattle.std.specs.List.{swap_remove}
use Rattle.std.proofs.lemmas.Bool.{eqb-true, eqb-false, cases_lt}
use Rattle.std.proofs.lemmas.Option.{slice_get_within, slice_get-get_or}
use Rattle.balise_rules.specs.declared.identity.Id.{Id}
use Rattle.balise_rules.specs.Tags.{same_id}
use Rattle.balise_rules.proofs.Cases.{unsome}
use Rattle.balise_rules.proofs.Tests.{id_test, split_on, other_no}
use Rattle.balise_index.specs.Identities.{Updates}
use Rattle.balise_index.specs.Cells.{KeepsOthers}
use Rattle.balise_index.specs.IdentityMap.{IsPlaced}
use Rattle.balise_index.proofs.identities.Slots.{pair, not_it, unplaced, once, same_under, updates_by}
use Rattle.balise_index.proofs.identities.Written.{set_other, set_it}

take_back : {A : Type 0} (n : ℕ) (xs : List A) (j : ℕ) (t : A) → slice_get (take n xs) j ≡ Some t → (j < n) × (slice_get xs j ≡ Some t)
take_back zero xs j t e = cc
take_back (suc n) [] j t e = cc
take_back (suc n) (y ∷ ys) zero t e = (omega arith, e)
take_back (suc n) (y ∷ ys) (suc j) t e = let h = take_back n ys j t e in (omega (arith, h.0), h.1)

take_front : {A : Type 0} (n : ℕ) (xs : List A) (j : ℕ) → j < n → slice_get (take n xs) j ≡ slice_get xs j
take_front zero xs j h = absurd (omega (arith, h))
take_front (suc n) [] j h = refl
take_front (suc n) (y ∷ ys) zero h = refl
take_front (suc n) (y ∷ ys) (suc j) h = take_front n ys j (omega (arith, h))

module _ {V : Type 0} (xs : List (Id × V)) (cells : Id → Option ℕ) (at : IsPlaced xs cells) (i : ℕ) (s : Id × V) (here : slice_get xs i ≡ Some s) where
  abbrev pub end : ℕ
  end = length xs - 1

  abbrev pub moved : Id × V
  moved = slice_index_or xs end s

  abbrev pub fewer : List (Id × V)
  fewer = swap_remove xs i s

  last : slice_get xs end ≡ Some moved
  last = slice_get-get_or xs end s (let w = slice_get_within xs i s here in omega (arith, w))

  pub moved_here : i < end → slice_get fewer i ≡ Some moved
  moved_here w = take_front end (slice_set xs i moved) i w ∙ set_it xs i moved s here

  apart : (j : ℕ) (t : Id × V) → slice_get xs j ≡ Some t → i ≢ j → same_id s.0 t.0 ≡ false
  apart j t e n = other_no id_test s.0 t.0 (λ k. n (once xs cells at i j s t here e k))

  -- the cell of each other slot still says where it is
  pub left_cell : (left : Id → Option ℕ) → KeepsOthers cells left s.0 → (j : ℕ) (t : Id × V) → slice_get xs j ≡ Some t → i ≢ j → left t.0 ≡ Some j
  left_cell left forgot j t e n = forgot t.0 (apart j t e n) j (at.placed j t e)

  pub moved_cell : (left : Id → Option ℕ) → KeepsOthers cells left s.0 → i < end → left moved.0 ≡ Some end
  moved_cell left forgot w = left_cell left forgot end moved last (λ k. omega (arith, w, k))

  -- by cases: the one that was moved stands there, or what stood there
  stays : {P : Type 0} (j : ℕ) (t : Id × V) → slice_get fewer j ≡ Some t → (j < end → i ≡ j → moved ≡ t → P) → (j < end → i ≢ j → slice_get xs j ≡ Some t → P) → P
  stays j t e f g =
      let h = take_back end (slice_set xs i moved) j t e in
      split_on (eqb i j)
      (λ d. let k = eqb-true i j d in f h.0 k (unsome (sym (set_it xs i moved s here) ∙ ap (slice_get (slice_set xs i moved)) k ∙ h.1)))
      (λ d. let n = eqb-false i j d in g h.0 n (sym (set_other xs i j moved n) ∙ h.1))

  stands : (j : ℕ) (t : Id × V) → slice_get xs j ≡ Some t → i ≢ j → (k : ℕ) × (slice_get fewer k ≡ Some t)
  stands j t e n = by (cases_lt j end)
    where
      by : (j < end) ⊎ (end ≤ j) → (k : ℕ) × (slice_get fewer k ≡ Some t)
      by (inl h) = (j, take_front end (slice_set xs i moved) j h ∙ set_other xs i j moved n ∙ e)
      by (inr h) =
          let w = slice_get_within xs j t e in
          let v = slice_get_within xs i s here in
          let k : end ≡ j = omega (arith, h, w) in
          let f : i < end = by_less (λ m. n (m ∙ k)) (omega (arith, v)) in
          (i, moved_here f ∙ sym last ∙ ap (slice_get xs) k ∙ e)
        where
          by_less : (i ≡ end → ⊥) → i ≤ end → i < end
          by_less n h = split_on (eqb i end) (λ d. absurd (n (eqb-true i end d))) (λ d. let m = eqb-false i end d in omega (arith, m, h))

  pub placed_last : (left : Id → Option ℕ) → KeepsOthers cells left s.0 → length fewer ≤ length xs → end ≤ i → IsPlaced fewer left
  placed_last left forgot short past = record {
    few = omega (arith, short, at.few);
    placed = λ j t e. stays j t e (λ w k m. absurd (omega arith)) (λ w n f. left_cell left forgot j t f n);
  }

  pub placed_moved : (left noted : Id → Option ℕ) → KeepsOthers cells left s.0 → length fewer ≤ length xs → KeepsOthers left noted moved.0 → noted moved.0 ≡ Some i → IsPlaced fewer noted
  placed_moved left noted forgot short kept set = record {
    few = omega (arith, short, at.few);
    placed = λ j t e. stays j t e
        (λ w k m. ap (λ (z : Id × V). noted z.0) (sym m) ∙ set ∙ ap (λ (k : ℕ). Some k) k)
        (λ w n f. kept t.0
        (other_no id_test moved.0 t.0 (λ k. omega (arith, once xs cells at end j moved t last f k)))
        j (left_cell left forgot j t f n));
  }

  pub updates_out : (noted : Id → Option ℕ) → IsPlaced fewer noted → Updates xs fewer s.0 None
  updates_out noted to = updates_by xs fewer s.0 None
      (unplaced fewer noted to s.0 (λ j v e. stays j (pair s.0 v) e
      (λ w k m. omega (arith, once xs cells at end i moved s last here (ap (λ (z : Id × V). z.0) m)))
      (λ w n f. n (once xs cells at i j s (pair s.0 v) here f refl))))
      (λ q d. same_under fewer xs noted cells to at q
      (λ j v e. stays j (pair q v) e (λ w k m. (end, last ∙ ap (λ (z : Id × V). Some z) m)) (λ w n f. (j, f)))
      (λ j v e. stands j (q, v) e (λ k. let u : s ≡ pair q v = unsome (sym here ∙ ap (slice_get xs) k ∙ e) in not_it u d)))
