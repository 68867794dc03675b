-- Slots, and the cells that say where they are.
use Rattle.std.proofs.Common.{◌≡◌, ◌∙◌, ℕ, zero, suc, true, false, List, [], ◌∷◌, Option, Some, None, length, option_map, slice_get, refl, sym, ap, arith}
use Rattle.std.specs.Option.{is_some}
use Rattle.std.proofs.lemmas.Bool.{true≢false, cond_both}
use Rattle.std.proofs.lemmas.Option.{slice_get_past}
use Rattle.std.proofs.lemmas.Map.Entries.{place_from_lookup}
use Rattle.balise_rules.specs.declared.identity.Id.{Id}
use Rattle.balise_rules.specs.Tags.{same_id}
use Rattle.balise_rules.proofs.Cases.{unsome, found as by_option}
use Rattle.balise_rules.proofs.Tests.{id_test, equal_yes, split_on}
use Rattle.balise_index.specs.Identities.{indexed, Updates}
use Rattle.balise_index.specs.IdentityMap.{IsPlaced}

abbrev pub pair : {V : Type 0} → Id → V → Id × V
pair q v = (q, v)

pub none_some : {A : Type 0} {o : Option A} {x : A} → o ≡ None → o ≡ Some x → ⊥
none_some n s = let e = sym n ∙ s in cc

is_there : {V : Type 0} (xs : List (Id × V)) (i : ℕ) (s : Id × V) → slice_get xs i ≡ Some s → is_some (indexed xs s.0) ≡ true
is_there [] i s e = cc
is_there (x ∷ xs) zero s e = let d : same_id s.0 x.0 ≡ true = ap (λ (u : Id × _). same_id s.0 u.0) (unsome e) ∙ id_test.itself s.0 in simp d refl
is_there (x ∷ xs) (suc i) s e = split_on (same_id s.0 x.0) (λ d. simp d refl) (λ d. simp d (is_there xs i s e))

module _ {V : Type 0} (xs : List (Id × V)) (cells : Id → Option ℕ) (at : IsPlaced xs cells) where
  -- each identity stands once
  pub once : (i j : ℕ) (s t : Id × V) → slice_get xs i ≡ Some s → slice_get xs j ≡ Some t → s.0 ≡ t.0 → i ≡ j
  once i j s t e f d = unsome (sym (at.placed i s e) ∙ ap cells d ∙ at.placed j t f)

  pub found : (i : ℕ) (s : Id × V) → slice_get xs i ≡ Some s → indexed xs s.0 ≡ Some s.1
  found i s e =
      by_option (indexed xs s.0)
      (λ n. absurd (true≢false (sym (is_there xs i s e) ∙ ap is_some n)))
      (λ w h.
      let p = place_from_lookup (same_id s.0) xs w h in
      let k : s.0 ≡ p.1 = id_test.one s.0 p.1 p.3 in
      let same : p.0 ≡ i = once p.0 i (p.1, w) s p.2 e (sym k) in
      let both = sym p.2 ∙ ap (slice_get xs) same ∙ e in
      h ∙ ap (λ (u : Id × V). Some u.1) (unsome both))

  pub standing : (q : Id) (v : V) → indexed xs q ≡ Some v → (i : ℕ) × (slice_get xs i ≡ Some (q, v))
  standing q v h =
      let p = place_from_lookup (same_id q) xs v h in
      (p.0, p.2 ∙ ap (λ (k : Id). Some (k, v)) (sym (id_test.one q p.1 p.3)))

  pub unplaced : (q : Id) → ((i : ℕ) (v : V) → slice_get xs i ≡ Some (q, v) → ⊥) → indexed xs q ≡ None
  unplaced q h = by_option (indexed xs q) (λ n. n) (λ v e. let p = standing q v e in absurd (h p.0 v p.1))

  -- what `place` returns
  pub place_end : (q : Id) (n : ℕ) → n ≡ length xs → indexed xs q ≡ None → slice_get xs n ≡ option_map (λ (v : V). (q, v)) (indexed xs q)
  place_end q n e h = slice_get_past xs n (omega (arith, e)) ∙ ap (option_map (λ (v : V). (q, v))) (sym h)

  pub place_there : (q : Id) (i : ℕ) (s : Id × V) → slice_get xs i ≡ Some s → s.0 ≡ q → slice_get xs i ≡ option_map (λ (v : V). (q, v)) (indexed xs q)
  place_there q i s e d = e ∙ ap (λ (k : Id). Some (k, s.1)) d ∙ ap (option_map (λ (v : V). (q, v))) (sym (found i s e) ∙ ap (indexed xs) d)

-- two lists that have the same under an identity
pub same_under : {V : Type 0} (xs ys : List (Id × V)) (cells noted : Id → Option ℕ) → IsPlaced xs cells → IsPlaced ys noted → (q : Id) →
    ((i : ℕ) (v : V) → slice_get xs i ≡ Some (q, v) → (j : ℕ) × (slice_get ys j ≡ Some (q, v))) →
    ((i : ℕ) (v : V) → slice_get ys i ≡ Some (q, v) → (j : ℕ) × (slice_get xs j ≡ Some (q, v))) → indexed xs q ≡ indexed ys q
same_under xs ys cells noted at to q forth back =
    by_option (indexed xs q)
    (λ n. n ∙ sym (unplaced ys noted to q (λ i v e. let b = back i v e in none_some n (found xs cells at b.0 (q, v) b.1))))
    (λ v e. let p = standing xs cells at q v e in let f = forth p.0 v p.1 in e ∙ sym (found ys noted to f.0 (q, v) f.1))

-- a slot with another value under one identity, and with the same under each other
pub updates_by : {V : Type 0} (xs ys : List (Id × V)) (i : Id) (r : Option V) → indexed ys i ≡ r → ((q : Id) → same_id i q ≡ false → indexed ys q ≡ indexed xs q) → Updates xs ys i r
updates_by xs ys i r here others q = cond_both (same_id i q) r (indexed xs q) (λ o. indexed ys q ≡ o) (λ d. ap (indexed ys) (sym (id_test.one i q d)) ∙ here) (others q)

-- one identity isn't another one
pub not_it : {V : Type 0} {s t : Id × V} → s ≡ t → same_id s.0 t.0 ≡ false → ⊥
not_it {s = s} {t} e d = true≢false (sym (equal_yes id_test s.0 t.0 (ap (λ (z : Id × _). z.0) e)) ∙ d)

pub at_place : {V : Type 0} (xs : List (Id × V)) (q : Id) (s : Id × V) → Some s ≡ option_map (λ (v : V). (q, v)) (indexed xs q) → (s.0 ≡ q) × (indexed xs q ≡ Some s.1)
at_place {V} xs q s e = by (indexed xs q) e
  where
    by : (o : Option V) → Some s ≡ option_map (λ (v : V). (q, v)) o → (s.0 ≡ q) × (o ≡ Some s.1)
    by None h = cc
    by (Some v) h = let k = unsome h in (ap (λ (z : Id × V). z.0) k, ap (λ (z : Id × V). Some z.1) (sym k))

pub no_place : {V : Type 0} (xs : List (Id × V)) (q : Id) → is_some (option_map (pair q) (indexed xs q)) ≡ false → indexed xs q ≡ None
no_place {V} xs q e = by (indexed xs q) e
  where
    by : (o : Option V) → is_some (option_map (pair q) o) ≡ false → o ≡ None
    by None h = refl
    by (Some v) h = absurd (true≢false h)
