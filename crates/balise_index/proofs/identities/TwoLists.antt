-- Slots held as two lists: what a change of the lists is to the slots.
use Rattle.std.proofs.Common.{◌≡◌, ◌∙◌, ℕ, zero, suc, ◌-◌, true, ltb, List, [], ◌∷◌, ◌++◌, Option, Some, None, length, take, option_map, slice_get, slice_set, slice_index_or, refl, sym, ap, arith, subst}
use Rattle.std.specs.List.{swap_remove}
use Rattle.std.specs.Option.{is_some, IfSome}
use Rattle.std.proofs.lemmas.Bool.{true≢false, ltb-true, ltb-false}
use Rattle.std.proofs.lemmas.Option.{slice_get_past, slice_get_read}
use Rattle.balise_rules.specs.declared.identity.Id.{Id}
use Rattle.balise_rules.proofs.Cases.{unsome, found as by_option}
use Rattle.balise_index.specs.declared.identity_map.narrow.Narrow.{Narrow}
use Rattle.balise_index.specs.Identities.{indexed, Updates}
use Rattle.balise_index.specs.IdentityMap.{IsPlaced}
use Rattle.balise_index.specs.Narrow.{wide, slots_of}
use Rattle.balise_index.proofs.identities.Slots.{at_place}
use Rattle.balise_index.proofs.identities.Written.{placed_set, updates_set}

pub length_slots : {V : Type 0} (ns : List Narrow) (vs : List V) → length ns ≡ length vs → length (slots_of ns vs) ≡ length ns
length_slots [] vs e = refl
length_slots (n ∷ ns) [] e = cc
length_slots (n ∷ ns) (v ∷ vs) e = ap suc (length_slots ns vs (omega (arith, e)))

pub get_slot : {V : Type 0} (ns : List Narrow) (vs : List V) (i : ℕ) (n : Narrow) (v : V) → slice_get ns i ≡ Some n → slice_get vs i ≡ Some v → slice_get (slots_of ns vs) i ≡ Some (wide n, v)
get_slot [] vs i n v e f = cc
get_slot (m ∷ ns) [] i n v e f = cc
get_slot (m ∷ ns) (w ∷ vs) zero n v e f = ap (λ k. Some (wide k, w)) (unsome e) ∙ ap (λ u. Some (wide n, u)) (unsome f)
get_slot (m ∷ ns) (w ∷ vs) (suc i) n v e f = get_slot ns vs i n v e f

-- each slot has a value
pub slot_value : {V : Type 0} (ns : List Narrow) (vs : List V) (i : ℕ) (n : Narrow) → length ns ≡ length vs → slice_get ns i ≡ Some n → (v : V) × (slice_get vs i ≡ Some v)
slot_value [] vs i n e f = cc
slot_value (m ∷ ns) [] i n e f = cc
slot_value (m ∷ ns) (w ∷ vs) zero n e f = (w, refl)
slot_value (m ∷ ns) (w ∷ vs) (suc i) n e f = slot_value ns vs i n (omega (arith, e)) f

pub slot_there : {V : Type 0} (ns : List Narrow) (vs : List V) (i : ℕ) (n : Narrow) → length ns ≡ length vs → slice_get ns i ≡ Some n → (v : V) × (slice_get (slots_of ns vs) i ≡ Some (wide n, v))
slot_there ns vs i n e f = let v = slot_value ns vs i n e f in (v.0, get_slot ns vs i n v.0 f v.1)

-- and each value a slot
pub slot_identity : {V : Type 0} (ns : List Narrow) (vs : List V) (i : ℕ) (v : V) → length ns ≡ length vs → slice_get vs i ≡ Some v → (n : Narrow) × (slice_get ns i ≡ Some n)
slot_identity ns [] i v e f = cc
slot_identity [] (w ∷ vs) i v e f = cc
slot_identity (m ∷ ns) (w ∷ vs) zero v e f = (m, refl)
slot_identity (m ∷ ns) (w ∷ vs) (suc i) v e f = slot_identity ns vs i v (omega (arith, e)) f

value_in : {V : Type 0} (ns : List Narrow) (vs : List V) (i : ℕ) → length ns ≡ length vs → slice_get vs i ≡ option_map (λ (s : Id × V). s.1) (slice_get (slots_of ns vs) i)
value_in [] [] i e = refl
value_in [] (w ∷ vs) i e = cc
value_in (m ∷ ns) [] i e = cc
value_in (m ∷ ns) (w ∷ vs) zero e = refl
value_in (m ∷ ns) (w ∷ vs) (suc i) e = value_in ns vs i (omega (arith, e))

second : {V : Type 0} (q : Id) (o : Option V) → option_map (λ (s : Id × V). s.1) (option_map (λ (v : V). (q, v)) o) ≡ o
second q None = refl
second q (Some v) = refl

-- the value in a slot, where the slot is known
pub value_there : {V : Type 0} (ns : List Narrow) (vs : List V) (i : ℕ) (q : Id) (o : Option V) → length ns ≡ length vs → slice_get (slots_of ns vs) i ≡ option_map (λ (v : V). (q, v)) o → slice_get vs i ≡ o
value_there ns vs i q o e f = value_in ns vs i e ∙ ap (option_map (λ (s : Id × _). s.1)) f ∙ second q o

pub slots_push : {V : Type 0} (ns : List Narrow) (vs : List V) (n : Narrow) (v : V) → length ns ≡ length vs → slots_of (ns ++ n ∷ []) (vs ++ v ∷ []) ≡ slots_of ns vs ++ (wide n, v) ∷ []
slots_push [] [] n v e = refl
slots_push [] (w ∷ vs) n v e = cc
slots_push (m ∷ ns) [] n v e = cc
slots_push (m ∷ ns) (w ∷ vs) n v e = ap (λ l. (wide m, w) ∷ l) (slots_push ns vs n v (omega (arith, e)))

pub slots_set : {V : Type 0} (ns : List Narrow) (vs : List V) (i : ℕ) (n : Narrow) (w : V) → slice_get ns i ≡ Some n → slots_of ns (slice_set vs i w) ≡ slice_set (slots_of ns vs) i (wide n, w)
slots_set [] vs i n w e = cc
slots_set (m ∷ ns) [] i n w e = refl
slots_set (m ∷ ns) (v ∷ vs) zero n w e = ap (λ k. (wide k, w) ∷ slots_of ns vs) (unsome e)
slots_set (m ∷ ns) (v ∷ vs) (suc i) n w e = ap (λ l. (wide m, v) ∷ l) (slots_set ns vs i n w e)

set_both : {V : Type 0} (ns : List Narrow) (vs : List V) (i : ℕ) (n : Narrow) (w : V) → slots_of (slice_set ns i n) (slice_set vs i w) ≡ slice_set (slots_of ns vs) i (wide n, w)
set_both [] vs i n w = refl
set_both (m ∷ ns) [] zero n w = refl
set_both (m ∷ ns) [] (suc i) n w = refl
set_both (m ∷ ns) (v ∷ vs) zero n w = refl
set_both (m ∷ ns) (v ∷ vs) (suc i) n w = ap (λ l. (wide m, v) ∷ l) (set_both ns vs i n w)

take_both : {V : Type 0} (k : ℕ) (ns : List Narrow) (vs : List V) → slots_of (take k ns) (take k vs) ≡ take k (slots_of ns vs)
take_both zero ns vs = refl
take_both (suc k) [] vs = refl
take_both (suc k) (m ∷ ns) [] = refl
take_both (suc k) (m ∷ ns) (v ∷ vs) = ap (λ l. (wide m, v) ∷ l) (take_both k ns vs)

read_both : {V : Type 0} (ns : List Narrow) (vs : List V) (j : ℕ) (n : Narrow) (v : V) → length ns ≡ length vs → (wide (slice_index_or ns j n), slice_index_or vs j v) ≡ slice_index_or (slots_of ns vs) j (wide n, v)
read_both [] [] j n v e = refl
read_both [] (w ∷ vs) j n v e = cc
read_both (m ∷ ns) [] j n v e = cc
read_both (m ∷ ns) (w ∷ vs) zero n v e = refl
read_both (m ∷ ns) (w ∷ vs) (suc j) n v e = read_both ns vs j n v (omega (arith, e))

pub slots_swap_remove : {V : Type 0} (ns : List Narrow) (vs : List V) (i : ℕ) (n : Narrow) (v : V) → length ns ≡ length vs → slots_of (swap_remove ns i n) (swap_remove vs i v) ≡ swap_remove (slots_of ns vs) i (wide n, v)
slots_swap_remove ns vs i n v e =
    let a = slice_index_or ns (length ns - 1) n in
    let b = slice_index_or vs (length ns - 1) v in
    ap (λ k. slots_of (take (length ns - 1) (slice_set ns i a)) (take (k - 1) (slice_set vs i (slice_index_or vs (k - 1) v)))) (sym e)
    ∙ take_both (length ns - 1) (slice_set ns i a) (slice_set vs i b)
    ∙ ap (take (length ns - 1)) (set_both ns vs i a b ∙ ap (slice_set (slots_of ns vs) i) (read_both ns vs (length ns - 1) n v e))
    ∙ ap (λ k. take (k - 1) (slice_set (slots_of ns vs) i (slice_index_or (slots_of ns vs) (k - 1) (wide n, v)))) (sym (length_slots ns vs e))

-- what a read of a list returns
pub item_read : {A B : Type 0} (f : B → A) (xs : List A) (i : ℕ) (r : Option B) → is_some r ≡ ltb i (length xs) → IfSome r (λ x. f x ≡ slice_index_or xs i (f x)) → option_map f r ≡ slice_get xs i
item_read f xs i None e h = sym (slice_get_past xs i (ltb-false i (length xs) (sym e)))
item_read f xs i (Some x) e h = sym (slice_get_read xs (length xs) i (f x) refl (ltb-true i (length xs) (sym e)) h)

set_past : {A : Type 0} (xs : List A) (i : ℕ) (x : A) → slice_get xs i ≡ None → slice_set xs i x ≡ xs
set_past [] i x e = refl
set_past (y ∷ ys) zero x e = cc
set_past (y ∷ ys) (suc i) x e = ap (λ l. y ∷ l) (set_past ys i x e)

-- one value written
module _ {V : Type 0} (ns : List Narrow) (vs : List V) (cells : Id → Option ℕ) (same : length ns ≡ length vs) (at : IsPlaced (slots_of ns vs) cells) (i : ℕ) (w : V) where
  pub placed_written : IsPlaced (slots_of ns (slice_set vs i w)) cells
  placed_written =
      by_option (slice_get vs i)
      (λ n. subst (λ l. IsPlaced (slots_of ns l) cells) (sym (set_past vs i w n)) at)
      (λ v h.
      let k = slot_identity ns vs i v same h in
      subst (λ l. IsPlaced l cells) (sym (slots_set ns vs i k.0 w k.1)) (placed_set (slots_of ns vs) cells at i (wide k.0, v) (get_slot ns vs i k.0 v k.1 h) w))

  pub updates_written : (q : Id) → slice_get (slots_of ns vs) i ≡ option_map (λ (v : V). (q, v)) (indexed (slots_of ns vs) q) → is_some (indexed (slots_of ns vs) q) ≡ true →
      Updates (slots_of ns vs) (slots_of ns (slice_set vs i w)) q (Some w)
  updates_written q p h =
      by_option (indexed (slots_of ns vs) q)
      (λ n. absurd (true≢false (sym h ∙ ap is_some n)))
      (λ v d.
      let there = value_there ns vs i q (indexed (slots_of ns vs) q) same p ∙ d in
      let k = slot_identity ns vs i v same there in
      let s = get_slot ns vs i k.0 v k.1 there in
      let a = at_place (slots_of ns vs) q (wide k.0, v) (sym s ∙ p) in
      subst (λ l. Updates (slots_of ns vs) l q (Some w)) (sym (slots_set ns vs i k.0 w k.1))
      (subst (λ (j : Id). Updates (slots_of ns vs) (slice_set (slots_of ns vs) i (wide k.0, w)) j (Some w)) a.0 (updates_set (slots_of ns vs) cells at i (wide k.0, v) s w)))
