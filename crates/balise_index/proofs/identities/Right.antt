-- Cells that say where an identity stands, looked at one after another.
use Rattle.std.proofs.Common.{◌≡◌, ◌∙◌, ℕ, zero, suc, true, cond, List, [], ◌∷◌, Option, Some, None, length, option_map, slice_get, refl, sym, ap}
use Rattle.std.specs.Option.{option_or}
use Rattle.balise_rules.specs.declared.identity.Id.{Id}
use Rattle.balise_rules.proofs.Cases.{unsome}
use Rattle.balise_rules.proofs.Tests.{id_test, split_on}
use Rattle.balise_index.specs.declared.identity_map.narrow.Narrow.{Narrow}
use Rattle.balise_index.specs.Identities.{indexed}
use Rattle.balise_index.specs.IdentityMap.{IsPlaced}
use Rattle.balise_index.specs.Narrow.{wide, slots_of, is_wide, right_cell}
use Rattle.balise_index.proofs.identities.Slots.{none_some, place_there, unplaced}
use Rattle.balise_index.proofs.identities.TwoLists.{slot_there}

-- the slot that a right cell names
right_slot : (ns : List Narrow) (o : Option ℕ) (q : Id) (i : ℕ) → right_cell ns o q ≡ Some i → (n : Narrow) × (slice_get ns i ≡ Some n) × (wide n ≡ q)
right_slot ns None q i e = cc
right_slot ns (Some k) q i e =
    split_on (is_wide (slice_get ns k) q)
    (λ d. by (slice_get ns k) refl d (unsome (ap (λ b. cond b (Some k) None) (sym d) ∙ e)))
    (λ d. absurd (none_some (ap (λ b. cond b (Some k) None) d) e))
  where
    by : (o : Option Narrow) → slice_get ns k ≡ o → is_wide o q ≡ true → k ≡ i → (n : Narrow) × (slice_get ns i ≡ Some n) × (wide n ≡ q)
    by None f d same = cc
    by (Some n) f d same = (n, ap (slice_get ns) (sym same) ∙ f, id_test.one (wide n) q d)

-- the identity of a slot
slot_wide : {V : Type 0} (ns : List Narrow) (vs : List V) (j : ℕ) (q : Id) (v : V) → slice_get (slots_of ns vs) j ≡ Some (q, v) → is_wide (slice_get ns j) q ≡ true
slot_wide [] vs j q v e = cc
slot_wide (n ∷ ns) [] j q v e = cc
slot_wide {V} (n ∷ ns) (w ∷ vs) zero q v e = ap (is_wide (Some n)) (sym (ap (λ (z : Id × V). z.0) (unsome e))) ∙ id_test.itself (wide n)
slot_wide (n ∷ ns) (w ∷ vs) (suc j) q v e = slot_wide ns vs j q v e

cell_right : (ns : List Narrow) (k : ℕ) (q : Id) → is_wide (slice_get ns k) q ≡ true → right_cell ns (Some k) q ≡ None → ⊥
cell_right ns k q d e = none_some e (ap (λ b. cond b (Some k) None) d)

either_right : (ns : List Narrow) (far near : Option ℕ) (q : Id) (j : ℕ) → is_wide (slice_get ns j) q ≡ true → option_or far near ≡ Some j → right_cell ns near q ≡ None → right_cell ns far q ≡ None → ⊥
either_right ns None None q j d e n f = cc
either_right ns None (Some k) q j d e n f = cell_right ns k q (ap (λ (z : ℕ). is_wide (slice_get ns z) q) (unsome e) ∙ d) n
either_right ns (Some k) near q j d e n f = cell_right ns k q (ap (λ (z : ℕ). is_wide (slice_get ns z) q) (unsome e) ∙ d) f

module _ {V : Type 0} (ns : List Narrow) (vs : List V) (cells : Id → Option ℕ) (same : length ns ≡ length vs) (at : IsPlaced (slots_of ns vs) cells) (q : Id) where
  pub right_there : (o : Option ℕ) (i : ℕ) → right_cell ns o q ≡ Some i → slice_get (slots_of ns vs) i ≡ option_map (λ (v : V). (q, v)) (indexed (slots_of ns vs) q)
  right_there o i e =
      let n = right_slot ns o q i e in
      let s = slot_there ns vs i n.0 same n.1 in
      place_there (slots_of ns vs) cells at q i (wide n.0, s.0) s.1 n.2

  pub nowhere : (far near : Option ℕ) → cells q ≡ option_or far near → right_cell ns near q ≡ None → right_cell ns far q ≡ None → indexed (slots_of ns vs) q ≡ None
  nowhere far near c n f = unplaced (slots_of ns vs) cells at q (λ j v e. either_right ns far near q j (slot_wide ns vs j q v e) (sym c ∙ at.placed j (q, v) e) n f)
