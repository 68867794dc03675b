-- The code at a place.
use Rattle.std.proofs.Common.{◌≡◌, ◌∙◌, ℕ, zero, suc, ◌+◌, ◌-◌, ◌≤◌, ◌<◌, List, [], ◌∷◌, ◌++◌, Some, length, take, slice_get, sym, ap, arith, length-append, slice_index_or, subst, ◌⊎◌, inl, inr}
use Rattle.std.proofs.lemmas.Bool.{cases_lt}
use Rattle.std.proofs.lemmas.Option.{slice_get-get_or}
use Rattle.std.proofs.Math.ListN.{get_or-append}
use Rattle.balise_index.specs.declared.code_list.Block.{Block}
use Rattle.balise_index.specs.Blocks.{flat, Laid, before, IsAt}
use Rattle.balise_index.proofs.blocks.Laid.{found, before-whole}

get-right : (l m : List ℕ) (n : ℕ) (d : ℕ) → slice_index_or (l ++ m) (length l + n) d ≡ slice_index_or m n d
get-right [] m n d = ap (λ (k : ℕ). slice_index_or m k d) (let z : 0 + n ≡ n = omega arith in z)
get-right (a ∷ l) m n d = ap (λ (k : ℕ). slice_index_or (a ∷ l ++ m) k d) (let z : suc (length l) + n ≡ suc (length l + n) = omega arith in z) ∙ get-right l m n d

got : (b j : ℕ) (bs : List Block) (d : Block) (v : ℕ) → b < length bs → j < length (slice_index_or bs b d).codes.items → slice_index_or (flat bs) (before b bs + j) v ≡ slice_index_or (slice_index_or bs b d).codes.items j v
got b j [] d v w l = absurd (omega (arith, w))
got zero j (x ∷ xs) d v w l = ap (λ (k : ℕ). slice_index_or (x.codes.items ++ flat xs) k v) (let z : 0 + j ≡ j = omega arith in z) ∙ get_or-append x.codes.items (flat xs) v j l
got (suc b) j (x ∷ xs) d v w l =
    let far : before (suc b) (x ∷ xs) + j ≡ length x.codes.items + (before b xs + j) = omega (arith, length-append x.codes.items (flat (take b xs))) in
    ap (λ (k : ℕ). slice_index_or (x.codes.items ++ flat xs) k v) far ∙ get-right x.codes.items (flat xs) (before b xs + j) v ∙ got b j xs d v (omega (arith, w)) l

module _ (i b : ℕ) (bs : List Block) (x : Block) (laid : Laid 0 bs) (h : IsAt i b bs) (at : x ≡ slice_index_or bs b x) where
  pub at_least : x.start ≤ i
  at_least = omega (arith, (found b bs x laid h.within at).start, h.begun)

  pub at_most : i < length (flat bs) → i < before (b + 1) bs
  at_most w = by (cases_lt (b + 1) (length bs))
    where
      by : (b + 1 < length bs) ⊎ (length bs ≤ b + 1) → i < before (b + 1) bs
      by (inl l) = h.last l
      by (inr l) = omega (arith, before-whole (b + 1) bs l, w)

  pub inside : i < length (flat bs) → i - x.start < length x.codes.items
  inside w = let f = found b bs x laid h.within at in omega (arith, f.start, f.next, at_most w, h.begun)

  pub code_there : (v : ℕ) → i < length (flat bs) → v ≡ slice_index_or x.codes.items (i - x.start) v → Some v ≡ slice_get (flat bs) i
  code_there v w e =
      let f = found b bs x laid h.within at in
      let place : before b bs + (i - x.start) ≡ i = omega (arith, f.start, h.begun) in
      let here : slice_index_or (flat bs) i v ≡ v =
      ap (λ (k : ℕ). slice_index_or (flat bs) k v) (sym place)
      ∙ got b (i - x.start) bs x v h.within (subst (λ z. i - x.start < length z.codes.items) at (inside w))
      ∙ sym (e ∙ ap (λ z. slice_index_or z.codes.items (i - x.start) v) at) in
      ap Some (sym here) ∙ sym (slice_get-get_or (flat bs) i v w)
