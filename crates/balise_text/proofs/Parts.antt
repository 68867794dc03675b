-- The parts of a text, one after another: the first ends where the separator stands first.
use Rattle.std.proofs.Common.{◌≡◌, ℕ, suc, ◌+◌, true, false, cond, ltb, List, [], ◌∷◌, length, take, drop, Option, Some, None, refl, sym, ap, ◌∙◌, arith}
use Rattle.std.specs.Prelude.{position, ◌==◌}
use Rattle.std.specs.List.{position_or_len}
use Rattle.std.proofs.lemmas.Bool.{lt-ltb, le-ltb, ltb-true, ltb-false}
use Rattle.balise_text.specs.Words.{Word, onto_first, parts_of}
use Rattle.balise_rules.proofs.Tests.{split_on}

abbrev place : ℕ → Word → ℕ
place mark w = position_or_len (λ b. b == mark) w

-- the parts, cut at a place
abbrev cut : ℕ → Word → ℕ → List Word
cut mark w n = cond (ltb n (length w)) (take n w ∷ parts_of mark (drop (suc n) w)) (w ∷ [])

-- one byte more in front
longer : (mark b : ℕ) (bs : Word) (n : ℕ) → onto_first b (cut mark bs n) ≡ cut mark (b ∷ bs) (suc n)
longer mark b bs n = split_on (ltb n (length bs))
    (λ e. let f : ltb (suc n) (suc (length bs)) ≡ true = lt-ltb _ _ (omega (arith, ltb-true n (length bs) e)) in rw (e, f) refl)
    (λ e. let f : ltb (suc n) (suc (length bs)) ≡ false = le-ltb _ _ (omega (arith, ltb-false n (length bs) e)) in rw (e, f) refl)

parts_cut : (mark : ℕ) (w : Word) → parts_of mark w ≡ cut mark w (place mark w)
parts_cut mark [] = refl
parts_cut mark (b ∷ bs) =
    let ih = parts_cut mark bs in
    split_on (b == mark)
    (λ e. let f : ltb 0 (suc (length bs)) ≡ true = lt-ltb _ _ (omega arith) in simp (e, f))
    (λ e. let one : suc (place mark bs) ≡ 1 + place mark bs = omega arith in simp e (ap (onto_first b) ih ∙ longer mark b bs (place mark bs) ∙ ap (cut mark (b ∷ bs)) one))

at : (w : Word) (n : ℕ) (r : Option ℕ) (mark : ℕ) → parts_of mark w ≡ cut mark w n → cond (ltb n (length w)) (Some n) None ≡ r → (r ≡ None → parts_of mark w ≡ w ∷ []) × ((i : ℕ) → r ≡ Some i → parts_of mark w ≡ take i w ∷ parts_of mark (drop (i + 1) w))
at w n r mark p e = split_on (ltb n (length w))
    (λ f. (
      λ g. absurd (let h = simp f at e in cc),
      λ i g. let h : Some n ≡ r = simp f at e in let k : Some n ≡ Some i = h ∙ g in let q : n ≡ i = cc in let s : suc n ≡ i + 1 = omega (arith, q) in
          p ∙ rw f (ap (λ (x : ℕ). take x w ∷ parts_of mark (drop (suc n) w)) q ∙ ap (λ (x : ℕ). take i w ∷ parts_of mark (drop x w)) s),
    ))
    (λ f. (λ g. p ∙ rw f refl, λ i g. absurd (let h = simp f at e in cc)))

pub one_part : (mark : ℕ) (w : Word) → position (λ b. b == mark) w ≡ None → parts_of mark w ≡ w ∷ []
one_part mark w e = (at w (place mark w) None mark (parts_cut mark w) e).0 refl

pub first_part : (mark : ℕ) (w : Word) (i : ℕ) → position (λ b. b == mark) w ≡ Some i → parts_of mark w ≡ take i w ∷ parts_of mark (drop (i + 1) w)
first_part mark w i e = (at w (place mark w) (Some i) mark (parts_cut mark w) e).1 i refl

-- a text has a part
pub some_part : (mark : ℕ) (w : Word) → parts_of mark w ≡ [] → ⊥
some_part mark w e = split_on (ltb (place mark w) (length w))
    (λ f. let h = parts_cut mark w in let g : take (place mark w) w ∷ parts_of mark (drop (suc (place mark w)) w) ≡ [] = simp f at (sym h ∙ e) in cc)
    (λ f. let h = parts_cut mark w in let g : w ∷ [] ≡ [] = simp f at (sym h ∙ e) in cc)
