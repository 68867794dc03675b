-- Each tag has one code at most, also after a tag is added to those that have none of their own.
use Rattle.std.proofs.Common.{◌≡◌, ◌∙◌, ◌+◌, ◌-◌, ◌<◌, ◌≤◌, ◌⊎◌, inl, inr, ℕ, zero, suc, true, false, List, [], ◌∷◌, ◌++◌, Some, length, length-append, slice_get, refl, sym, ap, arith}
use Rattle.std.specs.Prelude.{nat_lt}
use Rattle.std.proofs.lemmas.Bool.{true≢false, cases_lt}
use Rattle.std.proofs.lemmas.Bool.Decides.{nat_tests}
use Rattle.balise_rules.specs.declared.tag.Tag.{Tag}
use Rattle.balise_rules.specs.Tags.{same_tag}
use Rattle.balise_rules.proofs.Tests.{tag_test}
use Rattle.balise_index.specs.TagCode.{own_tag, tag_of, rare_tag, HasNone, KeepsTags, OneCode}

is_own : (rare : List Tag) (c : ℕ) → c < 4294000000 → tag_of rare c ≡ own_tag c
is_own rare c w = let e : nat_lt c 4294000000 ≡ true = grind (arith, nat_tests) in simp e refl

is_rare : (rare : List Tag) (c : ℕ) → 4294000000 ≤ c → tag_of rare c ≡ rare_tag c (slice_get rare (c - 4294000000))
is_rare rare c w = let e : nat_lt c 4294000000 ≡ false = grind (arith, nat_tests) in simp e refl

get_before : (gs : List Tag) (g : Tag) (i : ℕ) → i < length gs → slice_get (gs ++ g ∷ []) i ≡ slice_get gs i
get_before [] g i w = absurd (omega (arith, w))
get_before (k ∷ ks) g zero w = refl
get_before (k ∷ ks) g (suc i) w = get_before ks g i (omega (arith, w))

get_last : (gs : List Tag) (g : Tag) (i : ℕ) → i ≡ length gs → slice_get (gs ++ g ∷ []) i ≡ Some g
get_last [] g zero e = refl
get_last [] g (suc i) e = absurd (omega (arith, e))
get_last (k ∷ ks) g zero e = absurd (omega (arith, e))
get_last (k ∷ ks) g (suc i) e = get_last ks g i (omega (arith, e))

-- a tag that is added leaves the codes of the others
pub kept-push : (old : List Tag) (g : Tag) → KeepsTags old (old ++ g ∷ [])
kept-push old g code w = by (cases_lt code 4294000000)
  where
    by : (code < 4294000000) ⊎ (4294000000 ≤ code) → tag_of (old ++ g ∷ []) code ≡ tag_of old code
    by (inl x) = is_own (old ++ g ∷ []) code x ∙ sym (is_own old code x)
    by (inr x) = is_rare (old ++ g ∷ []) code x ∙ ap (rare_tag code) (get_before old g (code - 4294000000) (omega (arith, w, x))) ∙ sym (is_rare old code x)

last_tag : (old : List Tag) (g : Tag) (code : ℕ) → code ≡ 4294000000 + length old → tag_of (old ++ g ∷ []) code ≡ g
last_tag old g code e = is_rare (old ++ g ∷ []) code (omega (arith, e)) ∙ ap (rare_tag code) (get_last old g (code - 4294000000) (omega (arith, e)))

-- and no two codes stand for one tag, if it had no code
pub one-push : (old : List Tag) (g : Tag) → OneCode old → HasNone old g → OneCode (old ++ g ∷ [])
one-push old g one none c d w v e = by (cases_lt c (4294000000 + length old)) (cases_lt d (4294000000 + length old))
  where
    not_old : (a b : ℕ) → a < 4294000000 + length old → 4294000000 + length old ≤ b → b < 4294000000 + length (old ++ g ∷ []) → tag_of (old ++ g ∷ []) a ≡ tag_of (old ++ g ∷ []) b → ⊥
    not_old a b x y z q =
        let is : b ≡ 4294000000 + length old = omega (arith, y, z, length-append old (g ∷ [])) in
        let f : tag_of old a ≡ g = sym (kept-push old g a x) ∙ q ∙ last_tag old g b is in
        true≢false (sym (tag_test.itself g) ∙ ap (same_tag g) (sym f) ∙ none a x)

    by : (c < 4294000000 + length old) ⊎ (4294000000 + length old ≤ c) → (d < 4294000000 + length old) ⊎ (4294000000 + length old ≤ d) → c ≡ d
    by (inl x) (inl y) = one c d x y (sym (kept-push old g c x) ∙ e ∙ kept-push old g d y)
    by (inl x) (inr y) = absurd (not_old c d x y v e)
    by (inr x) (inl y) = absurd (not_old d c y x w (sym e))
    by (inr x) (inr y) = omega (arith, x, y, w, v, length-append old (g ∷ []))
