-- A text up to a mark: the first of its parts, and the number that it is.
use Rattle.std.proofs.Common.{◌≡◌, ℕ, suc, ◌+◌, ◌<◌, ◌≤◌, ◌-◌, Bool, true, false, cond, ◌&&◌, ltb, List, [], ◌∷◌, length, take, drop, Option, Some, None, option_map, refl, sym, ap, ◌∙◌, arith}
use Rattle.std.specs.Prelude.{◌==◌, nat_le}
use Rattle.std.proofs.lemmas.Bool.{eqb-true, lt-ltb, le-ltb, ltb-true, ltb-false}
use Rattle.balise_rules.proofs.Tests.{split_on}
use Rattle.balise_text.specs.Words.{Word, all_digits, is_digit, most_number, number_of, onto_first, parts_of, taken, value_after, value_from, with_words}
use Rattle.std.proofs.lemmas.List.{take_rest}
use Rattle.balise_text.specs.declared.words.Words.{Words}
use Rattle.balise_text.specs.Left.{left, up_to}

pub before_mark : (mark b : ℕ) (bs : Word) → (b == mark) ≡ false → up_to mark (b ∷ bs) ≡ b ∷ up_to mark bs
before_mark mark b bs e = simp e

-- the parts that come after it
abbrev rest : ℕ → Word → ℕ → List Word
rest mark w n = cond (ltb n (length w)) (parts_of mark (drop (suc n) w)) []

pub parts_up_to : (mark : ℕ) (w : Word) → parts_of mark w ≡ up_to mark w ∷ rest mark w (length (up_to mark w))
parts_up_to mark [] = refl
parts_up_to mark (b ∷ bs) = split_on (b == mark)
    (λ e. let f : ltb 0 (suc (length bs)) ≡ true = lt-ltb _ _ (omega arith) in rw (e, f) refl)
    (λ e. rw e (ap (onto_first b) (parts_up_to mark bs) ∙ ap (λ (t : List Word). (b ∷ up_to mark bs) ∷ t) (same bs (length (up_to mark bs)))))
  where
    same : (bs : Word) (n : ℕ) → rest mark bs n ≡ rest mark (b ∷ bs) (suc n)
    same bs n = split_on (ltb n (length bs))
        (λ e. let f : ltb (suc n) (suc (length bs)) ≡ true = lt-ltb _ _ (omega (arith, ltb-true n (length bs) e)) in rw (e, f) refl)
        (λ e. let f : ltb (suc n) (suc (length bs)) ≡ false = le-ltb _ _ (omega (arith, ltb-false n (length bs) e)) in rw (e, f) refl)

pub last_part : (mark : ℕ) (w : Word) (n : ℕ) → n ≡ length (up_to mark w) → length w ≤ n → parts_of mark w ≡ up_to mark w ∷ []
last_part mark w n e h =
    let f : ltb (length (up_to mark w)) (length w) ≡ false = le-ltb _ _ (omega (arith, e, h)) in
    parts_up_to mark w ∙ ap (λ (b : Bool). up_to mark w ∷ cond b (parts_of mark (drop (suc (length (up_to mark w))) w)) []) f

pub part_before : (mark : ℕ) (w : Word) (n : ℕ) → n ≡ length (up_to mark w) → n < length w → parts_of mark w ≡ up_to mark w ∷ parts_of mark (take (length w - (n + 1)) (drop (n + 1) w))
part_before mark w n e h =
    let f : ltb (length (up_to mark w)) (length w) ≡ true = lt-ltb _ _ (omega (arith, e, h)) in
    let s : suc (length (up_to mark w)) ≡ n + 1 = omega (arith, e) in
    parts_up_to mark w ∙ (rw (f, s, take_rest w (n + 1)) refl)

-- ---- the number that a text is

-- a number, and how many bytes it took
abbrev with_len : ℕ → ℕ → ℕ × ℕ
with_len l n = (n, l)

pub made_of : (o : Option ℕ) (l n k : ℕ) → Some (with_len k n) ≡ option_map (with_len l) o → (o ≡ Some n) × (k ≡ l)
made_of None l n k e = absurd cc
made_of (Some x) l n k e =
    let f : with_len k n ≡ with_len l x = cc in
    (ap (λ (p : ℕ × ℕ). Some p.0) (sym f), ap (λ (p : ℕ × ℕ). p.1) f)

pub made_of_none : (o : Option ℕ) (l : ℕ) → None ≡ option_map (with_len l) o → o ≡ None
made_of_none None l e = refl
made_of_none (Some x) l e = absurd cc

pub no_number_left : (w : Words) → w.over ≡ false → number_of (up_to w.mark w.text.now) ≡ None → taken number_of (left w) ≡ None
no_number_left w o e =
    let t = w.text.now in
    ap (λ (b : Bool). taken number_of (cond b [] (parts_of w.mark t))) o
    ∙ ap (taken number_of) (parts_up_to w.mark t)
    ∙ ap (λ (n : Option ℕ). with_words n (rest w.mark t (length (up_to w.mark t)))) e

pub no_number : (w : Word) → value_from 0 w ≡ None → number_of w ≡ None
no_number [] e = refl
no_number (b ∷ []) e = e
no_number (b ∷ c ∷ bs) e = split_on (b == 48) (λ f. rw f refl) (λ f. rw f e)

-- a text with a space is no number
no_digits : (w : Word) → length (up_to 32 w) < length w → all_digits w ≡ false
no_digits [] h = absurd (omega (arith, h))
no_digits (b ∷ bs) h = split_on (b == 32)
    (λ e. let same : b ≡ 32 = eqb-true b 32 e in ap (λ (x : ℕ). is_digit x && all_digits bs) same)
    (λ e. let g : suc (length (up_to 32 bs)) < suc (length bs) = simp e at h in let f = no_digits bs (omega (arith, g)) in ap (λ (x : Bool). is_digit b && x) f ∙ none (is_digit b))
  where
    none : (x : Bool) → (x && false) ≡ false
    none true = refl
    none false = refl

pub not_all : (w : Word) → length (up_to 32 w) < length w → number_of w ≡ None
not_all w h = no_number w (ap (λ (x : Bool). cond (x && nat_le (value_after 0 w) most_number) (Some (value_after 0 w)) None) (no_digits w h))

pub all_of_it : (mark : ℕ) (w : Word) → length w ≤ length (up_to mark w) → up_to mark w ≡ w
all_of_it mark [] h = refl
all_of_it mark (b ∷ bs) h = split_on (b == mark)
    (λ e. absurd (let g : suc (length bs) ≤ 0 = simp e at h in omega (arith, g)))
    (λ e. let g : suc (length bs) ≤ suc (length (up_to mark bs)) = simp e at h in rw e (ap (λ (x : Word). b ∷ x) (all_of_it mark bs (omega (arith, g)))))

pub none_up_to : (w : Word) → number_of (up_to 32 w) ≡ None → number_of w ≡ None
none_up_to w e = split_on (ltb (length (up_to 32 w)) (length w))
    (λ f. not_all w (ltb-true _ _ f))
    (λ f. ap number_of (sym (all_of_it 32 w (ltb-false _ _ f))) ∙ e)
