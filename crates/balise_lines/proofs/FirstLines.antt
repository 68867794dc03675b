-- The first line of an input, from the bytes at its front.
use Rattle.std.proofs.Common.{◌≡◌, ◌≢◌, ◌==◌, ℕ, suc, ◌≤◌, ◌<◌, List, [], ◌∷◌, ◌++◌, false, length, All, refl, sym, ap, subst, ◌∙◌, arith, rules}
use Rattle.std.proofs.lemmas.List.Elements.{All-cons, All-head, All-nil, All-tail}
use Rattle.balise_lines.specs.Lines.{HasNoEnd, Line, ended, lines_of, onto_first, unended}

head_is : (x : ℕ) (xs : List ℕ) → HasNoEnd (x ∷ xs) → (x == 10) ≡ false
head_is x xs none = let no : x ≢ 10 = All-head (λ b. b ≢ 10) x xs none in search rules

-- a byte that is no line feed goes onto the first line
onto : (x : ℕ) (xs rest : List ℕ) → HasNoEnd (x ∷ xs) → lines_of (x ∷ rest) ≡ onto_first x (lines_of rest)
onto x xs rest none = rw (head_is x xs none) refl

tail : (x : ℕ) (xs : List ℕ) → HasNoEnd (x ∷ xs) → HasNoEnd xs
tail x xs none = All-tail (λ b. b ≢ 10) x xs none

-- a line and its end stand first
pub lines_of-ended : (xs rest : List ℕ) → HasNoEnd xs → lines_of (xs ++ 10 ∷ rest) ≡ ended xs ∷ lines_of rest
lines_of-ended [] rest none = refl
lines_of-ended (x ∷ xs) rest none = onto x xs (xs ++ 10 ∷ rest) none ∙ ap (onto_first x) (lines_of-ended xs rest (tail x xs none))

-- what has no line feed is one line, without an end
pub lines_of-unended : (xs : List ℕ) → HasNoEnd xs → 0 < length xs → lines_of xs ≡ unended xs ∷ []
lines_of-unended [] none some = absurd (omega arith)
lines_of-unended (x ∷ []) none some = onto x [] [] none
lines_of-unended (x ∷ y ∷ xs) none some = onto x (y ∷ xs) (y ∷ xs) none ∙ ap (onto_first x) (lines_of-unended (y ∷ xs) (tail x (y ∷ xs) none) (omega arith))

-- no line of what has no line feed has an end
pub lines_of-open : (xs : List ℕ) → HasNoEnd xs → All (λ (line : Line). line.is_ended ≡ false) (lines_of xs)
lines_of-open [] none = All-nil (λ (line : Line). line.is_ended ≡ false)
lines_of-open (x ∷ xs) none =
    subst (All (λ (line : Line). line.is_ended ≡ false)) (sym (lines_of-unended (x ∷ xs) none (omega arith)))
    (All-cons (λ (line : Line). line.is_ended ≡ false) (unended (x ∷ xs)) [] refl (All-nil (λ (line : Line). line.is_ended ≡ false)))

-- the first line has at least n bytes
pub record BeginsLong (n : ℕ) (all : List Line) : Type 0 where
  pub line : Line
  pub lines : List Line
  pub first : all ≡ line ∷ lines
  pub long : n ≤ length line.bytes

longer : (x n : ℕ) (all : List Line) → BeginsLong n all → BeginsLong (suc n) (onto_first x all)
longer x n all b = record {
  line = record { bytes = x ∷ b.line.bytes; is_ended = b.line.is_ended };
  lines = b.lines;
  first = ap (onto_first x) b.first;
  long = let l = b.long in omega arith;
}

alone : (x : ℕ) (all : List Line) → BeginsLong 1 (onto_first x all)
alone x [] = record { line = unended (x ∷ []); lines = []; first = refl; long = omega arith }
alone x (line ∷ lines) = record { line = record { bytes = x ∷ line.bytes; is_ended = line.is_ended }; lines = lines; first = refl; long = omega arith }

-- what has no line feed stands in the first line, whatever follows
pub lines_of-front : (xs rest : List ℕ) → HasNoEnd xs → 0 < length xs → BeginsLong (length xs) (lines_of (xs ++ rest))
lines_of-front [] rest none some = absurd (omega arith)
lines_of-front (x ∷ []) rest none some = subst (BeginsLong 1) (sym (onto x [] rest none)) (alone x (lines_of rest))
lines_of-front (x ∷ y ∷ xs) rest none some =
    subst (BeginsLong (suc (suc (length xs)))) (sym (onto x (y ∷ xs) (y ∷ xs ++ rest) none))
    (longer x (suc (length xs)) _ (lines_of-front (y ∷ xs) rest (tail x (y ∷ xs) none) (omega arith)))
