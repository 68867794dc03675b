-- What is left of an input, and the lines that it begins with.
use Rattle.std.proofs.Common.{◌≡◌, ◌⊎◌, inl, inr, nat_lt, rules, arith, ℕ, ◌+◌, ◌≤◌, ◌<◌, List, [], ◌∷◌, ◌++◌, Bool, true, false, length, Option, Some, None, refl, sym, ap, ◌∙◌, append_assoc, append-nil}
use Rattle.std.specs.Io.KnownBytes.{Consumes, IsAtEnd, Keeps, prepend_known}
use Rattle.balise_lines.specs.Lines.{Fits, HasNoEnd, IsLine, Line, end_of, lines_of, whole}
use Rattle.balise_lines.specs.Reading.{IsInput, ahead, left}
use Rattle.balise_lines.specs.declared.lines.Lines.{Lines}
use Rattle.std.proofs.KnownBytes.{prepend_known-nil}
use Rattle.balise_lines.proofs.FirstLines.{lines_of-ended, lines_of-unended}

-- a line of an input stands first where it is followed by anything, or by nothing where it has no end
pub lines_of-line : (line : Line) (rest : List ℕ) → IsLine line → (line.is_ended ≡ false → rest ≡ []) → lines_of (whole line ++ rest) ≡ line ∷ lines_of rest
lines_of-line line rest is last = by line.bytes line.is_ended is.0 is.1 last
  where
    by : (bytes : List ℕ) (is_ended : Bool) → HasNoEnd bytes → (is_ended ≡ false → 0 < length bytes) → (is_ended ≡ false → rest ≡ [])
        → lines_of ((bytes ++ end_of is_ended) ++ rest) ≡ record { bytes = bytes; is_ended = is_ended } ∷ lines_of rest
    by bytes true none some last = ap lines_of (append_assoc bytes (10 ∷ []) rest) ∙ lines_of-ended bytes rest none
    by bytes false none some last =
        let nothing : (bytes ++ []) ++ rest ≡ bytes = ap (λ t. (bytes ++ []) ++ t) (last refl) ∙ append-nil (bytes ++ []) ∙ append-nil bytes in
        ap lines_of nothing ∙ lines_of-unended bytes none (some refl) ∙ ap (λ t. record { bytes = bytes; is_ended = false } ∷ lines_of t) (sym (last refl))

-- a line fits or it doesn't
pub fits_or : (place : ℕ) (line : Line) → Fits place line ⊎ (Fits place line → ⊥)
fits_or place line = by (nat_lt 4096 (length line.bytes)) (nat_lt 67108864 (place + length (whole line))) refl refl
  where
    by : (a b : Bool) → nat_lt 4096 (length line.bytes) ≡ a → nat_lt 67108864 (place + length (whole line)) ≡ b → Fits place line ⊎ (Fits place line → ⊥)
    by true b e f = let over : 4096 < length line.bytes = search rules in inr (λ h. let short : length line.bytes ≤ 4096 = h.0 in omega arith)
    by false true e f = let over : 67108864 < place + length (whole line) = search rules in inr (λ h. let short : place + length (whole line) ≤ 67108864 = h.1 in omega arith)
    by false false e f = inl (search rules, search rules)

-- before the first line all of the input is left
pub left_at_first : (l : Lines) (remaining : Option (List ℕ)) → ahead l ≡ [] → left l remaining ≡ remaining
left_at_first l remaining none = ap (λ a. prepend_known a remaining) none ∙ prepend_known-nil remaining

-- what was read, and then what is left, is the input
pub input_read : (old left : Option (List ℕ)) (read rest : List ℕ) → Consumes old left read → IsInput left rest → IsInput old (read ++ rest)
input_read None left read rest c i = tt
input_read (Some xs) None read rest c i = absurd c
input_read (Some xs) (Some ys) read rest c i = ap (λ t. read ++ t) i ∙ sym c

-- at the end nothing is an input that may be left
pub input_at_end : (left : Option (List ℕ)) → IsAtEnd left → IsInput left []
input_at_end None e = tt
input_at_end (Some xs) e = sym e

-- some input may be left, and it is nothing where the reading is over
pub some_input : (left : Option (List ℕ)) (over : Bool) → (over ≡ true → IsAtEnd left) → (rest : List ℕ) × (IsInput left rest × (over ≡ true → rest ≡ []))
some_input None over end = ([], (tt, λ _. refl))
some_input (Some xs) over end = (xs, (refl, end))

-- what was read ahead is what the reader gave, and it is nothing where the reading is over; where nothing is known of it, it may be taken for nothing
pub ahead_such : (P : List ℕ → Type 0) (left lower : Option (List ℕ)) (ahead : List ℕ) (over : Bool) → Keeps left (prepend_known ahead lower) → (over ≡ true → IsAtEnd left) → P [] → P ahead
    → (rest : List ℕ) × (Consumes left lower rest × (over ≡ true → rest ≡ []) × P rest)
ahead_such P None lower ahead over k end p q = ([], (tt, λ _. refl, p))
ahead_such P (Some xs) None ahead over k end p q = absurd k
ahead_such P (Some xs) (Some ys) ahead over k end p q = (ahead, (sym k, λ o. front ahead ys (k ∙ end o), q))
  where
    front : (xs bs : List ℕ) → xs ++ bs ≡ [] → xs ≡ []
    front [] bs e = refl
    front (x ∷ xs) bs e = absurd cc

pub ahead_read : (left lower : Option (List ℕ)) (ahead : List ℕ) (over : Bool) → Keeps left (prepend_known ahead lower) → (over ≡ true → IsAtEnd left)
    → (rest : List ℕ) × (Consumes left lower rest × (over ≡ true → rest ≡ []))
ahead_read left lower ahead over k end = let r = ahead_such (λ _. Unit {0}) left lower ahead over k end tt tt in (r.0, (r.1.0, r.1.1))

-- the reader is at its end where nothing is left
pub reader_ended : (lower : Option (List ℕ)) (ahead : List ℕ) → IsAtEnd (prepend_known ahead lower) → IsAtEnd lower
reader_ended None ahead e = tt
reader_ended (Some ys) [] e = e
reader_ended (Some ys) (x ∷ xs) e = absurd cc
