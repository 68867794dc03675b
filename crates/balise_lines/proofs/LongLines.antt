-- A line that doesn't fit stands next, by the bytes held in front of what the reader has left.
use Rattle.std.proofs.Common.{◌≡◌, ℕ, ◌+◌, ◌≤◌, ◌<◌, List, [], ◌∷◌, ◌++◌, length, take, drop, suc, Option, Some, None, sym, ap, ◌∙◌, arith, append_assoc, append-nil, length-append}
use Rattle.std.proofs.lemmas.List.{length-take-le}
use Rattle.std.specs.Io.KnownBytes.{IsAtEnd, Keeps, prepend_known}
use Rattle.balise_lines.specs.Lines.{EndsAt, HasNoEnd, ended, lines_of, unended}
use Rattle.balise_lines.specs.Reading.{IsInput, LongNext}
use Rattle.balise_lines.proofs.FirstLines.{lines_of-ended, lines_of-front, lines_of-unended}

-- the input that is left begins with what is held, and ends there where the reader has no more
pub record HeldInput (left : Option (List ℕ)) (held : List ℕ) (rest : Option (List ℕ)) : Type 0 where
  pub behind : List ℕ
  pub is_input : IsInput left (held ++ behind)
  pub at_end : IsAtEnd rest → IsInput left held

pub held_input : (left rest : Option (List ℕ)) (held : List ℕ) → Keeps left (prepend_known held rest) → HeldInput left held rest
held_input None rest held k = record { behind = []; is_input = tt; at_end = λ _. tt }
held_input (Some xs) None held k = absurd k
held_input (Some xs) (Some ys) held k = record { behind = ys; is_input = k; at_end = λ e. sym (append-nil held) ∙ ap (λ t. held ++ t) (sym e) ∙ k }

-- more bytes than the longest line has are held, and no line feed among them
pub long_front : (left rest : Option (List ℕ)) (held : List ℕ) (place : ℕ) → Keeps left (prepend_known held rest) → HasNoEnd held → 4096 < length held → LongNext left place
long_front left rest held place k none over =
    let h = held_input left rest held k in
    let b = lines_of-front held h.behind none (omega arith) in
    let long : length held ≤ length b.line.bytes = b.long in
    record {
      input = held ++ h.behind;
      is_input = h.is_input;
      line = b.line;
      lines = b.lines;
      first = b.first;
      long = λ fits. let short : length b.line.bytes ≤ 4096 = fits.0 in omega arith;
    }

-- the last line, which has no end, ends past the longest input
pub long_last : (left rest : Option (List ℕ)) (held : List ℕ) (place : ℕ) → Keeps left (prepend_known held rest) → HasNoEnd held → 0 < length held → IsAtEnd rest
    → 67108864 < place + length held → LongNext left place
long_last left rest held place k none some end over =
    let h = held_input left rest held k in
    record {
      input = held;
      is_input = h.at_end end;
      line = unended held;
      lines = [];
      first = lines_of-unended held none some;
      long = λ fits. let short : place + length (held ++ []) ≤ 67108864 = fits.1 in omega (arith, length-append {A = ℕ});
    }

-- a line's end stands past the longest input
pub long_line : (left rest : Option (List ℕ)) (held : List ℕ) (n place : ℕ) → Keeps left (prepend_known held rest) → EndsAt held n → 67108864 < place + (n + 1) → LongNext left place
long_line left rest held n place k ends over =
    let h = held_input left rest held k in
    let front = take n held in
    let back = drop (suc n) held ++ h.behind in
    let parts : held ++ h.behind ≡ front ++ 10 ∷ back = ap (λ t. t ++ h.behind) ends.1 ∙ append_assoc front (10 ∷ drop (suc n) held) h.behind in
    let inside : n < length held = ends.0 in
    let size : length front ≡ n = length-take-le n held (omega arith) in
    record {
      input = held ++ h.behind;
      is_input = h.is_input;
      line = ended front;
      lines = lines_of back;
      first = ap lines_of parts ∙ lines_of-ended front back ends.2;
      long = λ fits. let short : place + length (front ++ 10 ∷ []) ≤ 67108864 = fits.1 in omega (arith, length-append {A = ℕ});
    }
