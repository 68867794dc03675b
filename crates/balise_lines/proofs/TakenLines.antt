-- A line that was taken from the front of what is held, and its end with it.
use Rattle.std.proofs.Common.{◌≡◌, ℕ, ◌+◌, ◌≤◌, ◌<◌, List, [], ◌∷◌, ◌++◌, false, length, take, drop, suc, Option, Some, None, Result, Ok, Err, OnErr, sym, ap, subst, ◌∙◌, arith, add-one, append_assoc, length-append}
use Rattle.std.proofs.lemmas.List.{length-take-le}
use Rattle.std.specs.Io.KnownBytes.{Consumes, Keeps, prepend_known}
use Rattle.balise_lines.specs.LineBuffer.{held}
use Rattle.balise_lines.specs.Lines.{EndsAt, HasNoEnd, ended, whole}
use Rattle.balise_lines.specs.Reading.{TookLine, is_over, left, line_of, number_of, place_of}
use Rattle.balise_lines.specs.declared.lines.Lines.{Lines}

-- the line with its end stood before what is left
consumed : (old rest : Option (List ℕ)) (bytes : List ℕ) (n : ℕ) → Keeps old (prepend_known bytes rest) → EndsAt bytes n
    → Consumes old (prepend_known (drop (n + 1) bytes) rest) (whole (ended (take n bytes)))
consumed None rest bytes n k ends = tt
consumed (Some xs) None bytes n k ends = absurd k
consumed (Some xs) (Some ys) bytes n k ends =
    let front = take n bytes ++ 10 ∷ [] in
    let behind : drop (suc n) bytes ≡ drop (n + 1) bytes = ap (λ j. drop j bytes) (sym (add-one n)) in
    let parts : bytes ≡ front ++ drop (n + 1) bytes = ends.1 ∙ ap (λ t. take n bytes ++ 10 ∷ t) behind ∙ sym (append_assoc (take n bytes) (10 ∷ []) (drop (n + 1) bytes)) in
    sym k ∙ ap (λ t. t ++ ys) parts ∙ append_assoc front (drop (n + 1) bytes) ys

-- the reading goes on after a line with its end, of n bytes without it
pub took_ended : (old new : Lines) (had has : Option (List ℕ)) (bytes : List ℕ) (n : ℕ) → Keeps (left old had) (prepend_known bytes has) → EndsAt bytes n → n ≤ 4096
    → held new.buffer ≡ bytes → (new.len ≡ n) × (new.taken ≡ n + 1) → place_of old + (n + 1) ≤ 67108864 → place_of new ≡ place_of old + (n + 1) → number_of new ≡ number_of old + 1
    → is_over old ≡ false → is_over new ≡ false → TookLine old had (ended (line_of new)) new has
took_ended old new had has bytes n k ends short same sizes fits placed numbered before over =
    let inside : n < length bytes = ends.0 in
    let line_is : take n bytes ≡ line_of new = ap (take n) (sym same) ∙ ap (λ j. take j (held new.buffer)) (sym sizes.0) in
    let ahead_is : drop (n + 1) bytes ≡ drop new.taken (held new.buffer) = ap (drop (n + 1)) (sym same) ∙ ap (λ j. drop j (held new.buffer)) (sym sizes.1) in
    let size : length (line_of new) ≡ n = ap length (sym line_is) ∙ length-take-le n bytes (omega arith) in
    let all : length (line_of new ++ 10 ∷ []) ≡ n + 1 = omega (arith, length-append {A = ℕ}) in
    record {
      is_line = (subst HasNoEnd line_is ends.2, λ e. absurd cc);
      consumed =
          subst (λ t. Consumes (left old had) (left new has) (whole (ended t))) line_is
          (subst (λ t. Consumes (left old had) (prepend_known t has) (whole (ended (take n bytes)))) ahead_is (consumed (left old had) has bytes n k ends));
      fits = (omega arith, omega arith);
      placed = omega arith;
      numbered = numbered;
      before = before;
      over = over;
    }

-- what holds anyway holds on an Err
pub on_any : {A E : Type 0} (r : Result A E) (P : Type 0) → P → OnErr r P
on_any (Ok a) P p = tt
on_any (Err e) P p = p
