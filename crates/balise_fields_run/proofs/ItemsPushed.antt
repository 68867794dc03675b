-- One line more in an input of items.
use Rattle.std.proofs.Common.{◌≡◌, ◌∙◌, ◌+◌, ◌||◌, ℕ, Bool, true, false, List, [], ◌∷◌, ◌++◌, length, Option, None, refl, sym, ap, subst, arith, append_assoc, append-nil, length-append}
use Rattle.balise_lines.specs.Laws.{joined}
use Rattle.balise_lines.specs.Lines.{Fits, Line, whole}
use Rattle.balise_text.specs.Texts.{Text}
use Rattle.balise_items.specs.Items.{GivenItem}
use Rattle.balise_fields_run.specs.ItemLines.{line_bad, line_text, lines_bad, lines_text, next_of, open_after, open_at_end, open_of}
use Rattle.balise_fields_run.specs.Spelt.{FitAll}

abbrev Open : Type 0
Open = Option GivenItem

text-push : (n : ℕ) (o : Open) (ls : List Line) (l : Line) → lines_text n o (ls ++ l ∷ []) ≡ lines_text n o ls ++ line_text (n + length ls) l.bytes (open_at_end n o ls)
text-push n o [] l = let e : n ≡ n + 0 = omega arith in append-nil (line_text n l.bytes o) ∙ ap (λ (k : ℕ). line_text k l.bytes o) e
text-push n o (x ∷ xs) l =
    let e : n + 1 + length xs ≡ n + length (x ∷ xs) = omega arith in
    let p : Open = open_after n x.bytes o in
    ap (λ (t : Text). line_text n x.bytes o ++ t) (text-push (n + 1) p xs l ∙ ap (λ (k : ℕ). lines_text (n + 1) p xs ++ line_text k l.bytes (open_at_end (n + 1) p xs)) e)
    ∙ sym (append_assoc (line_text n x.bytes o) (lines_text (n + 1) p xs) (line_text (n + length (x ∷ xs)) l.bytes (open_at_end (n + 1) p xs)))

or_none : (a : Bool) → (a || false) ≡ a
or_none true = refl
or_none false = refl

or_later : (a b c : Bool) → (a || (b || c)) ≡ ((a || b) || c)
or_later true b c = refl
or_later false b c = refl

bad-push : (n : ℕ) (o : Open) (ls : List Line) (l : Line) → lines_bad n o (ls ++ l ∷ []) ≡ (lines_bad n o ls || line_bad (n + length ls) l.bytes (open_at_end n o ls))
bad-push n o [] l = let e : n ≡ n + 0 = omega arith in or_none (line_bad n l.bytes o) ∙ ap (λ (k : ℕ). line_bad k l.bytes o) e
bad-push n o (x ∷ xs) l =
    let e : n + 1 + length xs ≡ n + length (x ∷ xs) = omega arith in
    let p : Open = open_after n x.bytes o in
    ap (λ (b : Bool). line_bad n x.bytes o || b) (bad-push (n + 1) p xs l ∙ ap (λ (k : ℕ). lines_bad (n + 1) p xs || line_bad k l.bytes (open_at_end (n + 1) p xs)) e)
    ∙ or_later (line_bad n x.bytes o) (lines_bad (n + 1) p xs) (line_bad (n + length (x ∷ xs)) l.bytes (open_at_end (n + 1) p xs))

open-push : (n : ℕ) (o : Open) (ls : List Line) (l : Line) → open_at_end n o (ls ++ l ∷ []) ≡ open_after (n + length ls) l.bytes (open_at_end n o ls)
open-push n o [] l = let e : n ≡ n + 0 = omega arith in ap (λ (k : ℕ). open_after k l.bytes o) e
open-push n o (x ∷ xs) l =
    let e : n + 1 + length xs ≡ n + length (x ∷ xs) = omega arith in
    let p : Open = open_after n x.bytes o in
    open-push (n + 1) p xs l ∙ ap (λ (k : ℕ). open_after k l.bytes (open_at_end (n + 1) p xs)) e

next_is : (ls : List Line) → 1 + length ls ≡ next_of ls
next_is ls = omega arith

pub next_push : (ls : List Line) (l : Line) → next_of (ls ++ l ∷ []) ≡ next_of ls + 1
next_push ls l = omega (arith, length-append ls (l ∷ []))

pub text_push : (ls : List Line) (l : Line) → lines_text 1 None (ls ++ l ∷ []) ≡ lines_text 1 None ls ++ line_text (next_of ls) l.bytes (open_of ls)
text_push ls l = text-push 1 None ls l ∙ ap (λ (k : ℕ). lines_text 1 None ls ++ line_text k l.bytes (open_of ls)) (next_is ls)

pub bad_push : (ls : List Line) (l : Line) → lines_bad 1 None (ls ++ l ∷ []) ≡ (lines_bad 1 None ls || line_bad (next_of ls) l.bytes (open_of ls))
bad_push ls l = bad-push 1 None ls l ∙ ap (λ (k : ℕ). lines_bad 1 None ls || line_bad k l.bytes (open_of ls)) (next_is ls)

pub open_push : (ls : List Line) (l : Line) → open_of (ls ++ l ∷ []) ≡ open_after (next_of ls) l.bytes (open_of ls)
open_push ls l = open-push 1 None ls l ∙ ap (λ (k : ℕ). open_after k l.bytes (open_of ls)) (next_is ls)

pub fit_push : (place : ℕ) (ls : List Line) (l : Line) → FitAll place ls → Fits (place + length (joined ls)) l → FitAll place (ls ++ l ∷ [])
fit_push place [] l f fits = let at : place + length (joined []) ≡ place = omega arith in (subst (λ (k : ℕ). Fits k l) at fits, tt)
fit_push place (x ∷ xs) l f fits =
    let at : place + length (joined (x ∷ xs)) ≡ place + length (whole x) + length (joined xs) = omega (arith, length-append (whole x) (joined xs)) in
    (f.0, fit_push (place + length (whole x)) xs l f.1 (subst (λ (k : ℕ). Fits k l) at fits))
