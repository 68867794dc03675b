-- The lines of an input, put together, are the input.
use Rattle.std.proofs.Common.{◌≡◌, ◌≢◌, ◌==◌, ℕ, List, [], ◌∷◌, Bool, true, false, refl, sym, ap, ◌∙◌, arith, rules}
use Rattle.std.proofs.lemmas.Bool.{eqb-true}
use Rattle.std.proofs.lemmas.List.Elements.{All-cons, All-nil}
use Rattle.balise_lines.specs.Laws.{AreLines, LinesMakeInput, OneCut, joined}
use Rattle.balise_lines.proofs.InputsLeft.{lines_of-line}
use Rattle.balise_lines.specs.Lines.{Line, lines_of, onto_first}

joined-onto : (b : ℕ) (lines : List Line) → joined (onto_first b lines) ≡ b ∷ joined lines
joined-onto b [] = refl
joined-onto b (line ∷ lines) = refl

are-onto : (b : ℕ) (lines : List Line) → b ≢ 10 → AreLines lines → AreLines (onto_first b lines)
are-onto b [] other h = ((All-cons (λ x. x ≢ 10) b [] other (All-nil (λ x. x ≢ 10)), λ e. omega arith), (λ e. refl, tt))
are-onto b (line ∷ lines) other h = ((All-cons (λ x. x ≢ 10) b line.bytes other h.0.0, λ e. omega arith), (h.1.0, h.1.1))

not_feed : (b : ℕ) → (b == 10) ≡ false → b ≢ 10
not_feed b e is = let t : (b == 10) ≡ true = search rules in absurd cc

pub lines_make_input : LinesMakeInput
lines_make_input [] = (refl, tt)
lines_make_input (b ∷ input) = by (b == 10) refl (lines_make_input input)
  where
    by : (t : Bool) → (b == 10) ≡ t → (joined (lines_of input) ≡ input) × AreLines (lines_of input) → (joined (lines_of (b ∷ input)) ≡ b ∷ input) × AreLines (lines_of (b ∷ input))
    by true e h =
        let is : b ≡ 10 = eqb-true b 10 e in
        rw e (ap (λ t. 10 ∷ t) h.0 ∙ ap (λ x. x ∷ input) (sym is), ((All-nil (λ x. x ≢ 10), λ z. absurd cc), (λ z. absurd cc, h.1)))
    by false e h = rw e (joined-onto b (lines_of input) ∙ ap (λ t. b ∷ t) h.0, are-onto b (lines_of input) (not_feed b e) h.1)

pub one_cut : OneCut
one_cut [] h = refl
one_cut (line ∷ lines) h = lines_of-line line (joined lines) h.0 (λ e. ap joined (h.1.0 e)) ∙ ap (λ t. line ∷ t) (one_cut lines h.1.1)
