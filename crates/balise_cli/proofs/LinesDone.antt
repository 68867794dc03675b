-- Lines that were done one after another.
use Rattle.std.proofs.Common.{◌≡◌, inr, ℕ, ◌+◌, List, [], ◌∷◌, ◌++◌, true, length, refl, sym, ap, subst, ◌∙◌, arith, append_assoc, append-nil, length-append}
use Rattle.balise_lines.specs.Laws.{joined}
use Rattle.balise_lines.specs.Lines.{Fits, Line, whole}
use Rattle.balise_cli.specs.declared.asked.Asked.{Asked}
use Rattle.balise_text.specs.Texts.{Text}
use Rattle.balise_cli.specs.Ends.{Steps}
use Rattle.balise_cli.specs.Output.{Ending, IsOutput, IsStep, On, Phase}

-- the number of the line and its place after one more line
number_behind : (n : ℕ) (line : Line) (lines : List Line) → n + length (line ∷ lines) ≡ (n + 1) + length lines
number_behind n line lines = omega arith

place_behind : (place : ℕ) (line : Line) (lines : List Line) → place + length (joined (line ∷ lines)) ≡ (place + length (whole line)) + length (joined lines)
place_behind place line lines = omega (arith, length-append (whole line) (joined lines))

pub joined-append : (lines more : List Line) → joined (lines ++ more) ≡ joined lines ++ joined more
joined-append [] more = refl
joined-append (line ∷ lines) more = ap (λ (t : Text). whole line ++ t) (joined-append lines more) ∙ sym (append_assoc (whole line) (joined lines) (joined more))

-- one more line is done
pub steps_on : (asked : Asked) (p q r : Phase) (n place : ℕ) (lines : List Line) (line : Line) (out now : Text) → Steps asked p n place lines out q → Fits (place + length (joined lines)) line
    → IsStep asked true q (n + length lines) line.bytes now (On r) → Steps asked p n place (lines ++ line ∷ []) (out ++ now) r
steps_on asked p q r n place [] line out now s fits is =
    let same : n + length {A = Line} [] ≡ n = omega arith in
    let at : place + length (joined []) ≡ place = omega arith in
    let here : IsStep asked true q n line.bytes now (On r) = subst (λ (k : ℕ). IsStep asked true q k line.bytes now (On r)) same is in (
      subst (λ (k : ℕ). Fits k line) at fits,
      (now, (r, ([], (subst (λ (x : Phase). IsStep asked true x n line.bytes now (On r)) s.1 here, ap (λ (t : Text). t ++ now) s.0 ∙ sym (append-nil now), (refl, refl))))),
    )
steps_on asked p q r n place (x ∷ xs) line out now (short, (first, (next, (more, (step, e, s))))) fits is =
    let here : IsStep asked true q ((n + 1) + length xs) line.bytes now (On r) = subst (λ (k : ℕ). IsStep asked true q k line.bytes now (On r)) (number_behind n x xs) is in
    let room : Fits ((place + length (whole x)) + length (joined xs)) line = subst (λ (k : ℕ). Fits k line) (place_behind place x xs) fits in
    (short, (first, (next, (more ++ now, (step, ap (λ (t : Text). t ++ now) e ∙ append_assoc first more now, steps_on asked next q r (n + 1) (place + length (whole x)) xs line more now s room here)))))

-- an output of the lines after them is one of all
pub steps_lead : (asked : Asked) (p q : Phase) (n place : ℕ) (lines behind : List Line) (out more : Text) (e : Ending) → Steps asked p n place lines out q
    → IsOutput asked true q (n + length lines) (place + length (joined lines)) behind more e → IsOutput asked true p n place (lines ++ behind) (out ++ more) e
steps_lead asked p q n place [] behind out more e s o =
    let same : n + length {A = Line} [] ≡ n = omega arith in
    let at : place + length (joined []) ≡ place = omega arith in
    let here : IsOutput asked true q n place behind more e = subst (λ (k : ℕ). IsOutput asked true q k place behind more e) same (subst (λ (k : ℕ). IsOutput asked true q (n + length {A = Line} []) k behind more e) at o) in
    subst (λ (t : Text). IsOutput asked true p n place behind (t ++ more) e) (sym s.0) (subst (λ (x : Phase). IsOutput asked true x n place behind more e) s.1 here)
steps_lead asked p q n place (x ∷ xs) behind out more e (short, (first, (next, (text, (step, f, s))))) o =
    let here : IsOutput asked true q ((n + 1) + length xs) ((place + length (whole x)) + length (joined xs)) behind more e =
    subst (λ (k : ℕ). IsOutput asked true q k ((place + length (whole x)) + length (joined xs)) behind more e) (number_behind n x xs)
    (subst (λ (k : ℕ). IsOutput asked true q (n + length (x ∷ xs)) k behind more e) (place_behind place x xs) o) in
    inr (short, (first, (On next, (text ++ more, (step, ap (λ (t : Text). t ++ more) f ∙ append_assoc first text more, steps_lead asked next q (n + 1) (place + length (whole x)) xs behind text more e s here)))))
