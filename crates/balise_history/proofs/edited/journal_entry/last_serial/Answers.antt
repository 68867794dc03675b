use Rattle.std.proofs.Common.{◌≡◌, ◌-◌, ◌∙◌, ℕ, zero, suc, List, [], ◌∷◌, Some, length, slice_get, sym, ap, arith}
use Rattle.balise_rules.specs.Opening.{last_serial}
use Rattle.balise_rules.specs.Paths.{Entry}
use Rattle.balise_rules.proofs.Cases.{unsome}
use Rattle.balise_history.specs.Lists.{items_of}
use Rattle.balise_history.proofs.edited.journal_entry.last_serial.Goals as goal

last-is : (es : List Entry) (n : ℕ) (e : Entry) → length es ≡ suc n → slice_get es n ≡ Some e → e.0.0 ≡ last_serial (items_of es)
last-is (x ∷ []) zero e l g = ap (λ (y : Entry). y.0.0) (sym (unsome g))
last-is (x ∷ y ∷ ys) (suc n) e l g = last-is (y ∷ ys) n e (omega arith) g
last-is es n e l g = absurd (omega arith)

last-of : (es : List Entry) (e : Entry) → Some e ≡ slice_get es (length es - 1) → e.0.0 ≡ last_serial (items_of es)
last-of [] e g = absurd cc
last-of (x ∷ xs) e g =
    let q : length (x ∷ xs) - 1 ≡ length xs = omega arith in
    last-is (x ∷ xs) (length xs) e (omega arith) (sym (g ∙ ap (slice_get (x ∷ xs)) q))

pub returns-in-Some : goal.returns-in-Some
returns-in-Some c = c.serial.ensures ∙ last-of c.args.entries.now c.in-Some.entry.now c.in-Some.ensures.value
