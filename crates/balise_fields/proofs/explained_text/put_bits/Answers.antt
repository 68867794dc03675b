-- The line of bits is written part by part.
use Rattle.std.proofs.Common.{◌≡◌, ◌∙◌, ◌==◌, ◌++◌, ◌∷◌, [], ℕ, Bool, List, false, codes, decimal, length, refl, sym, ap}
use Rattle.std.proofs.lemmas.Bool.{eqb-false}
use Rattle.balise_lines.specs.Writing.{LastFailed}
use Rattle.balise_text.specs.Texts.{Text, text_of}
use Rattle.balise_fields.specs.ExplainedTexts.{bits_text}
use Rattle.balise_text.specs.Printing.{fours_of}
use Rattle.balise_fields.proofs.Sequences.{behind, bits_parts, some_behind, some_front_of}
use Rattle.balise_fields.proofs.explained_text.put_bits.Goals as goal

parts : (name : Text) (b : List Bool) (n : ℕ) → (length b == 0) ≡ false → n ≡ length b → bits_text name b ≡ text_of (name ∷ codes " " ∷ decimal n ∷ codes " " ∷ []) ++ (fours_of b ++ codes "\n")
parts name b n some is = bits_parts name b (eqb-false (length b) 0 some) ∙ ap (λ k. text_of (name ∷ codes " " ∷ decimal k ∷ codes " " ∷ []) ++ (fours_of b ++ codes "\n")) (sym is)

pub returns-in-Err : goal.returns-in-Err
returns-in-Err g c = some_front_of LastFailed _ _ _ _ _ _ (parts c.args.name.now c.args.bits.now c.len.result (sym c.is_empty.ensures ∙ c.if-is_empty.false) c.len.ensures) c.in-Err.ensures

pub returns-in-Err-put_fours : goal.returns-in-Err-put_fours
returns-in-Err-put_fours g c =
    some_behind LastFailed _ _ _ _ _ _ _ (parts c.args.name.now c.args.bits.now c.len.result (sym c.is_empty.ensures ∙ c.if-is_empty.false) c.len.ensures) c.in_default.ensures
    (some_front_of LastFailed _ _ (fours_of c.args.bits.now) (codes "\n") _ _ refl c.in-Err-put_fours.ensures)

pub returns : goal.returns
returns g c =
    behind (λ _. LastFailed) _ c.put.result _ _ _ _ _ _ (parts c.args.name.now c.args.bits.now c.len.result (sym c.is_empty.ensures ∙ c.if-is_empty.false) c.len.ensures) c.in_default.ensures
    (behind (λ _. LastFailed) _ c.put.result _ (fours_of c.args.bits.now) (codes "\n") _ _ _ refl c.in_default-put_fours.ensures c.put.ensures)
