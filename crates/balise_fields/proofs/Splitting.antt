-- A line and its words, the first before the others.
use Rattle.std.proofs.Common.{◌≡◌, ◌∙◌, ℕ, ◌+◌, ◌-◌, List, [], ◌∷◌, length, take, drop, Some, None, false, refl, sym, ap, arith}
use Rattle.std.specs.Prelude.{position, ◌==◌}
use Rattle.std.proofs.lemmas.List.{take_all, length-drop}
use Rattle.balise_text.specs.Words.{Word, parts_of, words_of}
use Rattle.balise_text.proofs.Parts.{one_part, first_part}
use Rattle.balise_fields.specs.FewWords.{are_few}

pub first_of_more : (text : Word) (i : ℕ) → position (λ b. b == 32) text ≡ Some i → words_of text ≡ take i text ∷ words_of (take (length text - (i + 1)) (drop (i + 1) text))
first_of_more text i e =
    let rest : take (length text - (i + 1)) (drop (i + 1) text) ≡ drop (i + 1) text = take_all (length text - (i + 1)) (drop (i + 1) text) (omega (arith, length-drop (i + 1) text)) in
    first_part 32 text i e ∙ ap (λ (x : Word). take i text ∷ parts_of 32 x) (sym rest)

pub only_one : (text : Word) → position (λ b. b == 32) text ≡ None → words_of text ≡ text ∷ []
only_one text e = one_part 32 text e

-- five words are more than few
pub too_many : (ws : List Word) (a b c d : Word) (more fewer fewest last : List Word) → ws ≡ a ∷ more → more ≡ b ∷ fewer → fewer ≡ c ∷ fewest → fewest ≡ d ∷ last → (last ≡ [] → ⊥) → are_few ws ≡ false
too_many ws a b c d more fewer fewest last e f g h n =
    let whole : ws ≡ a ∷ b ∷ c ∷ d ∷ last = e ∙ ap (λ (x : List Word). a ∷ x) (f ∙ ap (λ (x : List Word). b ∷ x) (g ∙ ap (λ (x : List Word). c ∷ x) h)) in
    ap are_few whole ∙ by last n
  where
    by : (x : List Word) → (x ≡ [] → ⊥) → are_few (a ∷ b ∷ c ∷ d ∷ x) ≡ false
    by [] n = absurd (n refl)
    by (y ∷ ys) n = refl
