-- The parts that are left, where the next one is taken.
use Rattle.std.proofs.Common.{◌≡◌, ◌∙◌, ℕ, ◌+◌, ◌-◌, List, [], ◌∷◌, Bool, true, false, cond, length, take, drop, Option, Some, None, option_map, refl, sym, ap}
use Rattle.std.specs.Prelude.{position, ◌==◌, IsTrue}
use Rattle.std.proofs.lemmas.List.{take_rest}
use Rattle.balise_text.specs.declared.words.Words.{Words}
use Rattle.balise_text.specs.Words.{Word, no_more, parts_of}
use Rattle.balise_text.specs.Left.{left}
use Rattle.balise_text.proofs.Parts.{one_part, first_part, some_part}

abbrev found : Words → Option ℕ
found w = position (λ b. b == w.mark) w.text.now

pub left_more : (w : Words) (i : ℕ) → w.over ≡ false → found w ≡ Some i → left w ≡ take i w.text.now ∷ parts_of w.mark (take (length w.text.now - (i + 1)) (drop (i + 1) w.text.now))
left_more w i o e =
    let t = w.text.now in
    ap (λ (b : Bool). cond b [] (parts_of w.mark t)) o ∙ first_part w.mark t i e ∙ ap (λ (x : Word). take i t ∷ parts_of w.mark x) (sym (take_rest t (i + 1)))

pub left_last : (w : Words) → w.over ≡ false → found w ≡ None → left w ≡ w.text.now ∷ []
left_last w o e = ap (λ (b : Bool). cond b [] (parts_of w.mark w.text.now)) o ∙ one_part w.mark w.text.now e

pub over_is : (w : Words) → (IsTrue w.over → left w ≡ []) × (left w ≡ [] → IsTrue w.over)
over_is w = by w.over (parts_of w.mark w.text.now) (some_part w.mark w.text.now)
  where
    by : (b : Bool) (ps : List Word) → (ps ≡ [] → ⊥) → (IsTrue b → cond b [] ps ≡ []) × (cond b [] ps ≡ [] → IsTrue b)
    by true ps h = (λ t. refl, λ e. refl)
    by false ps h = (λ t. absurd cc, λ e. absurd (h e))

-- where a part is left, there is no end
pub no_end : {A : Type 0} (w : Words) (x : A) → w.over ≡ false → None ≡ no_more (left w) x
no_end {A} w x o = by w.over (parts_of w.mark w.text.now) (some_part w.mark w.text.now) o
  where
    by : (b : Bool) (ps : List Word) → (ps ≡ [] → ⊥) → b ≡ false → None ≡ no_more (cond b [] ps) x
    by true ps h e = absurd cc
    by false [] h e = absurd (h refl)
    by false (p ∷ ps) h e = refl

-- what is read at the end, as something else
pub map_at_end : {A B : Type 0} (f : A → B) (ws : List Word) (x : A) → option_map f (no_more ws x) ≡ no_more ws (f x)
map_at_end f [] x = refl
map_at_end f (w ∷ ws) x = refl
