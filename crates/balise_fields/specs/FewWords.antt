-- The words after the first of a line, where they are few.
use Rattle.std.specs.Prelude.{◌≡◌, Bool, true, false, List, [], ◌∷◌}
use Rattle.balise_text.specs.Words.{Word}
use Rattle.balise_fields.specs.declared.words.Few.{Few}
use Rattle.balise_fields.specs.declared.words.Few.TheVariants.{Zero, One, Two, Four, Other}

-- none, one, two or four
abbrev pub are_few : List Word → Bool
are_few [] = true
are_few (a ∷ []) = true
are_few (a ∷ b ∷ []) = true
are_few (a ∷ b ∷ c ∷ d ∷ []) = true
are_few _ = false

-- these are the words, or their number is one that no form has
abbrev pub AreFew : Few → List Word → Type 0
AreFew Zero ws = ws ≡ []
AreFew (One a) ws = ws ≡ a.now ∷ []
AreFew (Two a b) ws = ws ≡ a.now ∷ b.now ∷ []
AreFew (Four a b c d) ws = ws ≡ a.now ∷ b.now ∷ c.now ∷ d.now ∷ []
AreFew Other ws = are_few ws ≡ false
