-- What is left of a text that a list gives, one item after another.
use Rattle.std.proofs.Common.{◌≡◌, ◌∙◌, ℕ, ◌+◌, ◌<◌, ◌≤◌, List, [], ◌∷◌, ◌++◌, codes, length, drop, map, get_or, refl, sym, ap, append_assoc}
use Rattle.std.proofs.lemmas.List.{append-nil, drop_all, drop_more}
use Rattle.balise_text.specs.Texts.{Text, text_of, behind_marks}

-- Texts one after another.

pub text_left : {X : Type 0} (f : X → Text) (xs : List X) (i : ℕ) (d : X) → i < length xs → text_of (map f (drop i xs)) ≡ f (get_or xs i d) ++ text_of (map f (drop (i + 1) xs))
text_left f xs i d h = ap (λ ys. text_of (map f ys)) (drop_more xs i d h)

pub no_text_left : {X : Type 0} (f : X → Text) (xs : List X) (i : ℕ) → length xs ≤ i → text_of (map f (drop i xs)) ≡ []
no_text_left f xs i h = ap (λ ys. text_of (map f ys)) (drop_all i xs h)

-- Words with a separator before each.

pub word_left : {X : Type 0} (mark : ℕ) (f : X → Text) (xs : List X) (i : ℕ) (d : X) → i < length xs → behind_marks mark (map f (drop i xs)) ≡ mark ∷ (f (get_or xs i d) ++ behind_marks mark (map f (drop (i + 1) xs)))
word_left mark f xs i d h = ap (λ ys. behind_marks mark (map f ys)) (drop_more xs i d h)

-- one of them, after its space, and those after it
pub item_word : {X : Type 0} (f : X → Text) (xs : List X) (i : ℕ) (x : X) → i < length xs → x ≡ get_or xs i x → behind_marks 32 (map f (drop i xs)) ≡ codes " " ++ (f x ++ behind_marks 32 (map f (drop (i + 1) xs)))
item_word f xs i x h e = word_left 32 f xs i x h ∙ ap (λ y. 32 ∷ (f y ++ behind_marks 32 (map f (drop (i + 1) xs)))) (sym e)

-- the same, as a list of one word
pub item_marked : {X : Type 0} (f : X → Text) (xs : List X) (i : ℕ) (x : X) → i < length xs → x ≡ get_or xs i x → behind_marks 32 (map f (drop i xs)) ≡ behind_marks 32 (f x ∷ []) ++ behind_marks 32 (map f (drop (i + 1) xs))
item_marked f xs i x h e = item_word f xs i x h e ∙ ap (λ (t : Text). 32 ∷ (t ++ behind_marks 32 (map f (drop (i + 1) xs)))) (sym (append-nil (f x)))

pub behind-append : (mark : ℕ) (vs ws : List Text) → behind_marks mark (vs ++ ws) ≡ behind_marks mark vs ++ behind_marks mark ws
behind-append mark [] ws = refl
behind-append mark (v ∷ vs) ws = ap (λ (t : Text). mark ∷ t) (ap (λ (t : Text). v ++ t) (behind-append mark vs ws) ∙ sym (append_assoc v (behind_marks mark vs) (behind_marks mark ws)))
