-- The texts of the items of a list.
use Rattle.std.proofs.Common.{◌≡◌, ◌∙◌, ◌⊎◌, inl, inr, ℕ, ◌+◌, ◌<◌, ◌≤◌, List, [], ◌∷◌, ◌++◌, length, drop, map, get_or, Some, None, reverse, refl, sym, ap}
use Rattle.std.specs.List.{slice_get}
use Rattle.std.proofs.lemmas.Option.{slice_get_within, slice_get_cases, get_or_from_slice_get}
use Rattle.std.proofs.lemmas.List.{append-nil}
use Rattle.balise_rules.specs.Journal.{Line, line_of, lines, undone}
use Rattle.balise_rules.specs.Paths.{Entry}
use Rattle.balise_rules.specs.Session.{Removed, State}
use Rattle.balise_text.specs.Texts.{Text, text_of}
use Rattle.balise_text.proofs.Lists.{text_left, no_text_left}
use Rattle.balise_text.specs.Entries.{head_text}
use Rattle.balise_cli.specs.PlanTexts.{entry_line, journal_text, undone_line, with_end}
use Rattle.balise_cli.specs.Private.{told}

-- the item at a place stands next
pub text_next : {X : Type 0} (f : X → Text) (xs : List X) (i : ℕ) (x : X) → i < length xs → x ≡ get_or xs i x → text_of (map f (drop i xs)) ≡ f x ++ text_of (map f (drop (i + 1) xs))
text_next f xs i x h e = text_left f xs i x h ∙ ap (λ y. f y ++ text_of (map f (drop (i + 1) xs))) (sym e)

pub text_at : {X : Type 0} (f : X → Text) (xs : List X) (i : ℕ) (x : X) → Some x ≡ slice_get xs i → text_of (map f (drop i xs)) ≡ f x ++ text_of (map f (drop (i + 1) xs))
text_at f xs i x e = text_next f xs i x (slice_get_within xs i x (sym e)) (sym (get_or_from_slice_get xs i x x (sym e)))

past : {X : Type 0} (xs : List X) (i : ℕ) → ((x : X) × (i < length xs) × (slice_get xs i ≡ Some x) × (get_or xs i x ≡ x)) ⊎ ((length xs ≤ i) × (slice_get xs i ≡ None)) → None ≡ slice_get xs i → length xs ≤ i
past xs i (inl h) e = let z : None ≡ Some h.0 = e ∙ h.2 in absurd cc
past xs i (inr h) e = h.0

-- where there is no item, nothing is left
pub no_text_at : {X : Type 0} (f : X → Text) (xs : List X) (i : ℕ) → None ≡ slice_get xs i → text_of (map f (drop i xs)) ≡ []
no_text_at f xs i e = no_text_left f xs i (past xs i (slice_get_cases xs i).1 e)

-- the lines of entries are those that the entries are printed as
pub told_text : (es : List Entry) (ls : List Line) → map line_of es ≡ ls → text_of (map entry_line ls) ≡ text_of (map told es)
told_text es ls e = ap (λ ys. text_of (map entry_line ys)) (sym e) ∙ same_lines es
  where
    same_lines : (es : List Entry) → text_of (map entry_line (map line_of es)) ≡ text_of (map told es)
    same_lines [] = refl
    same_lines (e ∷ es) = ap (λ (t : Text). told e ++ t) (same_lines es)

-- where nothing is undone, the journal is its first line and the standing entries
pub standing_text : (s : State) (es : List Entry) → map line_of es ≡ lines s → s.stack ≡ [] → journal_text s ≡ with_end (head_text s.serial) ++ text_of (map told es)
standing_text s es e n =
    let entries : Text = text_of (map entry_line (lines s)) in
    let none : text_of (map undone_line (undone s)) ≡ [] = ap (λ (rs : List Removed). text_of (map undone_line (reverse (map (λ (r : Removed). r.item.0) rs)))) n in
    ap (λ (t : Text). with_end (head_text s.serial) ++ t) (ap (λ (t : Text). entries ++ t) none ∙ append-nil entries ∙ told_text es (lines s) e)
