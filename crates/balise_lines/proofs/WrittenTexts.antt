-- Texts that were written one after another, all of them or up to a fault.
use Rattle.std.proofs.Common.{◌≡◌, ◌≢◌, ℕ, ◌-◌, List, [], ◌∷◌, ◌++◌, length, take, drop, Option, refl, sym, ap, ◌∙◌, append_assoc, take-append-drop}
use Rattle.std.proofs.lemmas.List.{take_rest}
use Rattle.std.specs.Io.KnownBytes.{Appends}
use Rattle.std.proofs.KnownBytes.{Appends-nil, Appends-trans}
use Rattle.balise_lines.specs.Writing.{AppendsPart, AppendsSome}

-- the writer took the first n bytes of the rest
pub rest_shrinks : (text done rest : List ℕ) (n : ℕ) → text ≡ done ++ rest → text ≡ (done ++ take n rest) ++ take (length rest - n) (drop n rest)
rest_shrinks text done rest n e =
    e ∙ ap (λ l. done ++ l) (sym (take-append-drop n rest)) ∙ sym (append_assoc done (take n rest) (drop n rest))
    ∙ ap (λ l. (done ++ take n rest) ++ l) (sym (take_rest rest n))

-- where something is left of a text, it is also of one that goes on after it
pub more_left : (rest more : List ℕ) → rest ≢ [] → rest ++ more ≢ []
more_left [] more h = absurd (h refl)
more_left (b ∷ rest) more h = λ e. absurd cc

-- nothing was written: it is a beginning of any text
pub some_nothing : (old : Option (List ℕ)) (text : List ℕ) → AppendsSome old old text
some_nothing old text = record { done = []; begins = (text, refl); appended = Appends-nil old }

-- a beginning of the first text was written: it is a beginning of both
pub some_front : (old new : Option (List ℕ)) (xs ys : List ℕ) → AppendsSome old new xs → AppendsSome old new (xs ++ ys)
some_front old new xs ys w = record {
  done = w.done;
  begins = (w.begins.0 ++ ys, sym (append_assoc w.done w.begins.0 ys) ∙ ap (λ t. t ++ ys) w.begins.1);
  appended = w.appended;
}

-- the first text was written, and a beginning of the second
pub some_after : (old mid new : Option (List ℕ)) (xs ys : List ℕ) → Appends old mid xs → AppendsSome mid new ys → AppendsSome old new (xs ++ ys)
some_after old mid new xs ys p w = record {
  done = xs ++ w.done;
  begins = (w.begins.0, append_assoc xs w.done w.begins.0 ∙ ap (λ t. xs ++ t) w.begins.1);
  appended = Appends-trans old mid new _ _ p w.appended;
}

-- not all of the first was written: nor of both
pub part_front : (old new : Option (List ℕ)) (xs ys : List ℕ) → AppendsPart old new xs → AppendsPart old new (xs ++ ys)
unfolding some_front
part_front old new xs ys w = (some_front old new xs ys w.0, more_left w.0.begins.0 ys w.1)

-- the first text was written, and not all of the second
pub part_after : (old mid new : Option (List ℕ)) (xs ys : List ℕ) → Appends old mid xs → AppendsPart mid new ys → AppendsPart old new (xs ++ ys)
unfolding some_after
part_after old mid new xs ys p w = (some_after old mid new xs ys p w.0, w.1)
