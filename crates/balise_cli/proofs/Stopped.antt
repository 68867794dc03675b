-- Where memory runs out something is left to be written.
use Rattle.std.proofs.Common.{◌≡◌, ◌≢◌, ◌∙◌, ℕ, List, [], ◌∷◌, ◌++◌, length, map, reverse, Option, refl, sym, ap}
use Rattle.std.proofs.KnownBytes.{Appends-nil}
use Rattle.std.proofs.lemmas.List.{length-reverse}
use Rattle.balise_rules.specs.Journal.{undone}
use Rattle.balise_rules.specs.Session.{Removed, State}
use Rattle.balise_lines.specs.Writing.{NoneFailed, WritesSome}
use Rattle.balise_lines.specs.declared.counted.Counted.{Counted}
use Rattle.balise_lines.proofs.PartsWritten.{Wrote}
use Rattle.balise_lines.proofs.WrittenTexts.{more_left}
use Rattle.balise_text.specs.Texts.{Text, text_of}
use Rattle.balise_text.specs.Entries.{undone_text}
use Rattle.balise_cli.specs.PlanTexts.{undone_line, with_end}

-- nothing of the text was written
pub nothing_yet : {W : Type 0} (contents : W → Option (List ℕ)) (now : Counted W) (text : List ℕ) → text ≢ [] → WritesSome NoneFailed contents now now text
nothing_yet contents now text h = record { begun = record { done = []; begins = (text, refl); appended = Appends-nil (contents now.inner) }; cause = refl; left = h }

-- the rest of it was left
pub stopped : {W : Type 0} (contents : W → Option (List ℕ)) (text rest : List ℕ) (old now : Counted W) → rest ≢ [] → Wrote contents text rest old now → WritesSome NoneFailed contents old now text
stopped contents text rest old now h w = record { begun = record { done = w.done; begins = (rest, sym w.all); appended = w.appended }; cause = w.unfailed; left = h }

-- a line has its end
pub line_is_some : (t : Text) → with_end t ≢ []
line_is_some [] = λ e. absurd cc
line_is_some (b ∷ t) = λ e. absurd cc

-- where a line comes first, the rest is some
pub line_left : (rest : Text) (t more : Text) → rest ≡ with_end t ++ more → rest ≢ []
line_left rest t more e = λ z. more_left (with_end t) more (line_is_some t) (sym e ∙ z)

behind_some : (xs ys : Text) → ys ≢ [] → xs ++ ys ≢ []
behind_some [] ys h = h
behind_some (x ∷ xs) ys h = λ e. absurd cc

lines_are_some : (ns : List ℕ) → ns ≢ [] → text_of (map undone_line ns) ≢ []
lines_are_some [] h = absurd (h refl)
lines_are_some (n ∷ ns) h = more_left (undone_line n) (text_of (map undone_line ns)) (line_is_some (undone_text n))

serials_are_some : (rs : List Removed) → rs ≢ [] → reverse (map (λ (r : Removed). r.item.0) rs) ≢ []
serials_are_some [] h = absurd (h refl)
serials_are_some (r ∷ rs) h = λ e.
    let z : 0 ≡ length (map (λ (r : Removed). r.item.0) (r ∷ rs)) = sym (ap length e) ∙ length-reverse (map (λ (r : Removed). r.item.0) (r ∷ rs)) in absurd cc

-- where something is undone, its lines are some, whatever comes before them
pub undone_is_some : (s : State) (front : Text) → s.stack ≢ [] → front ++ text_of (map undone_line (undone s)) ≢ []
undone_is_some s front h = behind_some front (text_of (map undone_line (undone s))) (lines_are_some (undone s) (serials_are_some s.stack h))
