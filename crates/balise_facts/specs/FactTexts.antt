-- Facts of a session, as they are printed (this project's text).
use Rattle.std.specs.Prelude.{ℕ, eqb, List, [], ◌∷◌, ◌++◌, codes, decimal, find, map, Option, Some, None}
use Rattle.std.specs.Result.{result_unwrap_or}
use Rattle.balise_rules.specs.Paths.{Entry, Path, changes, needs}
use Rattle.balise_rules.specs.Session.{State, entries, held}
use Rattle.balise_history.specs.Dependents.{dependents_of}
use Rattle.balise_text.specs.Texts.{Text, text_of, whole_line}
use Rattle.balise_facts.specs.PlaceTexts.{place_text}
use Rattle.balise_facts.specs.TagTexts.{tags_text}
use Rattle.balise_facts.specs.declared.facts.Facts.{Facts}
use Rattle.balise_facts.specs.declared.facts.Facts.TheVariants.{Edits, Edit, Tags}

-- NAME SERIAL
abbrev pub serial_line : Text → ℕ → Text
serial_line name s = whole_line (name ∷ decimal s ∷ [])

-- NAME PLACE
abbrev pub place_line : Text → Path → Text
place_line name p = whole_line (name ∷ place_text p ∷ [])

-- the lines of a serial, of places that are changed and needed, and of the serials of dependents
abbrev pub lines_text : ℕ → List Path → List Path → List ℕ → Text
lines_text s changed needed dependents =
    serial_line (codes "edit") s
    ++ (text_of (map (place_line (codes "changes")) changed)
    ++ (text_of (map (place_line (codes "needs")) needed)
    ++ text_of (map (serial_line (codes "dependent")) dependents)))

-- one of these standing entries: its serial, what it changes and needs, and the later ones that depend on it
abbrev pub edit_text : List Entry → Entry → Text
edit_text es e = lines_text e.0.0 (changes e) (needs e) (result_unwrap_or (dependents_of e.0.0 es) [])

-- each of them
abbrev pub edits_text : List Entry → Text
edits_text es = text_of (map (edit_text es) es)

-- one of them, or none
abbrev pub edit_if : List Entry → Option Entry → Text
edit_if es None = []
edit_if es (Some e) = edit_text es e

-- the one of a serial, if it stands
abbrev pub one_text : ℕ → List Entry → Text
one_text s es = edit_if es (find (λ (e : Entry). eqb s e.0.0) es)

-- the facts of a session, after a first line
abbrev pub told : Facts → State → Text
told Edits s = edits_text (entries s.base s.standing)
told (Edit n) s = one_text n (entries s.base s.standing)
told Tags s = tags_text (held s)

abbrev pub facts_text : Facts → State → Text
facts_text facts s = codes "facts 1\n" ++ told facts s
