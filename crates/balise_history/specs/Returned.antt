-- The standing entries with all of the stack put back, without a plan: each has the note that it is kept with.
use Rattle.std.specs.Prelude.{List, [], ◌∷◌, ◌++◌, take, drop, Some}
use Rattle.balise_rules.specs.declared.tag.Tag.TheVariants.{Fresh}
use Rattle.balise_rules.specs.Notes.{without_content}
use Rattle.balise_rules.specs.Paths.{Entry}
use Rattle.balise_strike_laws.specs.InSession.{Rising}
use Rattle.balise_history.specs.Lists.{Gone, items_of, place_of, entries_re_anchored, Ascends}

-- an entry without the content that its edit took out, which stands in the plan where the edit is taken back
abbrev pub bare : Entry → Entry
bare e = (e.0, without_content e.1)

-- with one put at its own place, and those that stood after it anchored on what it puts in
abbrev pub returned : List Entry → Gone → List Entry
returned es r = take (place_of r.0.0.0 es) es ++ r.0 ∷ entries_re_anchored (Some (Fresh r.0.0.0)) r.1 (drop (place_of r.0.0.0 es) es)

abbrev pub all_returned : List Gone → List Entry → List Entry
all_returned [] es = es
all_returned (r ∷ rs) es = all_returned rs (returned es r)

-- serials rise at each step
abbrev pub AllReturn : List Gone → List Entry → Type 0
AllReturn [] es = Unit {0}
AllReturn (r ∷ rs) es = Rising (items_of es) × Ascends r.1 × AllReturn rs (returned es r)
