-- Places as they are printed: the steps of a path, with a slash or a point between two of them (this project's text).
use Rattle.std.specs.Prelude.{◌++◌, [], ◌∷◌, codes, decimal}
use Rattle.balise_rules.specs.Paths.{Part, Path, At, Nth, Of, Start, End, After, Front, Turn, Name, Head, Whose}
use Rattle.balise_rules.specs.Variables.{name_of}
use Rattle.balise_text.specs.Texts.{Text}
use Rattle.balise_text.specs.Places.{tag_text}
use Rattle.balise_text.specs.Reviews.{id_text}

-- one step
abbrev pub step_text : Part → Text
step_text (At a) = tag_text a
step_text (Nth n) = decimal n
step_text (Of v) = name_of v
step_text Start = codes "^"
step_text End = codes "$"
step_text After = codes "after"
step_text Front = codes "front"
step_text Turn = codes "turn"
step_text Name = codes "name"
step_text Head = codes "head"
step_text (Whose i) = codes "#" ++ id_text i

-- What stands between a step and the next: a point before a side, the orientation or a variable of the thing that the
-- path leads to, and before the occurrence of a variable; otherwise a slash.
abbrev pub mark_between : Part → Part → Text
mark_between (Of v) q = codes "."
mark_between p (Of v) = codes "."
mark_between p After = codes "."
mark_between p Front = codes "."
mark_between p Turn = codes "."
mark_between p Name = codes "."
mark_between p q = codes "/"

-- the steps after one, each with what stands before it
abbrev pub steps_after : Part → Path → Text
steps_after p [] = []
steps_after p (q ∷ qs) = mark_between p q ++ (step_text q ++ steps_after q qs)

abbrev pub place_text : Path → Text
place_text [] = []
place_text (p ∷ ps) = step_text p ++ steps_after p ps
