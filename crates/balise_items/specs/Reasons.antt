-- Why an item is refused, where, and the words for it.
use Rattle.std.specs.Prelude.{◌≡◌, ◌+◌, ℕ, List, [], ◌∷◌, ◌++◌, Bool, codes, decimal, Result, Ok, Err, ⊤}
use Rattle.balise_rules.specs.Variables.{name_of as var_name}
use Rattle.balise_codec.specs.declared.misfit.Misfit.{Misfit}
use Rattle.balise_codec.specs.declared.misfit.Misfit.TheVariants as misfit
use Rattle.balise_text.specs.Texts.{Text, whole_line}
use Rattle.balise_items.specs.declared.reason.Bad.{Bad}
use Rattle.balise_items.specs.declared.reason.Reason.{Reason}
use Rattle.balise_items.specs.declared.reason.Reason.TheVariants.{BadLine, BadHex, UnknownName, NotDue, TooWide, Spare, NoFields, TooMany, Missing, NoEnd, TooLong, BitsLeft, OtherLength, BadLength, NotABalise}
use Rattle.balise_items.specs.declared.reason.Stop.{Stop}
use Rattle.balise_items.specs.declared.reason.Stop.TheVariants as stop
use Rattle.balise_items.specs.Sections.{Given}

abbrev pub bad : ℕ → Reason → Bad
bad n r = record { line = n; reason = r }

abbrev pub reason_of : Misfit → Reason
reason_of (misfit.NotDue v) = NotDue v
reason_of misfit.TooWide = TooWide
reason_of (misfit.Missing v) = Missing v
reason_of misfit.TooMany = TooMany
reason_of misfit.Spare = Spare
reason_of misfit.NoFields = NoFields

-- the line of a section's value, by its place from 0; the line after them, by their number
abbrev pub line_of : Given → ℕ → ℕ
line_of s i = s.line + 1 + i

-- the bits of one part and then of another, or the first reason why there are none
abbrev pub joined : Result (List Bool) Bad → Result (List Bool) Bad → Result (List Bool) Bad
joined (Err e) r = Err e
joined (Ok b) (Err e) = Err e
joined (Ok b) (Ok c) = Ok (b ++ c)

-- these bits were added
abbrev pub Adds : List Bool → List Bool → Result (List Bool) Bad → Type 0
Adds old new r = (b : List Bool) × (r ≡ Ok b) × (new ≡ old ++ b)

-- for this reason there are none, or memory ran out
abbrev pub Stops : Result (List Bool) Bad → Stop → Type 0
Stops r (stop.Bad e) = r ≡ Err e
Stops r stop.OutOfMemory = ⊤

abbrev pub name_of : Reason → Text
name_of BadLine = codes "BadLine"
name_of BadHex = codes "BadHex"
name_of UnknownName = codes "UnknownName"
name_of (NotDue v) = codes "NotDue"
name_of TooWide = codes "TooWide"
name_of Spare = codes "Spare"
name_of NoFields = codes "NoFields"
name_of TooMany = codes "TooMany"
name_of (Missing v) = codes "Missing"
name_of NoEnd = codes "Missing"
name_of TooLong = codes "TooLong"
name_of BitsLeft = codes "BitsLeft"
name_of (OtherLength n) = codes "OtherLength"
name_of (BadLength n) = codes "BadLength"
name_of NotABalise = codes "NotABalise"

-- the word for what was due, if there is one
abbrev pub due_words : Reason → List Text
due_words (NotDue v) = var_name v ∷ []
due_words (Missing v) = var_name v ∷ []
due_words NoEnd = codes "end" ∷ []
due_words (OtherLength n) = decimal n ∷ []
due_words (BadLength n) = decimal n ∷ []
due_words _ = []

-- bad LINE NAME, and DUE
abbrev pub bad_text : Bad → Text
bad_text x = whole_line (codes "bad" ∷ decimal x.line ∷ name_of x.reason ∷ due_words x.reason)
