-- The program's command line, as clap reads it, what it asks for, and why words are refused.
use Rattle.std.specs.Prelude.{◌≡◌, ◌⊎◌, ◌<◌, ◌^◌, ℕ, Bool, true, false, List, [], codes}
use Rattle.std.specs.Prelude.{Some, None, Option, Result, Ok, Err, ⊤}
use Rattle.std.specs.Str.Parse.{IsNumeral, digits_value, without_leading_plus}
use Rattle.clap.specs.Words.{App, Rule, Text, fault_of, first_of, kind_of, matches_of}
use Rattle.clap.specs.Words.{new_app, new_rule, with_rule}
use Rattle.clap.specs.declared.builder.ArgAction.TheVariants.{Set}
use Rattle.clap.specs.declared.error.ErrorKind.{ErrorKind}
use Rattle.clap.specs.declared.error.ErrorKind.TheVariants.{ArgumentConflict, ValueValidation}
use Rattle.balise_arguments.specs.CommandLines.{IsGiven, flag_rule}
use Rattle.balise_arguments.specs.Faults.{IsFaultOf}
use Rattle.balise_arguments.specs.declared.fault.ArgsFault.{ArgsFault}
use Rattle.balise_arguments.specs.declared.fault.ArgsFault.TheVariants.{Help, Memory, Other}
use Rattle.balise_facts.specs.declared.facts.Facts.{Facts}
use Rattle.balise_facts.specs.declared.facts.Facts.TheVariants.{Edits, Edit, Tags}

-- the argument --edit with a value, which has a name in the help
abbrev pub edit_rule : Rule
edit_rule = record (new_rule (codes "edit")) { long = Some (codes "edit"); action = Some Set; value_names = 1 }

-- these two arguments, and clap's own --help; no version, so that --version is an unknown word
unfoldable pub program : App
program = with_rule (with_rule (new_app (codes "balisefacts")) edit_rule) (flag_rule (codes "tags"))

-- what clap finds after --edit, if that is among the words
abbrev pub edit_of : List Text → Option Text
edit_of words = first_of (codes "edit") (matches_of program words)

-- clap finds --tags among the words
abbrev pub IsTags : List Text → Type 0
IsTags words = IsGiven program (codes "tags") words

-- the text is a number of 32 bits in decimal, perhaps with a plus before it
abbrev pub IsSerial : Text → Type 0
IsSerial text =
    IsNumeral 10 (without_leading_plus text) × (digits_value 10 (without_leading_plus text) < 2 ^ 32)

abbrev pub serial_of : Text → ℕ
serial_of text = digits_value 10 (without_leading_plus text)

-- the words ask for these facts
abbrev pub AskedFor : List Text → Facts → Type 0
AskedFor words Edits = (edit_of words ≡ None) × ¬ IsTags words
AskedFor words Tags = (edit_of words ≡ None) × IsTags words
AskedFor words (Edit n) =
    (text : Text) × ((edit_of words ≡ Some text) × ¬ IsTags words × IsSerial text × (n ≡ serial_of text))

-- clap has nothing against the words, but they have both arguments, or what follows --edit is no serial
abbrev pub IsMistake : List Text → ErrorKind → Type 0
IsMistake words kind =
    (fault_of program words ≡ [])
    × ((text : Text) × ((edit_of words ≡ Some text)
    × ((IsTags words × (kind ≡ ArgumentConflict))
    ⊎ (¬ IsTags words × ¬ IsSerial text × (kind ≡ ValueValidation)))))

-- Clap has nothing against the words, and they ask for these facts. Or help, where clap is asked for it; memory at any
-- time; and each other mistake.
abbrev pub Asks : List Text → Result Facts ArgsFault → Type 0
Asks words (Ok facts) = (fault_of program words ≡ []) × AskedFor words facts
Asks words (Err (Help e)) = IsFaultOf program words (Help e)
Asks words (Err Memory) = ⊤
Asks words (Err (Other e)) = IsFaultOf program words (Other e) ⊎ IsMistake words (kind_of e)

-- What the words ask for, by what clap found of the two arguments.

-- a mistake of this kind, or no memory for it
abbrev pub IsFound : ErrorKind → ArgsFault → Type 0
IsFound kind (Help e) = ⊥
IsFound kind Memory = ⊤
IsFound kind (Other e) = kind_of e ≡ kind

abbrev pub ChoosesEdit : Text → Bool → Result Facts ArgsFault → Type 0
ChoosesEdit text true (Ok facts) = ⊥
ChoosesEdit text true (Err fault) = IsFound ArgumentConflict fault
ChoosesEdit text false (Ok facts) = IsSerial text × (facts ≡ Edit (serial_of text))
ChoosesEdit text false (Err fault) = ¬ IsSerial text × IsFound ValueValidation fault

abbrev pub Chooses : Option Text → Bool → Result Facts ArgsFault → Type 0
Chooses None false r = r ≡ Ok Edits
Chooses None true r = r ≡ Ok Tags
Chooses (Some text) tags r = ChoosesEdit text tags r
