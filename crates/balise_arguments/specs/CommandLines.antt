-- Arguments of any program's command line, as clap reads them.
use Rattle.std.specs.Prelude.{◌≡◌, List, Some, codes}
use Rattle.clap.specs.Words.{App, Rule, Text, first_of, matches_of, new_rule}
use Rattle.clap.specs.declared.builder.ArgAction.TheVariants.{SetTrue}

-- an argument `--NAME` that takes no value
abbrev pub flag_rule : Text → Rule
flag_rule name = record (new_rule name) { long = Some name; action = Some SetTrue }

-- clap finds such an argument of the program among the words
abbrev pub IsGiven : App → Text → List Text → Type 0
IsGiven program name words = first_of name (matches_of program words) ≡ Some (codes "true")
