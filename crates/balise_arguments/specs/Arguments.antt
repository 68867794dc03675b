-- The command line of `baliseplan`, as clap reads it: four arguments without values, and clap's own --help. It has no version, so that --version is an unknown word.
use Rattle.std.specs.Prelude.{◌≡◌, List, [], codes}
use Rattle.clap.specs.Words.{App, Text, fault_of, new_app, with_rule}
use Rattle.balise_arguments.specs.CommandLines.{IsGiven, flag_rule}

unfoldable pub program : App
program = with_rule (with_rule (with_rule (with_rule (new_app (codes "baliseplan"))
    (flag_rule (codes "quiet"))) (flag_rule (codes "stop"))) (flag_rule (codes "journal"))) (flag_rule (codes "json"))

-- clap finds the argument among the words
abbrev pub IsUsed : Text → List Text → Type 0
IsUsed name words = IsGiven program name words

-- clap has nothing against the words
abbrev pub AreAccepted : List Text → Type 0
AreAccepted words = fault_of program words ≡ []
