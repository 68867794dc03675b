-- The program's command line, as clap reads it, and what its words ask for.
use Rattle.std.specs.Prelude.{◌≡◌, List, [], Result, Ok, Err, codes}
use Rattle.clap.specs.Words.{App, Text, fault_of, new_app, with_rule}
use Rattle.balise_arguments.specs.CommandLines.{IsGiven, flag_rule}
use Rattle.balise_arguments.specs.Faults.{IsFaultOf}
use Rattle.balise_arguments.specs.declared.fault.ArgsFault.{ArgsFault}
use Rattle.balise_fields_run.specs.declared.way.Way.{Way}
use Rattle.balise_fields_run.specs.declared.way.Way.TheVariants.{Explain, Spell}

-- the argument --spell without a value, and clap's own --help; no version, so that --version is an unknown word
unfoldable pub program : App
program = with_rule (new_app (codes "balisefields")) (flag_rule (codes "spell"))

-- clap finds --spell among the words
abbrev pub IsSpell : List Text → Type 0
IsSpell words = IsGiven program (codes "spell") words

-- clap has nothing against the words, and --spell is among them or not; or why they are refused
abbrev pub Asks : List Text → Result Way ArgsFault → Type 0
Asks words (Ok Spell) = (fault_of program words ≡ []) × IsSpell words
Asks words (Ok Explain) = (fault_of program words ≡ []) × ¬ IsSpell words
Asks words (Err e) = IsFaultOf program words e
