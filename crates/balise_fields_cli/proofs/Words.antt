-- From clap's clauses to that of the program's words.
use Rattle.std.proofs.Common.{◌≡◌, ◌↔◌, Bool, IsTrue, Ok, List, [], Some, true, false, codes, refl, subst, sym}
use Rattle.clap.specs.Words.{App, Text, HasMatchesOf, fault_of, first_value, found_of, is_simple, is_simple_and_free}
use Rattle.clap.specs.declared.parser.matches.ArgMatches.{ArgMatches}
use Rattle.clap.proofs.OnLiterals.{clap_on_literals}
use Rattle.balise_arguments.proofs.Used.{none_at_ok, used}
use Rattle.balise_fields_cli.specs.Arguments.{Asks, IsSpell, program}
use Rattle.balise_fields_cli.specs.Ways.{way_of}
use Rattle.balise_fields_run.specs.declared.way.Way.{Way}

program_simple : is_simple program ≡ true
unfolding program clap_on_literals
program_simple = refl

pub program_free : is_simple_and_free program ≡ true
unfolding program clap_on_literals
program_free = refl

asked : (words : List Text) (b : Bool) → (IsTrue b ↔ IsSpell words) → fault_of program words ≡ [] → Asks words (Ok (way_of b))
asked words true u n = (n, u.0 refl)
asked words false u n = (n, λ s. let f = u.1 s in cc)

-- the words ask for a run
pub run_asked : (a : App) (m : ArgMatches) (words : List Text) (b : Bool) (way : Way) → a ≡ program → HasMatchesOf a words m → (is_simple_and_free a ≡ true → fault_of a words ≡ []) → (IsTrue b ↔ (first_value (found_of m) (codes "spell") ≡ Some (codes "true")))
    → way ≡ way_of b → Asks words (Ok way)
run_asked a m words b way e h n u is = subst (λ (w : Way). Asks words (Ok w)) (sym is) (asked words b (used program a m words (codes "spell") b program_simple e h u) (none_at_ok program a words program_free e n))
