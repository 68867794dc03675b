-- The command line of `baliseplan` is one that clap's clauses speak of.
use Rattle.std.proofs.Common.{◌≡◌, true, refl}
use Rattle.clap.specs.Words.{is_simple, is_simple_and_free}
use Rattle.clap.proofs.OnLiterals.{clap_on_literals}
use Rattle.balise_arguments.specs.Arguments.{program}

pub simple : is_simple program ≡ true
unfolding program clap_on_literals
simple = refl

pub free : is_simple_and_free program ≡ true
unfolding program clap_on_literals
free = refl
