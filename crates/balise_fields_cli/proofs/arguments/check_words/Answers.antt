use Rattle.std.proofs.Common.{rules}
use Rattle.clap.specs.Words.{app_of}
use Rattle.balise_arguments.proofs.Used.{faulted, kind_at_err}
use Rattle.balise_fields_cli.specs.Arguments.{program}
use Rattle.balise_fields_cli.proofs.Words.{program_free, run_asked}
use Rattle.balise_fields_cli.proofs.arguments.check_words.Goals as goal

pub returns-in-Ok-try_get_matches_from : goal.returns-in-Ok-try_get_matches_from
returns-in-Ok-try_get_matches_from c =
    run_asked (app_of c.in-Ok.command) c.in-Ok-try_get_matches_from.matches _ _ c.way_of.result (search rules) c.in-Ok-try_get_matches_from.ensures.matches c.in-Ok-try_get_matches_from.ensures.kinds c.is_used.ensures c.way_of.ensures

pub returns-in-Err : goal.returns-in-Err
returns-in-Err c = faulted program _ c.in-Err.error c.of.result (kind_at_err program (app_of c.in-Ok.command) _ c.in-Err.error program_free (search rules) c.in-Err.ensures.kinds) c.of.ensures
