use Rattle.std.proofs.Common.{rules}
use Rattle.clap.specs.Words.{app_of}
use Rattle.balise_facts_cli.proofs.Words.{facts_asked, faulted}
use Rattle.balise_facts_cli.proofs.arguments.check_words.Goals as goal

pub returns-in-Ok-try_get_matches_from_mut : goal.returns-in-Ok-try_get_matches_from_mut
returns-in-Ok-try_get_matches_from_mut c =
    let parsed = c.in-Ok-try_get_matches_from_mut in
    facts_asked (app_of c.in-Ok.command) parsed.matches _ _ c.is_used-tags.result c.choose.result (search rules)
    parsed.ensures.ok.2 parsed.ensures.kinds c.get_str.ensures c.is_used-tags.ensures c.choose.ensures

pub returns : goal.returns
returns c = faulted (app_of c.in-Ok.command) _ c.in-Err.error c.of.result (search rules) c.in-Err.ensures.kinds c.of.ensures
