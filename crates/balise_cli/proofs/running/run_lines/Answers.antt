use Rattle.balise_cli.proofs.AllOfRuns as all
use Rattle.balise_cli.proofs.Endings.{at_first}
use Rattle.balise_cli.proofs.running.run_lines.Goals as goal

pub returns-clause-runs : goal.returns-clause-runs
returns-clause-runs g c =
    all.runs c.args.asked _ _ _ _ _ _ _ _ c.run_session.result (c.run_session.ensures _ _ (at_first c.args.asked _ _ c.new-lines.result c.new-lines.ensures.ahead c.new-lines.ensures.number c.new-lines.ensures.place))

pub returns-clause-counts : goal.returns-clause-counts
returns-clause-counts g c =
    all.counts c.args.asked _ _ _ _ _ _ _ _ c.run_session.result (c.run_session.ensures _ _ (at_first c.args.asked _ _ c.new-lines.result c.new-lines.ensures.ahead c.new-lines.ensures.number c.new-lines.ensures.place))
