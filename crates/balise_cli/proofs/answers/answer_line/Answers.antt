use Rattle.balise_cli.proofs.Answered.{refused_answered}
use Rattle.balise_cli.proofs.answers.answer_line.Goals as goal

pub returns-in-Err : goal.returns-in-Err
returns-in-Err c = rw c.refused.ensures.reply (refused_answered c.args.line.now c.args.session.now.state c.in-Err.refusal c.refused.result.review.items c.in-Err.ensures.fault c.refused.ensures.review)
