use Rattle.std.proofs.Common.{rules}
use Rattle.balise_lines.specs.Writing.{LastFailed}
use Rattle.balise_lines.proofs.PartsWritten.{some_as}
use Rattle.balise_cli.specs.PlanTexts.{telegram_line}
use Rattle.balise_rules.specs.Digits.{hex_of}
use Rattle.balise_rules.specs.Telegram.{shown}
use Rattle.balise_cli.proofs.Causes.{call_failed}
use Rattle.balise_cli.proofs.Stopped.{line_is_some, nothing_yet}
use Rattle.balise_cli.proofs.printing.plan.put_telegram.Goals as goal

pub returns-in-Err : goal.returns-in-Err
returns-in-Err g c = call_failed _ _ _ _ _ c.from.ensures (some_as LastFailed _ (telegram_line (c.args.tag, c.args.telegram.now)) c.deref.result.now _ _ (search rules) c.in-Err.ensures)

pub returns-then-is_err : goal.returns-then-is_err
returns-then-is_err g c = nothing_yet _ _ (telegram_line (c.args.tag, c.args.telegram.now)) (line_is_some (hex_of (shown c.args.telegram.now)))

pub returns-then-is_err-2 : goal.returns-then-is_err-2
returns-then-is_err-2 g c = nothing_yet _ _ (telegram_line (c.args.tag, c.args.telegram.now)) (line_is_some (hex_of (shown c.args.telegram.now)))
