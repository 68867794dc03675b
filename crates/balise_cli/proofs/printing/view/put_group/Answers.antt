use Rattle.std.proofs.Common.{◌∙◌, codes, refl, sym}
use Rattle.balise_lines.specs.Writing.{LastFailed}
use Rattle.balise_lines.proofs.PartsWritten.{all_as, some_as}
use Rattle.balise_text.proofs.TextsBehind.{all_behind, some_behind, some_front_of}
use Rattle.balise_text.specs.Texts.{Text}
use Rattle.balise_view.specs.View.{group_text}
use Rattle.balise_cli.proofs.Causes.{call_failed}
use Rattle.balise_cli.specs.PlanTexts.{with_end}
use Rattle.balise_cli.proofs.Stopped.{line_is_some, nothing_yet}
use Rattle.balise_cli.proofs.printing.view.put_group.Goals as goal

pub returns-in-Err : goal.returns-in-Err
returns-in-Err g c =
    let line : Text = group_text c.args.group.now in
    call_failed _ _ _ _ _ c.from.ensures (some_front_of LastFailed _ _ line (codes "\n") _ _ refl (some_as LastFailed _ line _ _ _ (sym (c.as_bytes.ensures.value ∙ c.in-Ok.ensures)) c.in-Err.ensures))

pub returns-in-Ok-put : goal.returns-in-Ok-put
returns-in-Ok-put g c =
    let line : Text = group_text c.args.group.now in
    let w = all_as _ line _ _ _ (sym (c.as_bytes.ensures.value ∙ c.in-Ok.ensures)) c.in_default-put.ensures in
    all_behind _ _ line (codes "\n") _ _ _ refl w c.in-Ok-put.ensures

pub returns : goal.returns
returns g c =
    let line : Text = group_text c.args.group.now in
    let w = all_as _ line _ _ _ (sym (c.as_bytes.ensures.value ∙ c.in-Ok.ensures)) c.in_default-put.ensures in
    call_failed _ _ _ _ _ c.from-in-Err-put.ensures (some_behind LastFailed _ _ line (codes "\n") _ _ _ refl w c.in-Err-put.ensures)

pub returns-in_default : goal.returns-in_default
returns-in_default g c = nothing_yet _ _ (with_end (group_text c.args.group.now)) (line_is_some (group_text c.args.group.now))
