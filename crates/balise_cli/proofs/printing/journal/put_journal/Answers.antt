use Rattle.std.proofs.Common.{◌≡◌, ◌∙◌, ◌++◌, ℕ, map, refl, sym, ap}
use Rattle.balise_rules.specs.Journal.{line_of, lines, undone}
use Rattle.balise_rules.specs.Session.{State}
use Rattle.balise_lines.specs.Writing.{LastFailed}
use Rattle.balise_lines.proofs.PartsWritten.{all_as, some_as}
use Rattle.balise_text.proofs.TextsBehind.{all_behind, behind, some_behind, some_front_of}
use Rattle.balise_text.specs.Entries.{head_text}
use Rattle.balise_text.specs.Texts.{Text, text_of}
use Rattle.balise_cli.specs.PlanTexts.{entry_line, undone_line, with_end}
use Rattle.balise_cli.proofs.Causes.{call_failed, memory_wanted}
use Rattle.balise_cli.proofs.Stopped.{undone_is_some}
use Rattle.balise_text.specs.Printing.{reason_of}
use Rattle.balise_cli.proofs.ItemTexts.{standing_text, told_text}
use Rattle.balise_cli.proofs.printing.journal.put_journal.Goals as goal

-- the three parts of a journal
abbrev head_of : State → Text
head_of s = with_end (head_text s.serial)

abbrev entries_of : State → Text
entries_of s = text_of (map entry_line (lines s))

abbrev undone_of : State → Text
undone_of s = text_of (map undone_line (undone s))

-- the first line is that of a serial
same_head : (serial next : ℕ) → next ≡ serial → with_end (head_text serial) ≡ with_end (head_text next)
same_head serial next e = ap (λ k. with_end (head_text k)) (sym e)

pub returns-in-Err : goal.returns-in-Err
returns-in-Err g c =
    let s = c.args.session.now.state in
    call_failed _ _ _ _ _ c.from.ensures (some_front_of LastFailed _ _ (head_of s) (entries_of s ++ undone_of s) _ _ refl (some_as LastFailed _ (head_of s) _ _ _ (same_head _ _ c.next_serial.ensures) c.in-Err.ensures))

pub returns-in-Err-put_entries : goal.returns-in-Err-put_entries
returns-in-Err-put_entries g c =
    let s = c.args.session.now.state in
    let h = all_as _ (head_of s) _ _ _ (same_head _ _ c.next_serial.ensures) c.in_default.ensures in
    let is = told_text _ (lines s) (ap (map line_of) c.deref.ensures.value ∙ c.in-Ok.ensures.ok) in
    let cause = reason_of c.in-Err-put_entries.fault in
    some_behind cause _ _ (head_of s) (entries_of s ++ undone_of s) _ _ _ refl h (some_front_of cause _ _ (entries_of s) (undone_of s) _ _ refl (some_as cause _ (entries_of s) _ _ _ is c.in-Err-put_entries.ensures))

pub returns-in-Ok-put_all_undone : goal.returns-in-Ok-put_all_undone
returns-in-Ok-put_all_undone g c =
    let s = c.args.session.now.state in
    let h = all_as _ (head_of s) _ _ _ (same_head _ _ c.next_serial.ensures) c.in_default.ensures in
    let e = all_as _ (entries_of s) _ _ _ (told_text _ (lines s) (ap (map line_of) c.deref.ensures.value ∙ c.in-Ok.ensures.ok)) c.in_default-put_entries.ensures in
    let is = ap (λ ns. text_of (map undone_line ns)) (sym (c.deref-2.ensures.value ∙ c.in-Ok-undone.ensures.ok)) in
    all_behind _ _ (head_of s) (entries_of s ++ undone_of s) _ _ _ refl h (all_behind _ _ (entries_of s) (undone_of s) _ _ _ refl e (all_as _ (undone_of s) _ _ _ is c.in-Ok-put_all_undone.ensures))

pub returns : goal.returns
returns g c =
    let s = c.args.session.now.state in
    let h = all_as _ (head_of s) _ _ _ (same_head _ _ c.next_serial.ensures) c.in_default.ensures in
    let e = all_as _ (entries_of s) _ _ _ (told_text _ (lines s) (ap (map line_of) c.deref.ensures.value ∙ c.in-Ok.ensures.ok)) c.in_default-put_entries.ensures in
    let is = ap (λ ns. text_of (map undone_line ns)) (sym (c.deref-2.ensures.value ∙ c.in-Ok-undone.ensures.ok)) in
    call_failed _ _ _ _ _ c.from-in-Err-put_all_undone.ensures (some_behind LastFailed _ _ (head_of s) (entries_of s ++ undone_of s) _ _ _ refl h (some_behind LastFailed _ _ (entries_of s) (undone_of s) _ _ _ refl e (some_as LastFailed _ (undone_of s) _ _ _ is c.in-Err-put_all_undone.ensures)))

pub returns-in-Some : goal.returns-in-Some
returns-in-Some g c =
    let s = c.args.session.now.state in
    behind reason_of _ c.put_entries.result _ (head_of s) _ _ _ _ (standing_text s c.in-Some.entries.now c.in-Some.ensures.entries c.in-Some.ensures.some) (all_as _ (head_of s) _ _ _ (same_head _ _ c.next_serial.ensures) c.in_default.ensures) c.put_entries.ensures

pub returns-in_default-all_back : goal.returns-in_default-all_back
returns-in_default-all_back g c =
    let s = c.args.session.now.state in
    memory_wanted _ _ _ _ (head_of s) (entries_of s ++ undone_of s) refl (undone_is_some s (entries_of s) c.in_default-all_standing.ensures.none) (all_as _ (head_of s) _ _ _ (same_head _ _ c.next_serial.ensures) c.in_default.ensures)

pub returns-in_default-undone : goal.returns-in_default-undone
returns-in_default-undone g c =
    let s = c.args.session.now.state in
    memory_wanted _ _ _ _ (head_of s) (entries_of s ++ undone_of s) refl (undone_is_some s (entries_of s) c.in_default-all_standing.ensures.none) (all_as _ (head_of s) _ _ _ (same_head _ _ c.next_serial.ensures) c.in_default.ensures)
