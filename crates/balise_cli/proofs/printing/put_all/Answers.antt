use Rattle.std.proofs.Common.{◌≡◌, ◌∙◌, ◌++◌, [], Bool, append-nil, refl, sym, ap, subst}
use Rattle.balise_rules.specs.Session.{State, held}
use Rattle.balise_lines.proofs.PartsWritten.{all_as, some_as}
use Rattle.balise_text.proofs.TextsBehind.{all_behind, behind, some_behind, some_front_of}
use Rattle.balise_text.specs.Texts.{Text}
use Rattle.balise_cli.specs.PlanTexts.{if_asked, journal_text, plan_text, view_text}
use Rattle.balise_text.specs.Printing.{Prints, reason_of}
use Rattle.balise_cli.proofs.printing.put_all.Goals as goal

-- the three parts of what is printed
abbrev plan_of : State → Text
plan_of s = plan_text (held s)

abbrev journal_of : Bool → State → Text
journal_of journal s = if_asked journal (journal_text s)

abbrev view_of : Bool → State → Text
view_of view s = if_asked view (view_text (held s))

pub returns-in-Err : goal.returns-in-Err
returns-in-Err g c =
    let s = c.args.session.now.state in
    let cause = reason_of c.in-Err.fault in
    some_front_of cause _ _ (plan_of s) (journal_of c.args.journal s ++ view_of c.args.view s) _ _ refl (some_as cause _ (plan_of s) _ _ _ (ap (λ p. plan_text p.groups) (sym c.plan.ensures)) c.in-Err.ensures)

pub returns-in-Err-put_journal_if : goal.returns-in-Err-put_journal_if
returns-in-Err-put_journal_if g c =
    let s = c.args.session.now.state in
    let w = all_as _ (plan_of s) _ _ _ (ap (λ p. plan_text p.groups) (sym c.plan.ensures)) c.in_default.ensures in
    let cause = reason_of c.in-Err-put_journal_if.fault in
    some_behind cause _ _ (plan_of s) (journal_of c.args.journal s ++ view_of c.args.view s) _ _ _ refl w (some_front_of cause _ _ (journal_of c.args.journal s) (view_of c.args.view s) _ _ refl c.in-Err-put_journal_if.ensures)

pub returns-then-view : goal.returns-then-view
returns-then-view g c =
    let s = c.args.session.now.state in
    let view = c.args.view in
    let w = all_as _ (plan_of s) _ _ _ (ap (λ p. plan_text p.groups) (sym c.plan.ensures)) c.in_default.ensures in
    let asked : view_text (held s) ≡ view_of view s = ap (λ (b : Bool). if_asked b (view_text (held s))) (sym c.if-view.true) in
    let contents = g.W.Write.contents in
    let now = c.put_journal_if.new.writer in
    let new = c.put_view.new.writer in
    let r = c.put_view.result in
    let v = subst (λ (t : Text). Prints contents now new r t) asked (subst (λ p. Prints contents now new r (view_text p.groups)) c.plan-then-view.ensures c.put_view.ensures) in
    behind reason_of _ r _ (plan_of s) (journal_of c.args.journal s ++ view_of view s) _ _ _ refl w (behind reason_of _ r _ (journal_of c.args.journal s) (view_of view s) _ _ _ refl c.in_default-put_journal_if.ensures v)

pub returns : goal.returns
returns g c =
    let s = c.args.session.now.state in
    let journal = journal_of c.args.journal s in
    let w = all_as _ (plan_of s) _ _ _ (ap (λ p. plan_text p.groups) (sym c.plan.ensures)) c.in_default.ensures in
    let none : view_of c.args.view s ≡ [] = ap (λ (b : Bool). if_asked b (view_text (held s))) c.if-view.false in
    all_behind _ _ (plan_of s) (journal ++ view_of c.args.view s) _ _ _ refl w (all_as _ (journal ++ view_of c.args.view s) _ _ _ (ap (λ (t : Text). journal ++ t) none ∙ append-nil journal) c.in_default-put_journal_if.ensures)
