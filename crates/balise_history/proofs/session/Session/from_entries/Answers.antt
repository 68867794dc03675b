-- The lines of a journal, one after another: they are read as the rules read them, and where one isn't, all before it were.
use Rattle.std.proofs.Common.{◌≡◌, ◌∙◌, inl, inr, ⊎_elim, suc, List, ◌∷◌, drop, take, map, length, Some, Ok, Err, refl, sym, ap, arith, add-one}
use Rattle.std.proofs.lemmas.List.{nil_from_length}
use Rattle.balise_commands.specs.Lines.{line_in}
use Rattle.balise_commands.specs.declared.line.Line as code
use Rattle.balise_rules.specs.Journal.{Line}
use Rattle.balise_rules.specs.Opening.{from_entries, with_entries, with_entry, or_place}
use Rattle.balise_history.specs.Sessions.{Seen}
use Rattle.balise_history.proofs.Fitting.{one-line-more, drop-next, take-next}
use Rattle.balise_history.proofs.session.Session.from_entries.Goals as goal
use Rattle.balise_history.proofs.session.Session.from_entries.Goals.{In-Some}

pub loop-line-init : goal.loop-line-init
loop-line-init c =
    let given = c.into_iter-line-iterator.ensures.into_iter_gives in
    record {
      rest = rw (c.in-Ok.ensures.0, ← given.0) refl;
      before = rw c.in-Ok.ensures.0 refl;
      left_is = ap (map line_in) (sym given.0);
      changes = omega (arith, c.in-Ok.ensures.1);
      left = omega (arith, given.1);
    }

abbrev all_lines : In-Some → List Line
all_lines c = map line_in c.args.lines.items

-- the lines that follow the next one
abbrev following : In-Some → List Line
following c = map line_in c.next.new.self.rest.items

-- the next line is the first of those that are left
next_comes : (c : In-Some) → drop c.loop-line.place (all_lines c) ≡ line_in c.in-Some.line ∷ following c
next_comes c = c.loop-line.invariant.left_is ∙ ap (map line_in) c.in-Some.ensures.steps.0

-- the answer depends on the next line, then on those that follow
goes_on : (c : In-Some) → from_entries c.args.plan.groups c.args.next (all_lines c) ≡ or_place (Some c.loop-line.place) (with_entry c.loop-line.opening.state (line_in c.in-Some.line)) (with_entries (suc c.loop-line.place) (following c))
goes_on c = c.loop-line.invariant.rest ∙ ap (λ (lines : List code.Line). with_entries c.loop-line.place (map line_in lines) c.loop-line.opening.state) c.in-Some.ensures.steps.0

pub returns-in-Err-entry-clause-fault : goal.returns-in-Err-entry-clause-fault
returns-in-Err-entry-clause-fault c =
    let next = (goal.at.returns-in-Err-entry-clause-fault c).In-Some in
    ⊎_elim (λ memory. inl (memory, (c.loop-line.place, (c.loop-line.opening.state, (line_in c.in-Some.line, (following next, (refl, next_comes next, c.in-Err-entry.ensures.memory (ap Err memory), c.loop-line.invariant.before)))))))
    (λ refused. inr (refused.0, rw refused.1 at (goes_on next))) c.in-Err-entry.ensures.reads

pub overflow_add-place : goal.overflow_add-place
overflow_add-place c = omega (arith, c.loop-line.invariant.left, c.in-Some.ensures.steps.1, c.args.lines.small)

pub loop-line-preserved : goal.loop-line-preserved
loop-line-preserved c =
    let next = (goal.at.loop-line-preserved c).In-Some in
    let read = c.in-Ok-entry.ensures.reads in
    record {
      rest = rw (goes_on next, read.0, add-one) refl;
      before = rw (add-one, take-next c.loop-line.place (all_lines next) _ _ (next_comes next)) (one-line-more c.args.plan.groups c.args.next (take c.loop-line.place (all_lines next)) _ _ _ c.loop-line.invariant.before read.0);
      left_is = rw add-one (drop-next c.loop-line.place (all_lines next) _ _ (next_comes next));
      changes = omega (arith, c.loop-line.invariant.changes, read.1);
      left = omega (arith, c.loop-line.invariant.left, c.in-Some.ensures.steps.1);
    }

pub returns-clause-ok : goal.returns-clause-ok
returns-clause-ok c =
    let left = c.loop-line.line-iterator.rest in
    let none : length left.items ≡ 0 = omega (arith, left.ok, c.in-None.ensures.steps.0) in
    c.loop-line.invariant.rest ∙ ap (λ (lines : List code.Line). with_entries c.loop-line.place (map line_in lines) c.loop-line.opening.state) (nil_from_length left.items none) ∙ ap (λ (seen : Seen). Ok seen.state) (sym c.done.ensures)

pub returns-clause-changes : goal.returns-clause-changes
returns-clause-changes c =
    ap (λ (seen : Seen). seen.changes) c.done.ensures ∙ omega (arith, c.loop-line.invariant.changes, c.loop-line.invariant.left, c.in-None.ensures.steps.0)
