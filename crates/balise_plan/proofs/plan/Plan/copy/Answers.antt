use Rattle.std.proofs.Common.{rules, ◌≡◌, ◌∙◌, ◌≤◌, insert, length, sym, ap, arith}
use Rattle.balise_index.specs.NameIndex.{names_of, tags_of}
use Rattle.balise_plan.specs.Held.{Plan}
use Rattle.balise_plan.proofs.groups.Copied.{is-next, all-copied, no-more}
use Rattle.balise_plan.proofs.plans.Pushed.{kept-as}
use Rattle.balise_plan.proofs.plan.Plan.copy.Goals as goal
use Rattle.balise_plan.proofs.plan.Plan.copy.Goals.{else-loop-i-test, then-loop-i-test+in_default}

pub put_at-requires-clause-new : goal.put_at-requires-clause-new
put_at-requires-clause-new c = (is-next c.self.inside.groups.entries c.loop-i.i c.in-Some.tag c.in-Some.group.now c.in_ok-group.group (tags_of c.loop-i.index) (names_of c.loop-i.index) c.loop-i.groups.entries c.self.invariant.held.sound c.loop-i.invariant (omega (arith, c.loop-i-test.true, c.len-i-end.ensures)) (sym c.in-Some.ensures) c.in_ok-group.ensures.ok).new

pub loop-i-preserved : goal.loop-i-preserved
loop-i-preserved c =
    let next = is-next c.self.inside.groups.entries c.loop-i.i c.in-Some.tag c.in-Some.group.now c.in_ok-group.group (tags_of c.loop-i.index) (names_of c.loop-i.index) c.loop-i.groups.entries c.self.invariant.held.sound c.loop-i.invariant (omega (arith, c.loop-i-test.true, c.len-i-end.ensures)) (sym c.in-Some.ensures) c.in_ok-group.ensures.ok in
    let put : c.put_at.new.groups.entries ≡ insert c.loop-i.groups.entries c.loop-i.i (c.in-Some.tag, c.in_ok-group.group) = search rules in
    record { first = put ∙ next.more; held = c.put_at.ensures.held }

pub invariant_of-result : goal.invariant_of-result
invariant_of-result c =
    let plan = c.self.inside.groups.entries in
    let end : length plan ≤ c.loop-i.i = elim c.loop-i-test.branch [
      | else-loop-i-test w ↦ omega (arith, c.len-i-end.ensures)
      | then-loop-i-test+in_default w ↦ no-more plan c.loop-i.i (sym w.in_default.ensures)
    ] in
    kept-as c.self.invariant (all-copied plan c.loop-i.i (tags_of c.loop-i.index) (names_of c.loop-i.index) c.loop-i.groups.entries c.loop-i.invariant end) c.loop-i.invariant.held

pub returns-clause-ok : goal.returns-clause-ok
returns-clause-ok c =
    let plan = c.self.inside.groups.entries in
    let end : length plan ≤ c.loop-i.i = elim c.loop-i-test.branch [
      | else-loop-i-test w ↦ omega (arith, c.len-i-end.ensures)
      | then-loop-i-test+in_default w ↦ no-more plan c.loop-i.i (sym w.in_default.ensures)
    ] in
    let all = all-copied plan c.loop-i.i (tags_of c.loop-i.index) (names_of c.loop-i.index) c.loop-i.groups.entries c.loop-i.invariant end in
    ap (λ gs. let p : Plan = record { groups = gs; changes = c.self.inside.changes } in p) all ∙ c.self.view_is
