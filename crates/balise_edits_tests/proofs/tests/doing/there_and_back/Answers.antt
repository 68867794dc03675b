use Rattle.std.proofs.Common.{sym, subst, arith}
use Rattle.balise_rules.specs.Accepting.{Unused}
use Rattle.balise_edits.specs.Edits.{edit_of}
use Rattle.balise_edits_tests.proofs.Trying.{last_of, next_of, again_of}
use Rattle.balise_plan.specs.Held.{Plan}
use Rattle.balise_edits_tests.proofs.tests.doing.there_and_back.Goals as goal

pub returns-in-Err : goal.returns-in-Err
returns-in-Err g c n h = subst (λ (q : Plan). Unused n q.groups) (sym c.in-Err.ensures.1) (c.requires.new n (omega (arith, h)))

pub take_back-requires-clause-last : goal.take_back-requires-clause-last
take_back-requires-clause-last g c =
    last_of (c.args.serial, edit_of c.args.edit) c.args.plan.now c.in-Ok.entry c.apply.new.plan c.check_changes.ensures.sound (c.requires.new c.args.serial (omega arith)) c.requires.spelt c.in-Ok.ensures

pub again-requires-clause-next : goal.again-requires-clause-next
again-requires-clause-next g c =
    let back = rw c.expect.ensures at c.take_back.ensures.back in
    let entry = rw c.expect.ensures at c.take_back.ensures.entry in
    next_of (c.args.serial, edit_of c.args.edit) c.args.plan.now c.in-Ok.entry c.apply.new.plan c.take_back.new.entry c.take_back.new.plan c.check_changes.ensures.sound (c.requires.new c.args.serial (omega arith)) c.requires.spelt c.in-Ok.ensures back entry

pub returns : goal.returns
returns g c n h =
    let back = rw c.expect.ensures at c.take_back.ensures.back in
    let entry = rw c.expect.ensures at c.take_back.ensures.entry in
    let made = rw c.expect-2.ensures at c.again.ensures.done in
    again_of (c.args.serial, edit_of c.args.edit) c.args.plan.now c.in-Ok.entry c.apply.new.plan c.take_back.new.entry c.take_back.new.plan c.again.new.plan c.check_changes.ensures.sound (c.requires.new c.args.serial (omega arith)) c.requires.spelt c.in-Ok.ensures back entry made n h (c.requires.new n (omega (arith, h)))
