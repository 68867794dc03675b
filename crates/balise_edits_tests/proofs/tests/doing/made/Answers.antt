use Rattle.std.proofs.Common.{arith}
use Rattle.balise_edits.specs.Edits.{edit_of}
use Rattle.balise_edits_tests.proofs.Trying.{made_of}
use Rattle.balise_edits_tests.proofs.tests.doing.made.Goals as goal

pub returns : goal.returns
returns g c n h =
    let made = rw c.expect.ensures at c.apply.ensures in
    made_of (c.args.serial, edit_of c.args.edit) c.args.plan.now c.expect.result c.apply.new.plan c.check_changes.ensures.sound (c.requires c.args.serial (omega arith)) c.check_spelt.ensures made n h (c.requires n (omega (arith, h)))
