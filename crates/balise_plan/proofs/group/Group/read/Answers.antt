use Rattle.std.proofs.Common.{◌≡◌, ◌∙◌, Err, ap, sym}
use Rattle.balise_index.proofs.names.Written.{no_length}
use Rattle.balise_plan.specs.GroupReading.{group_of}
use Rattle.balise_rules.specs.Plan.{read_group}
use Rattle.balise_plan.proofs.groups.Reading.{begins, reads_on, fails, wrong_size, right_size, were_read, read_so}
use Rattle.balise_plan.proofs.group.Group.read.Goals as goal
use Rattle.balise_plan.proofs.group.Group.read.Goals.{After-of_read}

pub returns-then-count-clause-fault : goal.returns-then-count-clause-fault
returns-then-count-clause-fault c = λ _. wrong_size c.args.telegrams.items c.len-count.result (c.len-count.ensures ∙ c.args.telegrams.ok.0) c.if-count.true

pub loop-bits-init : goal.loop-bits-init
loop-bits-init c =
    let size = right_size c.args.telegrams.items c.len-count.result (c.len-count.ensures ∙ c.args.telegrams.ok.0) c.if-count.false in
    begins c.args.telegrams.items c.into_iter-bits-iterator.result.rest.items c.new-read.result c.into_iter-bits-iterator.ensures.into_iter_gives.0 c.new-read.ensures size.1 size.0

pub returns-in-Err-clause-fault : goal.returns-in-Err-clause-fault
returns-in-Err-clause-fault c = λ _.
    fails c.args.telegrams.items c.loop-bits.read c.loop-bits.bits-iterator.rest.items c.next.new.self.rest.items c.in-Some.bits c.refusal.result c.loop-bits.invariant c.in-Some.ensures.steps.0 (c.in-Err.ensures.fault ∙ ap Err (sym c.refusal.ensures))

pub push-requires : goal.push-requires
push-requires c = c.loop-bits.invariant.in_order

pub loop-bits-preserved : goal.loop-bits-preserved
loop-bits-preserved c =
    reads_on c.args.telegrams.items c.loop-bits.read c.push.new.self c.loop-bits.bits-iterator.rest.items c.next.new.self.rest.items c.in-Some.bits c.in-Ok.telegram c.loop-bits.invariant c.in-Some.ensures.steps.0 c.in-Ok.ensures.ok c.in_ok-push.ensures.ok

pub of_read-requires : goal.of_read-requires
of_read-requires c = were_read c.args.telegrams.items c.loop-bits.read c.loop-bits.bits-iterator.rest.items c.loop-bits.invariant (no_length c.loop-bits.bits-iterator.rest.items (sym c.loop-bits.bits-iterator.rest.ok.0 ∙ c.in-None.ensures.steps.0))

-- the telegrams are those that were read
read : (c : After-of_read) → read_group c.args.telegrams.items ≡ group_of c.loop-bits.read
read c = read_so c.args.telegrams.items c.loop-bits.read c.loop-bits.bits-iterator.rest.items c.loop-bits.invariant (no_length c.loop-bits.bits-iterator.rest.items (sym c.loop-bits.bits-iterator.rest.ok.0 ∙ c.in-None.ensures.steps.0))

pub returns-in-Ok-of_read-clause-ok : goal.returns-in-Ok-of_read-clause-ok
returns-in-Ok-of_read-clause-ok c = read (goal.at.returns-in-Ok-of_read-clause-ok c).After-of_read ∙ c.in-Ok-of_read.ensures.group

pub returns-in-Err-of_read-clause-fault : goal.returns-in-Err-of_read-clause-fault
returns-in-Err-of_read-clause-fault c = λ _. read (goal.at.returns-in-Err-of_read-clause-fault c).After-of_read ∙ c.in-Err-of_read.ensures.group
