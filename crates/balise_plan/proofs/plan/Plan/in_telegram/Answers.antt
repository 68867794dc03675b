use Rattle.std.proofs.Common.{sym}
use Rattle.std.specs.Fn.{FnOnceReturnsAtMut}
use Rattle.balise_index.specs.NameIndex.{names_of, tags_of}
use Rattle.balise_plan.specs.InTelegram.{IsHarmless}
use Rattle.balise_plan.proofs.plans.Outcomes.{to-groups}
use Rattle.balise_plan.proofs.plans.Pushed.{changed, kept-by}
use Rattle.balise_plan.proofs.telegrams.Answered.{accepted, declined, in-telegram, no-group}
use Rattle.balise_plan.proofs.plan.Plan.in_telegram.Goals as goal
use Rattle.balise_plan.proofs.plan.Plan.in_telegram.Goals.{After-in_telegram}

harmless : (g : _) (c : After-in_telegram g) → IsHarmless c.args.g c.args.t c.self.inside.groups.entries (FnOnceReturnsAtMut g.F.FnOnce c.args.change)
harmless g c = to-groups (λ gs. IsHarmless c.args.g c.args.t gs (FnOnceReturnsAtMut g.F.FnOnce c.args.change)) c.self.view_is c.requires.harmless

pub in_telegram-requires-clause-sound : goal.in_telegram-requires-clause-sound
in_telegram-requires-clause-sound g c = c.requires.harmless.sound

pub returns-in_default-clause-does : goal.returns-in_default-clause-does
returns-in_default-clause-does g c = no-group c.self.view_is c.get_mut.follows.holds-at-none (sym c.in_default.ensures.value)

pub invariant_of-self-in-Err : goal.invariant_of-self-in-Err
invariant_of-self-in-Err g c =
    let w = in-telegram c.args.g c.args.t c.self.inside.groups.entries c.self.invariant.held.sound c.in-Some.group.now c.in_telegram.new.self (sym c.in-Some.ensures.value) (c.get_mut.follows.holds c.in_telegram.new.self) c.in-Err.ensures in
    kept-by c.self.invariant (declined c.self.view_is (harmless g (goal.at.invariant_of-self-in-Err g c).After-in_telegram) w).0 c.self.invariant.held

pub returns-in-Err-clause-does : goal.returns-in-Err-clause-does
returns-in-Err-clause-does g c =
    let w = in-telegram c.args.g c.args.t c.self.inside.groups.entries c.self.invariant.held.sound c.in-Some.group.now c.in_telegram.new.self (sym c.in-Some.ensures.value) (c.get_mut.follows.holds c.in_telegram.new.self) c.in-Err.ensures in
    (declined c.self.view_is (harmless g (goal.at.returns-in-Err-clause-does g c).After-in_telegram) w).1

pub invariant_of-self-2 : goal.invariant_of-self-2
invariant_of-self-2 g c =
    let w = in-telegram c.args.g c.args.t c.self.inside.groups.entries c.self.invariant.held.sound c.in-Some.group.now c.in_telegram.new.self (sym c.in-Some.ensures.value) (c.get_mut.follows.holds c.in_telegram.new.self) c.in-Ok.ensures in
    changed c.self.inside.changes (accepted c.self.view_is (harmless g (goal.at.invariant_of-self-2 g c).After-in_telegram) w (tags_of c.self.inside.index) (names_of c.self.inside.index) c.self.invariant.held).0

pub returns-clause-does : goal.returns-clause-does
returns-clause-does g c =
    let w = in-telegram c.args.g c.args.t c.self.inside.groups.entries c.self.invariant.held.sound c.in-Some.group.now c.in_telegram.new.self (sym c.in-Some.ensures.value) (c.get_mut.follows.holds c.in_telegram.new.self) c.in-Ok.ensures in
    (accepted c.self.view_is (harmless g (goal.at.returns-clause-does g c).After-in_telegram) w (tags_of c.self.inside.index) (names_of c.self.inside.index) c.self.invariant.held).1
