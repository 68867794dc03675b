use Rattle.std.proofs.Common.{rules, inr, refl, sym}
use Rattle.balise_rules.specs.declared.refusal.Refusal.TheVariants.{NoSuchTelegram}
use Rattle.balise_rules.specs.declared.tagged_edit.TaggedEdit.TheVariants.{DeletePacket}
use Rattle.balise_index.specs.NameIndex.{names_of, tags_of}
use Rattle.balise_plan.proofs.plans.Pushed.{changed-to, kept-by, with_tags}
use Rattle.balise_plan.proofs.plans.Outcomes.{Failed, Outcome, does, fails, left-alone}
use Rattle.balise_plan.proofs.telegrams.Answered.{in-telegram}
use Rattle.balise_plan.proofs.telegrams.Sound.{packet-taken}
use Rattle.balise_plan.proofs.packets.{untold, untaken, taken}
use Rattle.balise_plan.proofs.plan.Plan.take_packet.Goals as goal
use Rattle.balise_plan.proofs.plan.Plan.take_packet.Goals.{In-Err, After-forget_packet}

pub invariant_of-self-in_default-country : goal.invariant_of-self-in_default-country
invariant_of-self-in_default-country c = kept-by c.self.invariant (left-alone c.args.g c.self.inside.groups.entries c.in-Some.group.now _ c.in-Some.ensures.value (c.get_mut.follows.holds c.in-Some.group.now)) c.self.invariant.held

pub returns-in_default-country-clause-does : goal.returns-in_default-country-clause-does
returns-in_default-country-clause-does c =
    fails (DeletePacket c.args.g c.args.t c.args.p) NoSuchTelegram c.self.view_is (left-alone c.args.g c.self.inside.groups.entries c.in-Some.group.now _ c.in-Some.ensures.value (c.get_mut.follows.holds c.in-Some.group.now))
    (record { why = inr (untold c.self.inside.groups.entries (tags_of c.self.inside.index) (names_of c.self.inside.index) c.self.invariant.held c.args.g c.args.t c.args.p c.in-Some.group.now (sym c.in-Some.ensures.value) c.in_default-country.ensures); is = refl })

-- the telegram refuses
failed : (c : In-Err) → Failed (DeletePacket c.args.g c.args.t c.args.p) c.self.inside.groups.entries (c.get_mut.follows.lender c.in_telegram.new.self).entries c.in-Err.fault
failed c =
    untaken c.self.inside.groups.entries (tags_of c.self.inside.index) (names_of c.self.inside.index) c.self.invariant.held c.args.g c.args.t c.args.p c.in-Some.group.now (sym c.in-Some.ensures.value) (λ y z r k. search rules)
    (in-telegram c.args.g c.args.t c.self.inside.groups.entries c.self.invariant.held.sound c.in-Some.group.now c.in_telegram.new.self (sym c.in-Some.ensures.value) (c.get_mut.follows.holds c.in_telegram.new.self) c.in-Err.ensures)

pub invariant_of-self-in-Err : goal.invariant_of-self-in-Err
invariant_of-self-in-Err c = kept-by c.self.invariant (failed (goal.at.invariant_of-self-in-Err c).In-Err).is c.self.invariant.held

pub returns-in-Err-clause-does : goal.returns-in-Err-clause-does
returns-in-Err-clause-does c = fails (DeletePacket c.args.g c.args.t c.args.p) c.in-Err.fault c.self.view_is refl (failed (goal.at.returns-in-Err-clause-does c).In-Err)

-- the packet is taken
outcome : (c : After-forget_packet) → Outcome (DeletePacket c.args.g c.args.t c.args.p) (tags_of c.self.inside.index) (names_of c.forget_packet.new.index) c.self.inside.groups.entries (c.get_mut.follows.lender c.in_telegram.new.self).entries
outcome c =
    taken c.self.inside.groups.entries (tags_of c.self.inside.index) (names_of c.self.inside.index) c.self.invariant.held c.args.g c.args.t c.args.p c.in-Some.group.now (sym c.in-Some.ensures.value) (λ y z r k. search rules) c.in-Some-country.country c.in-Some-country.ensures
    (in-telegram c.args.g c.args.t c.self.inside.groups.entries c.self.invariant.held.sound c.in-Some.group.now c.in_telegram.new.self (sym c.in-Some.ensures.value) (c.get_mut.follows.holds c.in_telegram.new.self) c.in-Ok.ensures)
    c.lend.result c.lend.ensures (names_of c.forget_packet.new.index) c.forget_packet.ensures.forgotten

pub invariant_of-self-2 : goal.invariant_of-self-2
invariant_of-self-2 c = changed-to c.self.inside.changes refl (with_tags c.forget_packet.ensures.tags (outcome (goal.at.invariant_of-self-2 c).After-forget_packet).held)

pub returns-clause-does : goal.returns-clause-does
returns-clause-does c = does (DeletePacket c.args.g c.args.t c.args.p) c.self.view_is refl (outcome (goal.at.returns-clause-does c).After-forget_packet)

pub in_telegram-requires-clause-sound : goal.in_telegram-requires-clause-sound
in_telegram-requires-clause-sound c = λ y z r k. packet-taken c.args.p r y z (search rules)
