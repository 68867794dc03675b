use Rattle.std.proofs.Common.{rules, ◌≡◌, ◌∙◌, ◌⊎◌, inl, inr, sym, refl, Some, None, true}
use Rattle.balise_rules.specs.declared.refusal.Refusal.TheVariants.{OutOfMemory, NoSuchTelegram}
use Rattle.balise_rules.specs.Back.{in_packets}
use Rattle.balise_rules.specs.Names.{links_of}
use Rattle.balise_index.specs.AtSpot.{put_in}
use Rattle.balise_index.specs.NameIndex.{names_of, tags_of}
use Rattle.balise_plan.specs.GroupLinks.{links_from, KeepsOthers, SetsAll}
use Rattle.balise_plan.specs.Spots.{put_refusal}
use Rattle.balise_plan.proofs.naming.GroupLists.{sets_others}
use Rattle.balise_plan.proofs.plans.Pushed.{changed-to, kept-by, with_tags}
use Rattle.balise_plan.proofs.plans.Outcomes.{left-alone, next-plan, of-plan, same-plan}
use Rattle.balise_plan.proofs.packets.{held-keeps, lacking, kept-put, may-put, put-failed, put-done}
use Rattle.balise_plan.proofs.plan.Plan.put_packet.Goals as goal

pub invariant_of-self-in_default-country : goal.invariant_of-self-in_default-country
invariant_of-self-in_default-country c = kept-by c.self.invariant (left-alone c.args.g c.self.inside.groups.entries c.in-Some.group.now _ c.in-Some.ensures.value (c.get_mut.follows.holds c.in-Some.group.now)) c.self.invariant.held

pub returns-in_default-country : goal.returns-in_default-country
returns-in_default-country c =
    let r = lacking c.self.inside.groups.entries (tags_of c.self.inside.index) (names_of c.self.inside.index) c.self.invariant.held c.args.g c.args.t c.args.spot c.args.p c.args.packet c.in-Some.group.now (sym c.in-Some.ensures.value) (may-put c.args.g c.args.t c.args.p c.args.packet c.self.view_is c.requires.new c.requires.spelt) c.in_default-country.ensures in
    (inr (of-plan (λ gs. put_refusal c.args.g c.args.t c.args.spot c.args.packet gs ≡ Some NoSuchTelegram) c.self.view_is r), refl, same-plan c.self.view_is (left-alone c.args.g c.self.inside.groups.entries c.in-Some.group.now _ c.in-Some.ensures.value (c.get_mut.follows.holds c.in-Some.group.now)))

pub invariant_of-self-then-is_err : goal.invariant_of-self-then-is_err
invariant_of-self-then-is_err c =
    let others : KeepsOthers (links_from c.args.g c.args.t c.args.p 0 (links_of c.in-Some-country.country c.lend.result)) (names_of c.self.inside.index) (names_of c.set_packet.new.index) = search rules in
    let kept = kept-put c.self.inside.groups.entries (tags_of c.self.inside.index) (names_of c.self.inside.index) c.self.invariant.held c.args.g c.args.t c.args.spot c.args.p c.args.packet c.in-Some.group.now (sym c.in-Some.ensures.value) (may-put c.args.g c.args.t c.args.p c.args.packet c.self.view_is c.requires.new c.requires.spelt) c.in-Some-country.country c.in-Some-country.ensures c.lend.result c.lend-then-is_err.result c.lend.ensures c.lend-then-is_err.ensures (names_of c.set_packet.new.index) (names_of c.forget_packet.new.index) others c.forget_packet.ensures.forgotten in
    kept-by c.self.invariant (left-alone c.args.g c.self.inside.groups.entries c.in-Some.group.now _ c.in-Some.ensures.value (c.get_mut.follows.holds c.in-Some.group.now))
    (with_tags (c.forget_packet.ensures.tags ∙ c.set_packet.ensures.tags) (held-keeps (tags_of c.self.inside.index) (names_of c.self.inside.index) (names_of c.forget_packet.new.index) c.self.inside.groups.entries c.self.invariant.held kept))

pub returns-then-is_err : goal.returns-then-is_err
returns-then-is_err c = (inl refl, refl, same-plan c.self.view_is (left-alone c.args.g c.self.inside.groups.entries c.in-Some.group.now _ c.in-Some.ensures.value (c.get_mut.follows.holds c.in-Some.group.now)))

pub invariant_of-self-in-Err : goal.invariant_of-self-in-Err
invariant_of-self-in-Err c =
    let adds : SetsAll true (links_from c.args.g c.args.t c.args.p 0 (links_of c.in-Some-country.country c.lend.result)) (names_of c.self.inside.index) (names_of c.set_packet.new.index) = search rules in
    let r = put-failed c.self.inside.groups.entries (tags_of c.self.inside.index) (names_of c.self.inside.index) c.self.invariant.held c.args.g c.args.t c.args.spot c.args.p c.args.packet c.in-Some.group.now (sym c.in-Some.ensures.value) (may-put c.args.g c.args.t c.args.p c.args.packet c.self.view_is c.requires.new c.requires.spelt) c.in-Some-country.country c.in-Some-country.ensures c.put_packet.new.self (c.in-Err.fault, c.in-Err.packet) c.in-Err.ensures in
    let others = sets_others true (links_from c.args.g c.args.t c.args.p 0 (links_of c.in-Some-country.country c.lend.result)) (names_of c.self.inside.index) (names_of c.set_packet.new.index) adds in
    let kept = kept-put c.self.inside.groups.entries (tags_of c.self.inside.index) (names_of c.self.inside.index) c.self.invariant.held c.args.g c.args.t c.args.spot c.args.p c.args.packet c.in-Some.group.now (sym c.in-Some.ensures.value) (may-put c.args.g c.args.t c.args.p c.args.packet c.self.view_is c.requires.new c.requires.spelt) c.in-Some-country.country c.in-Some-country.ensures c.lend.result c.lend-in-Err.result c.lend.ensures (c.lend-in-Err.ensures ∙ r.back) (names_of c.set_packet.new.index) (names_of c.forget_packet-in-Err.new.index) others c.forget_packet-in-Err.ensures.forgotten in
    kept-by c.self.invariant (c.get_mut.follows.holds c.put_packet.new.self ∙ r.is)
    (with_tags (c.forget_packet-in-Err.ensures.tags ∙ c.set_packet.ensures.tags) (held-keeps (tags_of c.self.inside.index) (names_of c.self.inside.index) (names_of c.forget_packet-in-Err.new.index) c.self.inside.groups.entries c.self.invariant.held kept))

pub returns-in-Err : goal.returns-in-Err
returns-in-Err c =
    let r = put-failed c.self.inside.groups.entries (tags_of c.self.inside.index) (names_of c.self.inside.index) c.self.invariant.held c.args.g c.args.t c.args.spot c.args.p c.args.packet c.in-Some.group.now (sym c.in-Some.ensures.value) (may-put c.args.g c.args.t c.args.p c.args.packet c.self.view_is c.requires.new c.requires.spelt) c.in-Some-country.country c.in-Some-country.ensures c.put_packet.new.self (c.in-Err.fault, c.in-Err.packet) c.in-Err.ensures in
    (of-plan (λ gs. (c.in-Err.fault ≡ OutOfMemory) ⊎ (put_refusal c.args.g c.args.t c.args.spot c.args.packet gs ≡ Some c.in-Err.fault)) c.self.view_is r.why, r.back, same-plan c.self.view_is (c.get_mut.follows.holds c.put_packet.new.self ∙ r.is))

pub invariant_of-self-2 : goal.invariant_of-self-2
invariant_of-self-2 c =
    let adds : SetsAll true (links_from c.args.g c.args.t c.args.p 0 (links_of c.in-Some-country.country c.lend.result)) (names_of c.self.inside.index) (names_of c.set_packet.new.index) = search rules in
    let r = put-done c.self.inside.groups.entries (tags_of c.self.inside.index) (names_of c.self.inside.index) c.self.invariant.held c.args.g c.args.t c.args.spot c.args.p c.args.packet c.in-Some.group.now (sym c.in-Some.ensures.value) (may-put c.args.g c.args.t c.args.p c.args.packet c.self.view_is c.requires.new c.requires.spelt) c.in-Some-country.country c.in-Some-country.ensures c.put_packet.new.self c.in_default-put_packet.field-0 c.in_default-put_packet.ensures c.lend.result c.lend.ensures (names_of c.set_packet.new.index) adds in
    changed-to c.self.inside.changes (c.get_mut.follows.holds c.put_packet.new.self) (with_tags c.set_packet.ensures.tags r.held)

pub returns : goal.returns
returns c =
    let adds : SetsAll true (links_from c.args.g c.args.t c.args.p 0 (links_of c.in-Some-country.country c.lend.result)) (names_of c.self.inside.index) (names_of c.set_packet.new.index) = search rules in
    let r = put-done c.self.inside.groups.entries (tags_of c.self.inside.index) (names_of c.self.inside.index) c.self.invariant.held c.args.g c.args.t c.args.spot c.args.p c.args.packet c.in-Some.group.now (sym c.in-Some.ensures.value) (may-put c.args.g c.args.t c.args.p c.args.packet c.self.view_is c.requires.new c.requires.spelt) c.in-Some-country.country c.in-Some-country.ensures c.put_packet.new.self c.in_default-put_packet.field-0 c.in_default-put_packet.ensures c.lend.result c.lend.ensures (names_of c.set_packet.new.index) adds in
    (of-plan (λ gs. put_refusal c.args.g c.args.t c.args.spot c.args.packet gs ≡ None) c.self.view_is r.accepted, next-plan (in_packets c.args.g c.args.t (put_in c.args.spot (c.args.p, c.args.packet))) c.self.view_is (c.get_mut.follows.holds c.put_packet.new.self ∙ r.is))
