use Rattle.std.proofs.Common.{ℕ, ◌≡◌, ap, subst}
use Rattle.balise_rules.specs.declared.identity.Id.{Id}
use Rattle.balise_rules.specs.Names.{links_of}
use Rattle.balise_rules.specs.Plan.{country_of}
use Rattle.balise_plan.specs.GroupLinks.{links_from, KeepsOthers, SetsAll}
use Rattle.balise_plan.proofs.naming.GroupLists.{on_err}
use Rattle.balise_index.specs.NameIndex.{names_of}
use Rattle.balise_plan.proofs.naming.Parts.{all_set, setting_on, setting_stopped}
use Rattle.balise_plan.proofs.naming.Past.{fewer_left, links_past, no_links}
use Rattle.balise_plan.proofs.links.group.set_telegram.Goals as goal

pub packets-preserved : goal.packets-preserved
packets-preserved c =
    let country : c.identity-country.result.country ≡ country_of c.args.telegram.now = ap (λ (i : Id). i.country) c.identity-country.ensures in
    setting_on _ _ c.set_linking.new.index c.packets.invariant (links_past c.args.g c.args.t (country_of c.args.telegram.now) _ _ c.in-Some.ensures.some)
    (subst (λ (n : ℕ). SetsAll c.args.noted (links_from c.args.g c.args.t c.in-Some.p 0 (links_of n c.in-Some.packet)) (names_of c.packets.index) (names_of c.set_linking.new.index)) country c.in_ok-set_linking.ensures.set) c.in_ok-set_linking.ensures.tags

pub packets-smaller : goal.packets-smaller
packets-smaller c = fewer_left _ _ _ c.in-Some.ensures.some

pub returns-in_err-set_linking-clause-others : goal.returns-in_err-set_linking-clause-others
returns-in_err-set_linking-clause-others c =
    let country : c.identity-country.result.country ≡ country_of c.args.telegram.now = ap (λ (i : Id). i.country) c.identity-country.ensures in
    on_err c.from_residual.result (setting_stopped _ _ c.set_linking.new.index c.packets.invariant (links_past c.args.g c.args.t (country_of c.args.telegram.now) _ _ c.in-Some.ensures.some)
    (subst (λ (n : ℕ). KeepsOthers (links_from c.args.g c.args.t c.in-Some.p 0 (links_of n c.in-Some.packet)) (names_of c.packets.index) (names_of c.set_linking.new.index)) country c.in_err-set_linking.ensures.others))

pub returns-in_default-clause-set : goal.returns-in_default-clause-set
returns-in_default-clause-set c = all_set c.packets.invariant (no_links c.args.g c.args.t (country_of c.args.telegram.now) _ c.in_default.ensures.none)
