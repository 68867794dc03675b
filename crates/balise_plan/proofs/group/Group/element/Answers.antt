use Rattle.std.proofs.Common.{rules, ◌≡◌, ◌∙◌, eqb, ap, sym, Some}
use Rattle.std.specs.Prelude.{[], ◌∷◌, is_none, slice_get}
use Rattle.balise_rules.specs.declared.refusal.Refusal.TheVariants.{NoSuchVariable}
use Rattle.balise_rules.specs.Tagged.{find}
use Rattle.balise_rules.specs.Plan.{country_of}
use Rattle.balise_rules.specs.Names.{links_of}
use Rattle.balise_rules.specs.Doing.{first_of, when}
use Rattle.balise_rules.proofs.Tests.{nat_test}
use Rattle.balise_telegram.specs.Packed.{links_found}
use Rattle.balise_plan.specs.ElementIn.{element_refusal, link_refusal}
use Rattle.balise_plan.specs.OneOrMore.{tag_at}
use Rattle.balise_plan.proofs.items.OneChanged.{found_none, found_at}
use Rattle.balise_plan.proofs.group.Group.element.Goals as goal
use Rattle.balise_plan.proofs.group.Group.element.Goals.{After-packet, After-get}

pub returns-in_default-clause-fault : goal.returns-in_default-clause-fault
returns-in_default-clause-fault c = ap (element_refusal c.args.p c.args.k) (found_none eqb c.args.t c.self.inside.telegrams c.args.self.now c.self.view_is c.in_default.ensures)

-- the telegram stands
there : (c : After-packet) → find eqb c.args.t c.args.self.now ≡ Some c.index-telegram.result.now
there c = found_at nat_test (record { view = c.self.view_is; place = c.in-Some.i; key = tag_at c.self.inside.telegrams c.in-Some.i; found = c.in-Some.ensures; is = c.index-telegram.ensures })

-- and its packet too
links : (c : After-get) → slice_get (links_of (country_of c.index-telegram.result.now) c.in-Some-packet.packet) c.args.k ≡ c.get.result
links c =
    let same : c.elements-elements.result ≡ links_of (country_of c.index-telegram.result.now) c.in-Some-packet.packet = search rules in
    ap (λ l. slice_get l c.args.k) (sym same) ∙ sym c.get.ensures

pub returns-in_default-packet-clause-fault : goal.returns-in_default-packet-clause-fault
returns-in_default-packet-clause-fault c =
    ap (element_refusal c.args.p c.args.k) (there (goal.at.returns-in_default-packet-clause-fault c).After-packet)
    ∙ ap (link_refusal (country_of c.index-telegram.result.now) c.args.k) (sym c.packet.ensures ∙ c.in_default-packet.is)

pub returns-in_default-get-clause-fault : goal.returns-in_default-get-clause-fault
returns-in_default-get-clause-fault c =
    ap (element_refusal c.args.p c.args.k) (there (goal.at.returns-in_default-get-clause-fault c).After-packet)
    ∙ ap (link_refusal (country_of c.index-telegram.result.now) c.args.k) (sym c.packet.ensures ∙ c.in-Some-packet.is)
    ∙ ap (λ o. first_of (when (is_none o) NoSuchVariable ∷ [])) (links (goal.at.returns-in_default-get-clause-fault c).After-get ∙ c.in_default-get.is)

pub returns-clause-ok : goal.returns-clause-ok
returns-clause-ok c = (
  c.index-telegram.result.now,
  there (goal.at.returns-clause-ok c).After-packet,
  ap (λ o. slice_get (links_found (country_of c.index-telegram.result.now) o) c.args.k) (sym c.packet.ensures ∙ c.in-Some-packet.is) ∙ links (goal.at.returns-clause-ok c).After-get ∙ c.in-Some-get.is,
)
