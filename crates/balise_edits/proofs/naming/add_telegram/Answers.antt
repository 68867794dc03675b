-- Packet by packet, the names that were added and those of the rest are the names of the telegram.
use Rattle.std.proofs.Common.{◌≡◌, ◌∙◌, ◌++◌, ℕ, List, ap, sym, append_assoc, append-nil}
use Rattle.balise_rules.specs.declared.identity.Id.{Id}
use Rattle.balise_rules.specs.Names.{names_in_packets, names_of}
use Rattle.balise_rules.specs.Plan.{country_of}
use Rattle.balise_plan.proofs.Past.{fewer_left, names_past, no_names}
use Rattle.balise_edits.proofs.naming.add_telegram.Goals as goal

pub packets-preserved : goal.packets-preserved
packets-preserved c =
    let own = country_of c.args.telegram.now in
    let items = c.packets.names.items in
    let rest = names_in_packets own c.next_linking.new.self in
    let country : c.identity-country.result.country ≡ own = ap (λ (i : Id). i.country) c.identity-country.ensures in
    ap (λ (names : List Id). names ++ rest) (c.in_ok-add_packet.ensures ∙ ap (λ (number : ℕ). items ++ names_of number c.in-Some.packet) country)
    ∙ append_assoc items (names_of own c.in-Some.packet) rest
    ∙ ap (λ (names : List Id). items ++ names) (sym (names_past own _ _ c.in-Some.ensures.some))
    ∙ c.packets.invariant

pub packets-smaller : goal.packets-smaller
packets-smaller c = fewer_left _ _ _ c.in-Some.ensures.some

pub returns-in_default-clause-ok : goal.returns-in_default-clause-ok
returns-in_default-clause-ok c =
    let items = c.packets.names.items in
    sym (append-nil items) ∙ ap (λ (names : List Id). items ++ names) (sym (no_names (country_of c.args.telegram.now) _ c.in_default.ensures.none)) ∙ c.packets.invariant
