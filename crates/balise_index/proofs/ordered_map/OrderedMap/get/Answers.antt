use Rattle.std.proofs.Common.{◌∙◌, sym, ap}
use Rattle.balise_index.proofs.order.Coded.{find-held, Coded}
use Rattle.balise_index.proofs.order.Held.{none-held}
use Rattle.balise_index.proofs.ordered_map.OrderedMap.get.Goals as goal

pub returns-in-Some : goal.returns-in-Some
returns-in-Some g c =
    let code : Coded c.self.inside.order.rare c.self.inside.held.entries c.self.inside.order.items c.args.self.now.entries c.in-Some.code c.args.tag = record { one = c.in-Some.ensures.one; is = record { known = c.in-Some.ensures.known; tag = c.in-Some.ensures.tag }; kept = c.self.invariant; view = ap (λ v. v.entries) c.self.view_is } in
    record { value = c.found.ensures ∙ sym (find-held code) }

pub returns-in-None : goal.returns-in-None
returns-in-None g c = record { value = sym (none-held c.self.inside.order.rare c.self.inside.held.entries c.args.tag c.in-None.ensures.none c.self.invariant.1 c.self.invariant.0 (ap (λ v. v.entries) c.self.view_is)) }
