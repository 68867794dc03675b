-- A search over the fields finds where the occurrence stands.
use Rattle.std.proofs.Common.{arith, ◌≡◌, ◌-◌, ℕ, Some, sym, ap, ◌∙◌}
use Rattle.balise_rules.specs.Packet.{width}
use Rattle.balise_layout.specs.declared.search.Search.{Search}
use Rattle.balise_layout.specs.Walks.{kept}
use Rattle.balise_layout.specs.Search.{look}
use Rattle.balise_layout.proofs.Searches.{search_found, search_none}
use Rattle.balise_layout.proofs.packet_ref.PacketRef.place_of.Goals as goal

pub overflow_sub-result : goal.overflow_sub-result
overflow_sub-result c =
    let p = c.args.self.now in
    let f = search_found c.args.var c.args.k p.fields p.rest c.in-Ok.search c.in-Some.left c.in-Ok.ensures.numbered (c.in-Ok.ensures.shows ∙ ap (λ (s : Search). kept look s (width p) p.fields) c.new.ensures) c.in-Some.is in
    let wide : width p ≡ c.width.result = sym c.width.ensures in
    omega (arith, f.0, wide)

pub returns-in-Some : goal.returns-in-Some
returns-in-Some c =
    let p = c.args.self.now in
    let f = search_found c.args.var c.args.k p.fields p.rest c.in-Ok.search c.in-Some.left c.in-Ok.ensures.numbered (c.in-Ok.ensures.shows ∙ ap (λ (s : Search). kept look s (width p) p.fields) c.new.ensures) c.in-Some.is in
    let wide : c.width.result ≡ width p = c.width.ensures in
    ap (λ (n : ℕ). Some (n - c.in-Some.left)) wide ∙ f.1

pub returns-in-None : goal.returns-in-None
returns-in-None c =
    let p = c.args.self.now in
    search_none c.args.var c.args.k (width p) p.fields c.in-Ok.search c.in-Ok.ensures.numbered (c.in-Ok.ensures.shows ∙ ap (λ (s : Search). kept look s (width p) p.fields) c.new.ensures) c.in-None.is
