use Rattle.std.proofs.Common.{Some, sym}
use Rattle.balise_rules.specs.Addresses.{FoundTelegram}
use Rattle.balise_plan.proofs.plans.Finding.{packet_found}
use Rattle.balise_plan.proofs.plan.Plan.find_packet.Goals as goal

pub returns-in-Some-clause-ok : goal.returns-in-Some-clause-ok
returns-in-Some-clause-ok c =
    let f : FoundTelegram = record { group = c.in-Ok.found.0; place = c.in-Ok.found.1; telegram = c.in-Ok.found.2.now } in
    packet_found c.args.id c.args.pig c.args.pkt c.args.self.now.groups f (Some (c.in-Some.p, c.in-Some.packet)) c.in-Ok.ensures.ok (sym c.in-Some.ensures)
