use Rattle.std.proofs.Common.{◌∙◌, Some, sym, ap}
use Rattle.std.proofs.lemmas.Option.{slice_get-get_or}
use Rattle.balise_telegram.proofs.Tagging.{found, not_found}
use Rattle.balise_telegram.proofs.Placing.{looked}
use Rattle.balise_telegram.proofs.telegram.Telegram.packet.Goals as goal

pub returns-in_default : goal.returns-in_default
returns-in_default c = sym (not_found c.args.tag c.args.self.now.packets c.in_default.ensures.place)

pub returns : goal.returns
returns c =
    let ps = c.args.self.now.packets in
    let i = c.in-Some.place.index in
    let q = looked c.args.tag ps i c.in-Some.ensures.place in
    ap Some (c.lent.ensures q.0 (slice_get-get_or ps i q.0 q.1.within ∙ ap Some (sym q.1.is))) ∙ sym (found c.args.tag ps i q.0 q.1)
