use Rattle.std.proofs.Common.{◌≡◌, ◌∙◌, ℕ, ap}
use Rattle.balise_rules.specs.declared.variable.Var.TheVariants.{NidC, NidBg}
use Rattle.balise_rules.specs.Packet.{value}
use Rattle.balise_telegram.proofs.Walking.{head_shown}
use Rattle.balise_telegram.proofs.telegram.Telegram.identity.Goals as goal

pub returns : goal.returns
returns c =
    let y = c.args.self.now in
    let head = head_shown c.packed.result.now y c.packed.ensures in
    let i = c.identity_in.result in
    let country : i.country ≡ value NidC 0 y.head = c.identity_in.ensures.country ∙ ap (value NidC 0) head in
    let number : i.number ≡ value NidBg 0 y.head = c.identity_in.ensures.number ∙ ap (value NidBg 0) head in
    ap (λ (k : ℕ). record { country = k; number = i.number }) country ∙ ap (λ (k : ℕ). record { country = value NidC 0 y.head; number = k }) number
