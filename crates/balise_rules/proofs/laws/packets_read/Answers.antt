use Rattle.std.proofs.Common.{◌∙◌, ap}
use Rattle.balise_rules.specs.Packet.{read_body}
use Rattle.balise_rules.proofs.PacketRead.{body_found}
use Rattle.balise_rules.proofs.PacketAgain.{body_again}
use Rattle.balise_rules.proofs.laws.packets_read.Goals as goal

pub returns : goal.returns
returns c version b p behind = (λ e. let f = body_found version b (p, behind) e in (f.parts, f.spelt), λ s. ap (read_body version) s.0 ∙ body_again version p behind s.1)
