use Rattle.std.proofs.Common.{ap, ◌∙◌}
use Rattle.balise_rules.specs.Packet.{read_first}
use Rattle.balise_layout.proofs.First.{reads_begins, spelt_reads}
use Rattle.balise_layout.proofs.laws.reads_what_is_spelt.Goals as goal

pub returns : goal.returns
returns c = λ version b p behind.
    (λ e. let g = reads_begins version b p behind e in (g.spelt, g.parts), λ s. ap (read_first version) s.1 ∙ spelt_reads version p behind s.0)
