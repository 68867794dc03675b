-- Both values fit their widths.
use Rattle.std.proofs.Common.{ℕ, ◌<◌, ◌^◌, ◌∷◌, [], arith}
use Rattle.std.proofs.lemmas.List.Elements.{All-cons, All-nil}
use Rattle.balise_rules.specs.declared.variable.Var.{Var}
use Rattle.balise_rules.specs.declared.variable.Var.TheVariants.{QDir, LPacket}
use Rattle.balise_rules.specs.Variables.{width_of}
use Rattle.balise_codec_tests.proofs.tests.packets.values_are_written_in_their_widths.Goals as goal

abbrev IsFit : Var × ℕ → Type 0
IsFit v = v.1 < 2 ^ width_of v.0

pub write_values-requires : goal.write_values-requires
unfolding width_of
write_values-requires g c = All-cons IsFit (QDir, 1) ((LPacket, 31) ∷ []) (omega arith) (All-cons IsFit (LPacket, 31) [] (omega arith) (All-nil IsFit))
