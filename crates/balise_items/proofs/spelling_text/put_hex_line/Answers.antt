use Rattle.std.proofs.Common.{codes}
use Rattle.balise_rules.specs.Digits.{hex_of}
use Rattle.balise_lines.specs.Writing.{LastFailed}
use Rattle.balise_fields.proofs.Sequences.{behind, some_front_of}
use Rattle.balise_items.proofs.LineParts.{one_word}
use Rattle.balise_items.proofs.spelling_text.put_hex_line.Goals as goal

pub returns-in-Err : goal.returns-in-Err
returns-in-Err g c = let hex = hex_of c.args.bits.now in some_front_of LastFailed _ _ hex (codes "\n") _ _ (one_word hex) c.in-Err.ensures

pub returns : goal.returns
returns g c = let hex = hex_of c.args.bits.now in behind (λ _. LastFailed) _ c.put.result _ hex (codes "\n") _ _ _ (one_word hex) c.in_default.ensures c.put.ensures
