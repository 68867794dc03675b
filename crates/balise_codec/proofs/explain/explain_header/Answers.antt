-- The header has 50 bits.
use Rattle.std.proofs.Common.{◌≡◌, ◌∙◌, ap, sym, length, arith}
use Rattle.std.proofs.lemmas.List.{length-take}
use Rattle.balise_rules.specs.Forms.{Fields, spelling}
use Rattle.balise_rules.proofs.TelegramRead.{header_found}
use Rattle.balise_telegram.specs.HeaderFields.{fields_in}
use Rattle.balise_codec.proofs.explain.explain_header.Goals as goal

pub place_all-requires : goal.place_all-requires
place_all-requires c =
    let b = c.args.bits.now in
    let size : length (spelling (fields_in c.read-header.result)) ≡ 50 = ap (λ (x : Fields). length (spelling x)) c.read-header.ensures ∙ ap length (sym (header_found b c.requires).spelt) ∙ omega (arith, length-take 50 b, c.requires) in
    omega (arith, size, ap (λ (x : Fields). length (spelling x)) c.header_fields-fields.ensures)
