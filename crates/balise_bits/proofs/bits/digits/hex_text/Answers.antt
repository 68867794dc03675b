use Rattle.std.proofs.Common.{◌≡◌, ◌∙◌, sym, arith}
use Rattle.std.proofs.lemmas.Result.{IfOk-weaker}
use Rattle.std.specs.String.{string_bytes}
use Rattle.balise_rules.specs.Digits.{digits_in}
use Rattle.balise_bits.specs.Bytes.{flat}
use Rattle.balise_bits.proofs.Digits.{digits_in-flat}
use Rattle.balise_bits.proofs.bits.digits.hex_text.Goals as goal
use Rattle.hex.specs.Hex.{encode_lower}

pub returns : goal.returns
returns c =
    IfOk-weaker c.encode.result (λ text. string_bytes text ≡ encode_lower c.args.bytes.now) (λ text. string_bytes text ≡ digits_in (flat c.args.bytes.now))
    (λ text e. e ∙ sym (digits_in-flat c.args.bytes.now (λ i. omega (arith, c.type_inv.bytes i)))) c.encode.ensures
