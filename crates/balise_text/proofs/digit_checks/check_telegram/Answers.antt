use Rattle.std.proofs.Common.{◌∙◌, sym, refl, arith}
use Rattle.balise_text.proofs.DigitChecks.{hex_long, hex_spare, hex_whole, long_spare, short_spare}
use Rattle.balise_text.proofs.digit_checks.check_telegram.Goals as goal

pub returns-then-last_byte-ne0 : goal.returns-then-last_byte-ne0
returns-then-last_byte-ne0 c =
    let w = c.args.word.now in
    sym (hex_spare w 830 208 4 c.last_byte.result long_spare c.if-word-eq208.true refl c.last_byte.ensures (sym c.check_digits.ensures ∙ c.in_default.is) c.if-last_byte-ne0.true)

pub returns-then-word-eq208 : goal.returns-then-word-eq208
returns-then-word-eq208 c =
    let w = c.args.word.now in
    sym (hex_whole w 830 208 4 c.last_byte.result long_spare c.if-word-eq208.true refl c.last_byte.ensures (sym c.check_digits.ensures ∙ c.in_default.is) (omega (arith, c.if-last_byte-ne0.false)))

pub returns-then-word-ne54 : goal.returns-then-word-ne54
returns-then-word-ne54 c = sym (hex_long c.args.word.now c.if-word-eq208.false c.if-word-ne54.true (sym c.check_digits.ensures ∙ c.in_default.is))

pub returns-then-last_byte-ne0-2 : goal.returns-then-last_byte-ne0-2
returns-then-last_byte-ne0-2 c =
    let w = c.args.word.now in
    sym (hex_spare w 210 54 64 c.last_byte-2.result short_spare (omega (arith, c.if-word-ne54.false)) refl c.last_byte-2.ensures (sym c.check_digits.ensures ∙ c.in_default.is) c.if-last_byte-ne0-2.true)

pub returns : goal.returns
returns c =
    let w = c.args.word.now in
    sym (hex_whole w 210 54 64 c.last_byte-2.result short_spare (omega (arith, c.if-word-ne54.false)) refl c.last_byte-2.ensures (sym c.check_digits.ensures ∙ c.in_default.is) (omega (arith, c.if-last_byte-ne0-2.false)))
