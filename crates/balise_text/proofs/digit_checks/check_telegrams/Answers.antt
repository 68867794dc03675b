use Rattle.std.proofs.Common.{◌∙◌, length, sym, ap}
use Rattle.balise_rules.specs.Digits.{read_hex}
use Rattle.balise_text.specs.Checks.{checked}
use Rattle.balise_text.specs.DigitWords.{bits_due, telegrams_in}
use Rattle.balise_text.specs.Left.{left}
use Rattle.balise_text.proofs.DigitChecks.{one_fault, one_more}
use Rattle.balise_text.proofs.digit_checks.check_telegrams.Goals as goal

pub returns-in-Err : goal.returns-in-Err
returns-in-Err c =
    let w = c.in-Some.word.now in
    let more = telegrams_in (left c.in-Some.rest) in
    let fault = sym c.check_telegram.ensures ∙ c.in-Err.is in
    sym (sym c.words.invariant ∙ ap (λ ws. checked (telegrams_in ws)) c.in-Some.ensures ∙ one_fault (read_hex (bits_due (length w)) w) more c.in-Err.refusal fault)

pub words-preserved : goal.words-preserved
words-preserved c =
    let w = c.in-Some.word.now in
    let more = telegrams_in (left c.in-Some.rest) in
    let read = sym c.check_telegram.ensures ∙ c.in_default-check_telegram.is in
    sym (ap (λ ws. checked (telegrams_in ws)) c.in-Some.ensures ∙ one_more (read_hex (bits_due (length w)) w) more read) ∙ c.words.invariant
