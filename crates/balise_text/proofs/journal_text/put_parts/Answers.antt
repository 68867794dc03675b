use Rattle.std.proofs.Common.{Bool, List, Option, decimal, map, refl, ℕ}
use Rattle.balise_rules.specs.Digits.{hex_of}
use Rattle.balise_text.specs.Texts.{behind_marks}
use Rattle.balise_text.specs.Printing.{word_or_none, word_text}
use Rattle.balise_text.specs.declared.printing.Word.{Word}
use Rattle.balise_lines.specs.Writing.{LastFailed}
use Rattle.balise_lines.proofs.PartsWritten.{some_last, wrote_none, wrote_some}
use Rattle.balise_text.proofs.PrintedLines.{Parts, after_serial, after_telegrams, after_words, all, end, wrote_noted, wrote_serial, wrote_telegrams, wrote_words}
use Rattle.balise_text.proofs.journal_text.put_parts.Goals as goal

abbrev parts : ℕ → List Word → List (List Bool) → Option Word → Parts
parts serial ws bs n = record { serial = serial; words = map word_text ws; telegrams = map hex_of bs; noted = word_or_none n }

pub returns-in-Err : goal.returns-in-Err
returns-in-Err g c =
    let p = parts c.args.serial c.args.words.now c.args.telegrams.now c.args.noted.now in
    wrote_some LastFailed _ (all p) (all p) (decimal c.args.serial) (after_serial p) _ _ _ refl (wrote_none _ (all p) _) c.in-Err.ensures

pub returns-in-Err-put_words : goal.returns-in-Err-put_words
returns-in-Err-put_words g c =
    let p = parts c.args.serial c.args.words.now c.args.telegrams.now c.args.noted.now in
    wrote_some LastFailed _ (all p) (after_serial p) (behind_marks 32 p.words) (after_words p) _ _ _ refl (wrote_serial _ p _ _ c.in_default.ensures) c.in-Err-put_words.ensures

pub returns-in-Err-put_telegrams : goal.returns-in-Err-put_telegrams
returns-in-Err-put_telegrams g c =
    let p = parts c.args.serial c.args.words.now c.args.telegrams.now c.args.noted.now in
    let w = wrote_words _ p _ _ _ (wrote_serial _ p _ _ c.in_default.ensures) c.in_default-put_words.ensures in
    wrote_some LastFailed _ (all p) (after_words p) (behind_marks 32 p.telegrams) (after_telegrams p) _ _ _ refl w c.in-Err-put_telegrams.ensures

pub returns-in-Err-put_word_or_none : goal.returns-in-Err-put_word_or_none
returns-in-Err-put_word_or_none g c =
    let p = parts c.args.serial c.args.words.now c.args.telegrams.now c.args.noted.now in
    let w = wrote_words _ p _ _ _ (wrote_serial _ p _ _ c.in_default.ensures) c.in_default-put_words.ensures in
    wrote_some LastFailed _ (all p) (after_telegrams p) (behind_marks 32 p.noted) end _ _ _ refl (wrote_telegrams _ p _ _ _ w c.in_default-put_telegrams.ensures) c.in-Err-put_word_or_none.ensures

pub returns-in-Err-put : goal.returns-in-Err-put
returns-in-Err-put g c =
    let p = parts c.args.serial c.args.words.now c.args.telegrams.now c.args.noted.now in
    let w = wrote_words _ p _ _ _ (wrote_serial _ p _ _ c.in_default.ensures) c.in_default-put_words.ensures in
    some_last LastFailed _ (all p) end end _ _ _ refl (wrote_noted _ p _ _ _ (wrote_telegrams _ p _ _ _ w c.in_default-put_telegrams.ensures) c.in_default-put_word_or_none.ensures) c.in-Err-put.ensures
