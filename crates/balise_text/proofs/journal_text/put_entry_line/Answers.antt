use Rattle.std.proofs.Common.{◌∙◌, List, Bool, ap, length, map, subst, sym}
use Rattle.std.proofs.lemmas.Bool.{eqb-true}
use Rattle.std.proofs.lemmas.List.{nil_from_length}
use Rattle.balise_commands.specs.Lines.{line_in}
use Rattle.balise_rules.specs.Digits.{hex_of}
use Rattle.balise_text.specs.LineEnds.{ending}
use Rattle.balise_text.specs.Texts.{Text}
use Rattle.balise_text.specs.Printing.{word_or_none, word_text}
use Rattle.balise_lines.specs.Writing.{Writes}
use Rattle.balise_text.proofs.PrintedLines.{behind_words, from_end}
use Rattle.balise_text.proofs.journal_text.put_entry_line.Goals as goal

pub returns-then-put_number : goal.returns-then-put_number
returns-then-put_number g c =
    let none = ap (λ (ts : List (List Bool)). map hex_of ts) (nil_from_length c.args.telegrams.now (eqb-true (length c.args.telegrams.now) 0 (sym c.is_empty.ensures ∙ c.if-is_empty.true))) in
    let all = from_end (line_in c.args.line.now) (map word_text c.args.words.now) (map hex_of c.args.telegrams.now) (word_or_none c.noted_word-noted.result) none c.requires c.noted_word-noted.ensures
    c.from.result c.from.ensures (ending c.new-end.result) (ending c.put_byte.new.self) (ending c.put_word_or_none.new.self) (ending c.put_words.new.self) c.text.result.now
    c.new-end.ensures.text (c.put_byte.ensures.text c.if-put_byte.true) (c.put_word_or_none.ensures c.if-put_word_or_none.true) (c.put_words.ensures c.if-put_words.true)
    (c.text.ensures ∙ c.put_number.ensures.text c.if-put_number.true) in
    subst (λ (t : Text). Writes g.W.Write.contents c.args.writer.now c.put.new.writer c.put.result t) all c.put.ensures

pub returns : goal.returns
returns g c =
    subst (λ (t : Text). Writes g.W.Write.contents c.args.writer.now c.put_parts.new.writer c.put_parts.result t)
    (sym (behind_words (line_in c.args.line.now) (map word_text c.args.words.now) (map hex_of c.args.telegrams.now) (word_or_none c.noted_word-noted.result) c.requires c.noted_word-noted.ensures)) c.put_parts.ensures
