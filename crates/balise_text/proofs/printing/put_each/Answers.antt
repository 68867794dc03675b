use Rattle.std.proofs.Common.{◌+◌, ◌++◌, codes, drop, map, refl}
use Rattle.balise_text.specs.Texts.{Text, behind_marks}
use Rattle.balise_text.specs.Printing.{word_text}
use Rattle.balise_lines.specs.Writing.{LastFailed}
use Rattle.balise_lines.proofs.PartsWritten.{wrote_more, wrote_some}
use Rattle.balise_text.proofs.Lists.{item_word, word_left}
use Rattle.balise_text.proofs.printing.put_each.Goals as goal

pub returns-in-Err : goal.returns-in-Err
returns-in-Err g c =
    let i = c.loop-word.word-index in
    wrote_some LastFailed _ _ _ (codes " ") _ _ _ _ (word_left 32 word_text c.args.words.now i c.word-item.result c.loop-word-test.true) c.loop-word.invariant c.in-Err.ensures

pub returns-in-Err-put_word : goal.returns-in-Err-put_word
returns-in-Err-put_word g c =
    let more : Text = behind_marks 32 (map word_text (drop (c.loop-word.word-index + 1) c.args.words.now)) in
    let item : Text = word_text c.word-item.result in
    let e = item_word word_text c.args.words.now c.loop-word.word-index c.word-item.result c.loop-word-test.true c.word-item.is in
    wrote_some LastFailed _ _ (item ++ more) item more _ _ _ refl (wrote_more _ _ _ (codes " ") (item ++ more) _ _ _ e c.loop-word.invariant c.in_default.ensures) c.in-Err-put_word.ensures

pub loop-word-preserved : goal.loop-word-preserved
loop-word-preserved g c =
    let more : Text = behind_marks 32 (map word_text (drop (c.loop-word.word-index + 1) c.args.words.now)) in
    let item : Text = word_text c.word-item.result in
    let e = item_word word_text c.args.words.now c.loop-word.word-index c.word-item.result c.loop-word-test.true c.word-item.is in
    wrote_more _ _ (item ++ more) item more _ _ _ refl (wrote_more _ _ _ (codes " ") (item ++ more) _ _ _ e c.loop-word.invariant c.in_default.ensures) c.in_default-put_word.ensures
