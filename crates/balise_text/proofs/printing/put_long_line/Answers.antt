use Rattle.std.proofs.Common.{◌≡◌, ◌++◌, ◌∷◌, List, codes, map, append_assoc, refl}
use Rattle.balise_text.specs.Texts.{Text, behind_marks, whole_line}
use Rattle.balise_text.specs.Printing.{word_text}
use Rattle.balise_text.specs.declared.printing.Word.{Word}
use Rattle.balise_lines.specs.Writing.{LastFailed}
use Rattle.balise_text.proofs.TextsBehind.{some_behind, some_front_of}
use Rattle.balise_text.proofs.printing.put_long_line.Goals as goal

-- the words with their spaces
abbrev spaced : List Word → Text
spaced ws = behind_marks 32 (map word_text ws)

-- and the end of the line
abbrev ended : List Word → Text
ended ws = spaced ws ++ codes "\n"

parts : (name : Text) (ws : List Word) → whole_line (name ∷ map word_text ws) ≡ name ++ ended ws
parts name ws = append_assoc name (spaced ws) (codes "\n")

pub returns-in-Err : goal.returns-in-Err
returns-in-Err g c = some_front_of LastFailed _ _ _ _ _ _ (parts c.args.name.now c.args.words.now) c.in-Err.ensures

pub returns-in-Err-put_words : goal.returns-in-Err-put_words
returns-in-Err-put_words g c =
    let ws = c.args.words.now in
    some_behind LastFailed _ _ _ (ended ws) _ _ _ (parts c.args.name.now ws) c.in_default.ensures (some_front_of LastFailed _ (ended ws) (spaced ws) (codes "\n") _ _ refl c.in-Err-put_words.ensures)

pub returns-in-Err-put : goal.returns-in-Err-put
returns-in-Err-put g c =
    let ws = c.args.words.now in
    some_behind LastFailed _ _ _ (ended ws) _ _ _ (parts c.args.name.now ws) c.in_default.ensures (some_behind LastFailed _ (ended ws) (spaced ws) (codes "\n") _ _ _ refl c.in_default-put_words.ensures c.in-Err-put.ensures)
