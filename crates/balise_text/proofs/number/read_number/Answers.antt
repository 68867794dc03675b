use Rattle.std.proofs.Common.{◌∙◌, length, sym, ap, arith}
use Rattle.balise_text.specs.Left.{up_to}
use Rattle.balise_text.specs.Words.{number_of}
use Rattle.balise_text.proofs.UpTo.{all_of_it, made_of, made_of_none, none_up_to, not_all}
use Rattle.balise_text.proofs.number.read_number.Goals as goal

pub returns-in_default : goal.returns-in_default
returns-in_default c =
    let part = up_to 32 c.args.word.now in
    sym (none_up_to c.args.word.now (made_of_none (number_of part) (length part) c.in_default.ensures))

pub returns-then-len-word : goal.returns-then-len-word
returns-then-len-word c =
    let part = up_to 32 c.args.word.now in
    let made = made_of (number_of part) (length part) c.in-Some.number c.in-Some.len c.in-Some.ensures in
    sym (not_all c.args.word.now (omega (arith, c.if-len-word.true, made.1)))

pub returns : goal.returns
returns c =
    let word = c.args.word.now in
    let part = up_to 32 word in
    let made = made_of (number_of part) (length part) c.in-Some.number c.in-Some.len c.in-Some.ensures in
    sym made.0 ∙ ap number_of (all_of_it 32 word (omega (arith, c.if-len-word.false, made.1)))
