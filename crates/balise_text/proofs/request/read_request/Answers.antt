use Rattle.std.proofs.Common.{◌≡◌, ◌∙◌, ◌&&◌, ◌∷◌, Err, true, is_some, sym, ap}
use Rattle.balise_text.specs.Words.{or_bad, words_of}
use Rattle.balise_text.specs.Kinds.{kind_of}
use Rattle.balise_text.specs.Commands.{call_in, command_words, has_digits, is_digits_kind}
use Rattle.balise_text.specs.Left.{left}
use Rattle.balise_text.proofs.Reading.{named_digits, named_fault}
use Rattle.balise_text.proofs.request.read_request.Goals as goal

pub returns-in-Err-clause-fault : goal.returns-in-Err-clause-fault
returns-in-Err-clause-fault c = λ n.
    let name = c.in-Some.name.now in
    let ws = left c.in-Some.words in
    let line : words_of c.args.line.now ≡ name ∷ ws = sym c.of_line.ensures ∙ c.in-Some.ensures in
    let fault : or_bad (command_words (kind_of name) ws) ≡ Err c.in-Err.refusal = ap (λ k. or_bad (command_words k ws)) (sym c.read_kind.ensures) ∙ c.in-Err.ensures.fault n in
    ap (λ x. or_bad (call_in x)) line ∙ named_fault name ws c.in-Err.refusal c.in_default-read_other.ensures fault

pub returns-in-Err-clause-memory : goal.returns-in-Err-clause-memory
returns-in-Err-clause-memory c = λ m.
    let name = c.in-Some.name.now in
    let ws = left c.in-Some.words in
    let line : words_of c.args.line.now ≡ name ∷ ws = sym c.of_line.ensures ∙ c.in-Some.ensures in
    let digits : (is_some (command_words (kind_of name) ws) && is_digits_kind (kind_of name)) ≡ true = ap (λ k. is_some (command_words k ws) && is_digits_kind k) (sym c.read_kind.ensures) ∙ c.in-Err.ensures.memory m in
    ap (λ x. is_some (call_in x) && has_digits x) line ∙ named_digits name ws c.in_default-read_other.ensures digits
