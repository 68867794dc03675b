use Rattle.std.proofs.Common.{◌≡◌, ◌∙◌, ◌∷◌, sym, ap}
use Rattle.balise_text.specs.Checks.{checked}
use Rattle.balise_text.specs.Commands.{call_in, command_words}
use Rattle.balise_text.specs.Left.{left}
use Rattle.balise_text.specs.Words.{or_bad, words_of}
use Rattle.balise_text.proofs.Reading.{named_checked}
use Rattle.balise_text.proofs.checks.check_request.Goals as goal

pub returns : goal.returns
returns c =
    let name = c.in-Some.name.now in
    let ws = left c.in-Some.words in
    let line : words_of c.args.line.now ≡ name ∷ ws = sym c.of_line.ensures ∙ c.in-Some.ensures in
    c.check_command.ensures ∙ ap (λ k. checked (or_bad (command_words k ws))) c.read_kind.ensures
    ∙ sym (ap (λ x. checked (or_bad (call_in x))) line ∙ named_checked name ws c.in_default-read_other.ensures)
