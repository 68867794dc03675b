use Rattle.std.proofs.Common.{◌≡◌, ◌∙◌, ◌&&◌, true, is_some, Some, sym, ap}
use Rattle.balise_rules.specs.declared.refusal.Refusal.{Refusal}
use Rattle.balise_rules.specs.declared.refusal.Refusal.TheVariants.{OutOfMemory}
use Rattle.balise_text.specs.Commands.{is_digits_kind}
use Rattle.balise_text.specs.JournalLines.{entry_reads_digits, entry_words}
use Rattle.balise_text.specs.Left.{left}
use Rattle.balise_text.specs.Words.{number_of, taken, words_of}
use Rattle.balise_text.proofs.Reading.{entry_digits, if_err}
use Rattle.balise_text.proofs.journal_line.entry.Goals as goal

pub returns-clause-memory : goal.returns-clause-memory
returns-clause-memory c =
    let s = c.in-Some.serial in
    let name = c.in-Some-next.name.now in
    let ws = left c.in-Some-next.words in
    let number : taken number_of (words_of c.args.line.now) ≡ Some (s, left c.in-Some.words) = ap (taken number_of) (sym c.of_line.ensures) ∙ c.in-Some.ensures in
    if_err c.read_entry.result (λ (e : Refusal). e ≡ OutOfMemory → (is_some (entry_words s c.read_kind.result ws) && is_digits_kind c.read_kind.result) ≡ true) (λ (e : Refusal). e ≡ OutOfMemory → entry_reads_digits c.args.line.now ≡ true)
    (λ e h m. entry_digits (words_of c.args.line.now) (left c.in-Some.words) ws s name number c.in-Some-next.ensures (ap (λ k. is_some (entry_words s k ws) && is_digits_kind k) (sym c.read_kind.ensures) ∙ h m))
    c.read_entry.ensures.memory
