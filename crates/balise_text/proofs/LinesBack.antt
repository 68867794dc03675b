-- The lines that are printed for a journal are read as the same, and each is one line.
use Rattle.std.proofs.Common.{◌≡◌, ◌∙◌, ℕ, ◌<◌, ◌==◌, ◌++◌, true, false, List, [], ◌∷◌, length, Some, None, Ok, decimal, codes, refl, sym, ap, arith}
use Rattle.std.specs.Prelude.{bytes_eq, ok_or, option_map}
use Rattle.std.proofs.lemmas.List.{append-nil}
use Rattle.std.proofs.lemmas.Fmt.{decimal_nonempty}
use Rattle.balise_rules.specs.declared.refusal.Refusal.TheVariants.{BadLine}
use Rattle.balise_rules.specs.Journal.{Line}
use Rattle.balise_text.specs.declared.head.Version.{Version}
use Rattle.balise_text.specs.declared.head.Version.TheVariants.{One, Two}
use Rattle.balise_text.specs.declared.section.Section.{Section}
use Rattle.balise_text.specs.declared.section.Section.TheVariants.{Entries, Undone}
use Rattle.balise_text.specs.Words.{Word, words_of, is_digit, all_digits, or_bad, read_as}
use Rattle.balise_text.specs.Texts.{behind_marks}
use Rattle.balise_text.specs.Entries.{edit_words, noted_words, entry_text, undone_text}
use Rattle.balise_text.specs.Heads.{head_in}
use Rattle.balise_text.specs.JournalLines.{JournalLine, EntryLine, UndoneLine, entry_in, undone_in, line_in, journal_line_of}
use Rattle.balise_text.specs.Laws.{IsNumber, ReadsAsPrinted, HeadReadsAsPrinted, UndoneReadsAsPrinted, PrintsLines}
use Rattle.balise_text.proofs.Decimals.{digits_of_decimal, number_of_decimal}
use Rattle.balise_text.proofs.High.{decimal_high, one_line}
use Rattle.balise_text.proofs.Marked.{both}
use Rattle.balise_text.proofs.EntriesBack.{entry_again, words_again, words_high}

-- A text that begins with a digit isn't one that begins with a letter.
differs : (w rest : Word) (c : ℕ) (cs : Word) → all_digits w ≡ true → 0 < length w → 57 < c → bytes_eq (w ++ rest) (c ∷ cs) ≡ false
differs [] rest c cs d l k = absurd (omega arith)
differs (b ∷ bs) rest c cs d l k =
    let p = both (is_digit b) (all_digits bs) d in
    let q : (b == c) ≡ false = grind (arith, p.0) in
    rw q refl

-- an entry's line isn't `edits`, and not an undone edit's
not_edits : (l : Line) → IsNumber l.serial → bytes_eq (entry_text l) (codes "edits") ≡ false
not_edits l h = differs (decimal l.serial) (behind_marks 32 (edit_words l.edit ++ noted_words l.noted)) 101 (codes "dits") (digits_of_decimal l.serial h) (decimal_nonempty l.serial (omega arith)) (omega arith)

serial_not_undone : (s : ℕ) → IsNumber s → bytes_eq (decimal s) (codes "undone") ≡ false
serial_not_undone s h = ap (λ (t : Word). bytes_eq t (codes "undone")) (sym (append-nil (decimal s))) ∙ differs (decimal s) [] 117 (codes "ndone") (digits_of_decimal s h) (decimal_nonempty s (omega arith)) (omega arith)

as_line : (line : Word) (part : Section) (x : JournalLine) → bytes_eq line (codes "edits") ≡ false → line_in part (words_of line) ≡ Some (Ok x) → journal_line_of part line ≡ Ok x
as_line line part x e f = rw e (ap or_bad f)

entry_in_part : (v : Version) (ws : List Word) (l : Line) → undone_in ws ≡ None → entry_in ws ≡ Some (Ok l) → line_in (Entries v) ws ≡ Some (Ok (EntryLine l))
entry_in_part One ws l u e = ap (option_map (read_as EntryLine)) e
entry_in_part Two ws l u e = rw u (ap (option_map (read_as EntryLine)) e)

pub reads_as_printed : ReadsAsPrinted
reads_as_printed v l p =
    let ws = edit_words l.edit ++ noted_words l.noted in
    let again : words_of (entry_text l) ≡ decimal l.serial ∷ ws = words_again (decimal l.serial) ws (words_high l.serial l.edit l.noted p.0 p.1) in
    let none : undone_in (words_of (entry_text l)) ≡ None = ap undone_in again ∙ (rw (serial_not_undone l.serial p.0) refl) in
    as_line (entry_text l) (Entries v) (EntryLine l) (not_edits l p.0) (entry_in_part v (words_of (entry_text l)) l none (entry_again l p))

pub head_reads_as_printed : HeadReadsAsPrinted
head_reads_as_printed next h =
    ap (λ ws. ok_or (head_in ws) BadLine) (words_again (codes "journal") (codes "2" ∷ decimal next ∷ []) (refl, (refl, (decimal_high next h, tt)))) ∙ (rw (number_of_decimal next h) refl)

pub undone_reads_as_printed : UndoneReadsAsPrinted
undone_reads_as_printed s h =
    let again : undone_in (words_of (undone_text s)) ≡ Some s = ap undone_in (words_again (codes "undone") (decimal s ∷ []) (refl, (decimal_high s h, tt))) ∙ (rw (number_of_decimal s h) refl) in
    (as_line (undone_text s) (Entries Two) (UndoneLine s) refl (rw again refl), as_line (undone_text s) Undone (UndoneLine s) refl (rw again refl))

pub prints_lines : PrintsLines
prints_lines = (
  λ l p. one_line (decimal l.serial ∷ (edit_words l.edit ++ noted_words l.noted)) (words_high l.serial l.edit l.noted p.0 p.1),
  λ n h. (one_line (codes "journal" ∷ codes "2" ∷ decimal n ∷ []) (refl, (refl, (decimal_high n h, tt))), one_line (codes "undone" ∷ decimal n ∷ []) (refl, (decimal_high n h, tt))),
)
