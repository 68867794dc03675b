-- The line that is printed for an entry is read as the same entry.
use Rattle.balise_rules.specs.declared.tagged_edit.TaggedEdit.TheVariants.{SetVar, SetHead, InsertPacket, DeletePacket, MovePacket, AddGroup, DropGroup, Renumber, TurnGroup}
use Rattle.std.proofs.Common.{◌≡◌, ◌∙◌, ℕ, ◌<◌, ◌++◌, Bool, true, List, [], ◌∷◌, length, map, All, Some, Ok, inl, inr, decimal, refl, ap, arith}
use Rattle.std.proofs.lemmas.List.{append-nil}
use Rattle.std.proofs.lemmas.List.Elements.{All-head, All-tail}
use Rattle.balise_rules.specs.Digits.{hex_of, read_hex}
use Rattle.balise_rules.specs.Telegram.{IsLength}
use Rattle.balise_rules.specs.Journal.{Line, LineEdit, Noted, Nothing, Value, Number, BeforePacket, BeforeGroup}
use Rattle.balise_text.specs.Words.{Word, words_of}
use Rattle.balise_text.specs.Texts.{line_of}
use Rattle.balise_text.specs.DigitWords.{some_word, bits_due, telegrams_in, is_some_word, have_digits, some_words}
use Rattle.balise_text.specs.Entries.{edit_words, noted_words, entry_text}
use Rattle.balise_text.specs.JournalLines.{entry, entry_in}
use Rattle.balise_text.specs.Laws.{IsNumber, AreTelegrams, ArePrintable, IsPrintable}
use Rattle.balise_text.proofs.Decimals.{number_of_decimal}
use Rattle.balise_text.proofs.Marked.{parts_marked}
use Rattle.balise_text.proofs.High.{AllHigh, all_high-append, all_high_lack, decimal_high, name_high, tag_high, anchor_high, neighbour_high, telegram_path_high, packet_path_high}
use Rattle.balise_rules.proofs.VariableNames.{name_read}
use Rattle.balise_text.proofs.Spelt.{tag_read, anchor_read, neighbour_read, telegram_path_read, packet_path_read}
use Rattle.balise_text.proofs.HexDigits.{digits_high, hex_count, bytes_read, due_read}

-- Digits.

some_is : (w : Word) → 0 < length w → some_word w ≡ Some w
some_is [] h = absurd (omega arith)
some_is (b ∷ bs) h = refl

due : (b : List Bool) → IsLength (length b) → bits_due (length (hex_of b)) ≡ length b
due b h = elim h [
  | inl e ↦ let n : length (hex_of b) ≡ 54 = omega (arith, e, hex_count b) in rw (n, e) refl
  | inr e ↦ let n : length (hex_of b) ≡ 208 = omega (arith, e, hex_count b) in rw (n, e) refl
]

telegram_read : (b : List Bool) → IsLength (length b) → read_hex (bits_due (length (hex_of b))) (hex_of b) ≡ Ok b
telegram_read b h = ap (λ (n : ℕ). read_hex n (hex_of b)) (due b h) ∙ due_read b

telegrams_read : (bs : List (List Bool)) → All (λ b. IsLength (length b)) bs → telegrams_in (map hex_of bs) ≡ Ok bs
telegrams_read [] h = refl
telegrams_read (b ∷ bs) h = rw (telegram_read b (All-head (λ x. IsLength (length x)) b bs h), telegrams_read bs (All-tail (λ x. IsLength (length x)) b bs h)) refl

some_digits : (b : List Bool) → IsLength (length b) → 0 < length (hex_of b)
some_digits b h = elim h [ inl e ↦ omega (arith, e, hex_count b) | inr e ↦ omega (arith, e, hex_count b) ]

is_some : (w : Word) → 0 < length w → is_some_word w ≡ true
is_some [] h = absurd (omega arith)
is_some (b ∷ bs) h = refl

have_them : (b : List Bool) (bs : List (List Bool)) → All (λ b. IsLength (length b)) (b ∷ bs) → have_digits (map hex_of (b ∷ bs)) ≡ true
have_them b [] h = is_some (hex_of b) (some_digits b (All-head (λ x. IsLength (length x)) b [] h))
have_them b (c ∷ bs) h =
    rw (is_some (hex_of b) (some_digits b (All-head (λ x. IsLength (length x)) b (c ∷ bs) h)), have_them c bs (All-tail (λ x. IsLength (length x)) b (c ∷ bs) h)) refl

some_words_are : (bs : List (List Bool)) → AreTelegrams bs → some_words (map hex_of bs) ≡ Some (map hex_of bs)
some_words_are [] h = absurd (let n = h.0 in omega arith)
some_words_are (b ∷ bs) h = let e = have_them b bs h.1 in rw e refl

-- No word holds a byte below `$`.

hex_high : (bs : List (List Bool)) → AllHigh (map hex_of bs)
hex_high [] = tt
hex_high (b ∷ bs) = (digits_high _, hex_high bs)

pub words_high : (s : ℕ) (e : LineEdit) (m : Noted) → IsNumber s → ArePrintable e m → AllHigh (decimal s ∷ (edit_words e ++ noted_words m))
words_high s (SetVar g t p v k n) (Value m) h (a, b, c, d, e, f) = (decimal_high s h, (refl, (packet_path_high g t p a b c, (name_high v, (decimal_high k d, (decimal_high n e, (decimal_high m f, tt)))))))
words_high s (SetHead g t v n) (Value m) h (a, b, c, d) = (decimal_high s h, (refl, (telegram_path_high g t a b, (name_high v, (decimal_high n c, (decimal_high m d, tt))))))
words_high s (InsertPacket g t x bs) Nothing h (a, b, c, d) = (decimal_high s h, (refl, (telegram_path_high g t a b, (anchor_high x c, (digits_high _, tt)))))
words_high s (DeletePacket g t p) (BeforePacket q) h (a, b, c, d) = (decimal_high s h, (refl, (packet_path_high g t p a b c, (neighbour_high q d, tt))))
words_high s (MovePacket g t p x) (BeforePacket q) h (a, b, c, d, e) = (decimal_high s h, (refl, (packet_path_high g t p a b c, (anchor_high x d, (neighbour_high q e, tt)))))
words_high s (AddGroup x bs) Nothing h (a, b) = (decimal_high s h, (refl, (anchor_high x a, all_high-append (map hex_of bs) [] (hex_high bs) tt)))
words_high s (DropGroup g) (BeforeGroup q) h (a, b) = (decimal_high s h, (refl, (tag_high g a, (neighbour_high q b, tt))))
words_high s (Renumber g n) (Number m) h (a, b, c) = (decimal_high s h, (refl, (tag_high g a, (decimal_high n b, (decimal_high m c, tt)))))
words_high s (TurnGroup g) Nothing h a = (decimal_high s h, (refl, (tag_high g a, tt)))
words_high s e m h p = absurd p

-- The words of a whole line.

same_words : (s : ℕ) (e : LineEdit) (m : Noted) → IsNumber s → ArePrintable e m → entry_in (decimal s ∷ (edit_words e ++ noted_words m)) ≡ Some (Ok (entry s e m))
same_words s (SetVar g t p v k n) (Value m) h (a, b, c, d, e, f) =
    rw (number_of_decimal s h, packet_path_read g t p a b c, name_read v, number_of_decimal k d, number_of_decimal n e, number_of_decimal m f) refl
same_words s (SetHead g t v n) (Value m) h (a, b, c, d) = rw (number_of_decimal s h, telegram_path_read g t a b, name_read v, number_of_decimal n c, number_of_decimal m d) refl
same_words s (InsertPacket g t x bs) Nothing h (a, b, c, d) =
    rw (number_of_decimal s h, telegram_path_read g t a b, anchor_read x c, some_is (hex_of bs) (omega (arith, d.0, hex_count bs)), bytes_read bs d.1) refl
same_words s (DeletePacket g t p) (BeforePacket q) h (a, b, c, d) = rw (number_of_decimal s h, packet_path_read g t p a b c, neighbour_read q d) refl
same_words s (MovePacket g t p x) (BeforePacket q) h (a, b, c, d, e) = rw (number_of_decimal s h, packet_path_read g t p a b c, anchor_read x d, neighbour_read q e) refl
same_words s (AddGroup x bs) Nothing h (a, b) =
    rw (append-nil (map hex_of bs), number_of_decimal s h, anchor_read x a, some_words_are bs b, telegrams_read bs b.1) refl
same_words s (DropGroup g) (BeforeGroup q) h (a, b) = rw (number_of_decimal s h, tag_read g a, neighbour_read q b) refl
same_words s (Renumber g n) (Number m) h (a, b, c) = rw (number_of_decimal s h, tag_read g a, number_of_decimal n b, number_of_decimal m c) refl
same_words s (TurnGroup g) Nothing h a = rw (number_of_decimal s h, tag_read g a) refl
same_words s e m h p = absurd p

-- the words of a line that was printed are those that were put together
pub words_again : (w : Word) (ws : List Word) → AllHigh (w ∷ ws) → words_of (line_of (w ∷ ws)) ≡ w ∷ ws
words_again w ws h = parts_marked 32 w ws (all_high_lack 32 (w ∷ ws) (omega arith) h)

pub entry_again : (l : Line) → IsPrintable l → entry_in (words_of (entry_text l)) ≡ Some (Ok l)
entry_again l p =
    ap entry_in (words_again (decimal l.serial) (edit_words l.edit ++ noted_words l.noted) (words_high l.serial l.edit l.noted p.0 p.1))
    ∙ same_words l.serial l.edit l.noted p.0 p.1
