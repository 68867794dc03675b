-- What is printed for a word, and the digits of bits; and what a fault states about the writer of a text.
use Rattle.std.specs.Prelude.{ℕ, ◌-◌, ◌%◌, ◌++◌, List, [], ◌∷◌, Bool, true, false, Option, None, Some, Result, MatchResult, length, decimal}
use Rattle.balise_lines.specs.Writing.{CountsFor, LastFailed, Never, NoneFailed, Reason, WritesAll, WritesSome}
use Rattle.balise_lines.specs.declared.counted.Counted.{Counted}
use Rattle.balise_rules.specs.Bits.{num, part, zeros}
use Rattle.balise_rules.specs.Digits.{digits_in, fill, hex_of}
use Rattle.balise_text.specs.Texts.{Text}
use Rattle.balise_text.specs.Places.{tag_text, anchor_text, neighbour_text, telegram_path, packet_path}
use Rattle.balise_text.specs.Reviews.{id_text}
use Rattle.balise_text.specs.declared.printing.Word.{Word}
use Rattle.balise_text.specs.declared.printing.Word.TheVariants.{Name, Number, LineNumber, Identity, GroupTag, Anchor, Neighbour, TelegramPath, PacketPath, Digits}
use Rattle.balise_text.specs.declared.run_fault.RunFault.{RunFault}
use Rattle.balise_text.specs.declared.run_fault.RunFault.TheVariants.{OutOfMemory, WriteFault}

abbrev pub word_text : Word → Text
word_text (Name t) = t.now
word_text (Number n) = decimal n
word_text (LineNumber n) = decimal n
word_text (Identity i) = id_text i
word_text (GroupTag g) = tag_text g
word_text (Anchor a) = anchor_text a
word_text (Neighbour b) = neighbour_text b
word_text (TelegramPath g t) = telegram_path g t
word_text (PacketPath g t p) = packet_path g t p
word_text (Digits b) = hex_of b.now

-- names and digits may be long
abbrev pub is_short : Word → Bool
is_short (Name t) = false
is_short (Digits b) = false
is_short w = true

-- one word, or none
abbrev pub word_or_none : Option Word → List Text
word_or_none None = []
word_or_none (Some w) = word_text w ∷ []

-- bits, and zeros up to a whole byte
abbrev pub padded : List Bool → List Bool
padded b = b ++ zeros (fill (length b))

-- how many bits fill the last digit
abbrev pub digit_fill : ℕ → ℕ
digit_fill n = (4 - n % 4) % 4

-- bits, and zeros up to a whole digit
abbrev pub filled : List Bool → List Bool
filled b = b ++ zeros (digit_fill (length b))

-- the digits of bits; only the last digit is filled
abbrev pub fours_of : List Bool → Text
fours_of b = digits_in (filled b)

-- the value of w bits from a place on, where zeros stand after the last bit
abbrev pub value_at : ℕ → ℕ → List Bool → ℕ
value_at at w b = num (part at w (b ++ zeros w))

-- why a text wasn't written to its end, where the run ends with this fault
abbrev pub reason_of : RunFault → Reason
reason_of OutOfMemory = NoneFailed
reason_of WriteFault = LastFailed
reason_of e = Never

-- the fault of a line that was done or printed: out of memory, or the writer's count went up
abbrev pub IsCause : ℕ → ℕ → RunFault → Type 0
IsCause old new e = CountsFor (reason_of e) old new

-- all of the text was written and no call failed, or a beginning of it and then this fault; where the writer failed, not all of it
abbrev pub Prints : {W A : Type 0} → (W → Option (List ℕ)) → Counted W → Counted W → Result A RunFault → List ℕ → Type 0
Prints contents old new r text = MatchResult r (λ _. WritesAll contents old new text) (λ fault. WritesSome (reason_of fault) contents old new text)
