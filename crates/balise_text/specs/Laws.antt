-- What is printed for a journal is read as the same, and is one line.
use Rattle.balise_rules.specs.declared.tagged_edit.TaggedEdit.TheVariants.{SetVar, SetHead, InsertPacket, DeletePacket, MovePacket, AddGroup, DropGroup, Renumber, TurnGroup}
use Rattle.std.specs.Prelude.{◌≡◌, ◌≢◌, ℕ, ◌≤◌, ◌%◌, List, Bool, length, All, Option, Some, None, Ok}
use Rattle.balise_rules.specs.declared.tag.Tag.{Tag}
use Rattle.balise_rules.specs.declared.tag.Tag.TheVariants.{Base, Fresh}
use Rattle.balise_rules.specs.Telegram.{IsLength}
use Rattle.balise_rules.specs.Journal.{Line, LineEdit, Noted, Nothing, Value, Number, BeforePacket, BeforeGroup}
use Rattle.balise_text.specs.declared.head.Version.{Version}
use Rattle.balise_text.specs.declared.head.Version.TheVariants.{Two}
use Rattle.balise_text.specs.declared.section.Section.TheVariants.{Entries, Undone}
use Rattle.balise_text.specs.Texts.{Text}
use Rattle.balise_text.specs.Words.{most_number}
use Rattle.balise_text.specs.Entries.{entry_text, head_text, undone_text}
use Rattle.balise_text.specs.Heads.{read_head}
use Rattle.balise_text.specs.JournalLines.{journal_line_of, EntryLine, UndoneLine}

-- a number of 32 bits
abbrev pub IsNumber : ℕ → Type 0
IsNumber n = n ≤ most_number

abbrev pub IsTagNumber : Tag → Type 0
IsTagNumber (Base n) = IsNumber n
IsTagNumber (Fresh n) = IsNumber n

abbrev pub IsSpot : Option Tag → Type 0
IsSpot None = Unit {0}
IsSpot (Some a) = IsTagNumber a

-- whole bytes, at least one
abbrev pub AreBytes : List Bool → Type 0
AreBytes b = (1 ≤ length b) × (length b % 8 ≡ 0)

-- telegrams of 210 or 830 bits, at least one
abbrev pub AreTelegrams : List (List Bool) → Type 0
AreTelegrams bs = (1 ≤ length bs) × All (λ b. IsLength (length b)) bs

-- an edit and what is noted of it are of one kind, each number is one of 32 bits, and digits are whole
abbrev pub ArePrintable : LineEdit → Noted → Type 0
ArePrintable (SetVar g t p v k n) (Value m) = IsTagNumber g × IsNumber t × IsTagNumber p × IsNumber k × IsNumber n × IsNumber m
ArePrintable (SetHead g t v n) (Value m) = IsTagNumber g × IsNumber t × IsNumber n × IsNumber m
ArePrintable (InsertPacket g t a b) Nothing = IsTagNumber g × IsNumber t × IsSpot a × AreBytes b
ArePrintable (DeletePacket g t p) (BeforePacket b) = IsTagNumber g × IsNumber t × IsTagNumber p × IsSpot b
ArePrintable (MovePacket g t p a) (BeforePacket b) = IsTagNumber g × IsNumber t × IsTagNumber p × IsSpot a × IsSpot b
ArePrintable (AddGroup a bs) Nothing = IsSpot a × AreTelegrams bs
ArePrintable (DropGroup g) (BeforeGroup b) = IsTagNumber g × IsSpot b
ArePrintable (Renumber g n) (Number m) = IsTagNumber g × IsNumber n × IsNumber m
ArePrintable (TurnGroup g) Nothing = IsTagNumber g
ArePrintable e m = ⊥

abbrev pub IsPrintable : Line → Type 0
IsPrintable l = IsNumber l.serial × ArePrintable l.edit l.noted

-- an entry, in a journal of either version
abbrev pub ReadsAsPrinted : Type 0
ReadsAsPrinted = (v : Version) (l : Line) → IsPrintable l → journal_line_of (Entries v) (entry_text l) ≡ Ok (EntryLine l)

-- the first line
abbrev pub HeadReadsAsPrinted : Type 0
HeadReadsAsPrinted = (next : ℕ) → IsNumber next → read_head (head_text next) ≡ Ok (record { version = Two; next = next })

-- a serial of the stack, the first and each further one
abbrev pub UndoneReadsAsPrinted : Type 0
UndoneReadsAsPrinted = (s : ℕ) → IsNumber s → (journal_line_of (Entries Two) (undone_text s) ≡ Ok (UndoneLine s)) × (journal_line_of Undone (undone_text s) ≡ Ok (UndoneLine s))

-- no line feed, 10, is in a text
abbrev pub IsOneLine : Text → Type 0
IsOneLine t = All (λ b. b ≢ 10) t

-- what is printed is one line each
abbrev pub PrintsLines : Type 0
PrintsLines = ((l : Line) → IsPrintable l → IsOneLine (entry_text l)) × ((n : ℕ) → IsNumber n → IsOneLine (head_text n) × IsOneLine (undone_text n))
