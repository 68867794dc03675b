-- The lines after the first of a journal, as they are read. The digits are looked at where the line is of the grammar.
use Rattle.balise_rules.specs.declared.tagged_edit.TaggedEdit.TheVariants as variants
use Rattle.std.specs.Prelude.{ℕ, ◌&&◌, if◌then◌else◌, is_some, Bool, false, drop, List, codes, bytes_eq, Option, Some, None, Result, Ok, Err, option_map}
use Rattle.balise_rules.specs.declared.refusal.Refusal.{Refusal}
use Rattle.balise_rules.specs.declared.refusal.Refusal.TheVariants.{BadHex, JournalMismatch}
use Rattle.balise_rules.specs.declared.tag.Tag.{Tag}
use Rattle.balise_rules.specs.Variables.{var_named}
use Rattle.balise_rules.specs.Digits.{read_digits}
use Rattle.balise_rules.specs.Journal.{Line, LineEdit, Noted, Nothing, Value, Number, BeforePacket, BeforeGroup}
use Rattle.balise_text.specs.declared.head.Version.TheVariants.{One, Two}
use Rattle.balise_text.specs.declared.kind.Kind.{Kind}
use Rattle.balise_text.specs.declared.kind.Kind.TheVariants.{Set, SetHead, Insert, Delete, Move, Add, Drop, Renumber, Turn}
use Rattle.balise_text.specs.declared.section.Section.{Section}
use Rattle.balise_text.specs.declared.section.Section.TheVariants.{Entries, Undone}
use Rattle.balise_text.specs.Commands.{has_digits}
use Rattle.balise_text.specs.Kinds.{kind_of}
use Rattle.balise_text.specs.DigitWords.{some_word, some_words, telegrams_in}
use Rattle.balise_text.specs.Places.{tag_of, anchor_of, neighbour_of, telegram_path_of, packet_path_of}
use Rattle.balise_text.specs.Words.{Word, words_of, number_of, taken, and_then, no_more, or_bad, read_as}

-- What the words after a serial and a name say, where they are of the grammar.

abbrev pub entry : ℕ → LineEdit → Noted → Line
entry s e m = record { serial = s; edit = e; noted = m }

-- G/T/P VAR K VALUE OLD
abbrev pub set_entry : ℕ → List Word → Option Line
set_entry s ws = and_then (taken packet_path_of ws) (λ p ws. and_then (taken var_named ws) (λ v ws. and_then (taken number_of ws) (λ k ws. and_then (taken number_of ws) (λ n ws. and_then (taken number_of ws) (λ old ws. no_more ws (entry s (variants.SetVar p.0 p.1 p.2 v k n) (Value old)))))))

-- G/T VAR VALUE OLD
abbrev pub set_head_entry : ℕ → List Word → Option Line
set_head_entry s ws = and_then (taken telegram_path_of ws) (λ p ws. and_then (taken var_named ws) (λ v ws. and_then (taken number_of ws) (λ n ws. and_then (taken number_of ws) (λ old ws. no_more ws (entry s (variants.SetHead p.0 p.1 v n) (Value old))))))

-- G/T/P BEFORE
abbrev pub delete_entry : ℕ → List Word → Option Line
delete_entry s ws = and_then (taken packet_path_of ws) (λ p ws. and_then (taken neighbour_of ws) (λ b ws. no_more ws (entry s (variants.DeletePacket p.0 p.1 p.2) (BeforePacket b))))

-- G/T/P AFTER BEFORE
abbrev pub move_entry : ℕ → List Word → Option Line
move_entry s ws = and_then (taken packet_path_of ws) (λ p ws. and_then (taken anchor_of ws) (λ a ws. and_then (taken neighbour_of ws) (λ b ws. no_more ws (entry s (variants.MovePacket p.0 p.1 p.2 a) (BeforePacket b)))))

-- G BEFORE
abbrev pub drop_entry : ℕ → List Word → Option Line
drop_entry s ws = and_then (taken tag_of ws) (λ g ws. and_then (taken neighbour_of ws) (λ b ws. no_more ws (entry s (variants.DropGroup g) (BeforeGroup b))))

-- G NEW OLD
abbrev pub renumber_entry : ℕ → List Word → Option Line
renumber_entry s ws = and_then (taken tag_of ws) (λ g ws. and_then (taken number_of ws) (λ n ws. and_then (taken number_of ws) (λ old ws. no_more ws (entry s (variants.Renumber g n) (Number old)))))

-- G
abbrev pub turn_entry : ℕ → List Word → Option Line
turn_entry s ws = and_then (taken tag_of ws) (λ g ws. no_more ws (entry s (variants.TurnGroup g) Nothing))

-- G/T AFTER HEX: a packet's digits, four bits each
abbrev pub insert_entry : ℕ → List Word → Option (Result Line Refusal)
insert_entry s ws = and_then (taken telegram_path_of ws) (λ p ws. and_then (taken anchor_of ws) (λ a ws. and_then (taken some_word ws) (λ w ws. no_more ws (read_as (λ b. entry s (variants.InsertPacket p.0 p.1 a b) Nothing) (read_digits w)))))

-- bad digits are answered as such; a telegram of another length, or with bits after its last, makes the journal one of another plan
abbrev pub told : Refusal → Refusal
told BadHex = BadHex
told r = JournalMismatch

abbrev pub adding : ℕ → Option Tag → Result (List (List Bool)) Refusal → Result Line Refusal
adding s a (Err r) = Err (told r)
adding s a (Ok bs) = Ok (entry s (variants.AddGroup a bs) Nothing)

-- AFTER HEX ..: a telegram's digits each
abbrev pub add_entry : ℕ → List Word → Option (Result Line Refusal)
add_entry s ws = and_then (taken anchor_of ws) (λ a ws. option_map (λ ds. adding s a (telegrams_in ds)) (some_words ws))

-- Any entry.

abbrev pub entry_words : ℕ → Option Kind → List Word → Option (Result Line Refusal)
entry_words s None ws = None
entry_words s (Some Set) ws = option_map Ok (set_entry s ws)
entry_words s (Some SetHead) ws = option_map Ok (set_head_entry s ws)
entry_words s (Some Insert) ws = insert_entry s ws
entry_words s (Some Delete) ws = option_map Ok (delete_entry s ws)
entry_words s (Some Move) ws = option_map Ok (move_entry s ws)
entry_words s (Some Add) ws = add_entry s ws
entry_words s (Some Drop) ws = option_map Ok (drop_entry s ws)
entry_words s (Some Renumber) ws = option_map Ok (renumber_entry s ws)
entry_words s (Some Turn) ws = option_map Ok (turn_entry s ws)

-- S NAME ..
abbrev pub entry_in : List Word → Option (Result Line Refusal)
entry_in ws = and_then (taken number_of ws) (λ s ws. and_then (taken Some ws) (λ name ws. entry_words s (kind_of name) ws))

-- the entry that a line is, or why it is none
abbrev pub entry_of : Word → Result Line Refusal
entry_of line = or_bad (entry_in (words_of line))

-- whether reading it may run out of memory: it is of the grammar, and after its serial the name is `insert` or `add`
abbrev pub entry_reads_digits : Word → Bool
entry_reads_digits line = is_some (entry_in (words_of line)) && has_digits (drop 1 (words_of line))

-- Any line.

-- an entry, the serial of an edit that was undone, or the end of the journal, where the commands begin
pub data JournalLine : Type 0 where
  EntryLine : Line → JournalLine
  UndoneLine : ℕ → JournalLine
  EditsLine : JournalLine

abbrev pub undone_word : Word → Option Word
undone_word w = if bytes_eq w (codes "undone") then Some w else None

-- undone S
abbrev pub undone_in : List Word → Option ℕ
undone_in ws = and_then (taken undone_word ws) (λ w ws. and_then (taken number_of ws) (λ s ws. no_more ws s))

abbrev pub undone_or : Option ℕ → Option (Result JournalLine Refusal) → Option (Result JournalLine Refusal)
undone_or (Some s) other = Some (Ok (UndoneLine s))
undone_or None other = other

-- Among the entries an entry may come, in a journal of version 2 also the first undone edit; after that only undone edits.
abbrev pub line_in : Section → List Word → Option (Result JournalLine Refusal)
line_in (Entries One) ws = option_map (read_as EntryLine) (entry_in ws)
line_in (Entries Two) ws = undone_or (undone_in ws) (option_map (read_as EntryLine) (entry_in ws))
line_in Undone ws = undone_or (undone_in ws) None

-- what a line after the first is, or why it is none
abbrev pub journal_line_of : Section → Word → Result JournalLine Refusal
journal_line_of section line = if bytes_eq line (codes "edits") then Ok EditsLine else or_bad (line_in section (words_of line))

-- whether reading a line may run out of memory: an entry's, where entries may come
abbrev pub line_reads_digits : Section → Word → Bool
line_reads_digits (Entries version) line = entry_reads_digits line
line_reads_digits Undone line = false
