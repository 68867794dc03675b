-- The lines of commands: which command a line is, or why it is none. The digits are looked at where the line is of the grammar.
use Rattle.std.specs.Prelude.{◌&&◌, if◌then◌else◌, is_some, Bool, true, false, List, [], ◌∷◌, codes, bytes_eq, Option, Some, None, Result, Ok, option_map}
use Rattle.balise_rules.specs.declared.refusal.Refusal.{Refusal}
use Rattle.balise_rules.specs.Variables.{var_named}
use Rattle.balise_rules.specs.Digits.{read_digits}
use Rattle.balise_rules.specs.Addresses.{Command, AskSet, AskSetHead, AskInsert, AskDelete, AskMove, AskAdd, AskDrop, AskRenumber, AskTurn}
use Rattle.balise_rules.specs.Session.{Call, Ask, Undo, Redo, Strike}
use Rattle.balise_text.specs.declared.kind.Kind.{Kind}
use Rattle.balise_text.specs.declared.kind.Kind.TheVariants.{Set, SetHead, Insert, Delete, Move, Add, Drop, Renumber, Turn}
use Rattle.balise_text.specs.Kinds.{kind_of}
use Rattle.balise_text.specs.DigitWords.{some_word, some_words, telegrams_in}
use Rattle.balise_text.specs.Words.{Word, words_of, number_of, id_of, taken, and_then, no_more, or_bad, read_as}

-- What the words after a name ask for, where they are of its grammar.

-- C.N PIG PKT VAR K VALUE
abbrev pub set_words : List Word → Option Command
set_words ws = and_then (taken id_of ws) (λ i ws. and_then (taken number_of ws) (λ pig ws. and_then (taken number_of ws) (λ pkt ws. and_then (taken var_named ws) (λ v ws. and_then (taken number_of ws) (λ k ws. and_then (taken number_of ws) (λ n ws. no_more ws (AskSet i pig pkt v k n)))))))

-- C.N PIG VAR VALUE
abbrev pub set_head_words : List Word → Option Command
set_head_words ws = and_then (taken id_of ws) (λ i ws. and_then (taken number_of ws) (λ pig ws. and_then (taken var_named ws) (λ v ws. and_then (taken number_of ws) (λ n ws. no_more ws (AskSetHead i pig v n)))))

-- C.N PIG PKT
abbrev pub delete_words : List Word → Option Command
delete_words ws = and_then (taken id_of ws) (λ i ws. and_then (taken number_of ws) (λ pig ws. and_then (taken number_of ws) (λ pkt ws. no_more ws (AskDelete i pig pkt))))

-- C.N PIG PKT AT
abbrev pub move_words : List Word → Option Command
move_words ws = and_then (taken id_of ws) (λ i ws. and_then (taken number_of ws) (λ pig ws. and_then (taken number_of ws) (λ pkt ws. and_then (taken number_of ws) (λ at ws. no_more ws (AskMove i pig pkt at)))))

-- C.N
abbrev pub drop_words : List Word → Option Command
drop_words ws = and_then (taken id_of ws) (λ i ws. no_more ws (AskDrop i))

-- C.N M
abbrev pub renumber_words : List Word → Option Command
renumber_words ws = and_then (taken id_of ws) (λ i ws. and_then (taken number_of ws) (λ n ws. no_more ws (AskRenumber i n)))

-- C.N
abbrev pub turn_words : List Word → Option Command
turn_words ws = and_then (taken id_of ws) (λ i ws. no_more ws (AskTurn i))

-- C.N PIG AT HEX: a packet's digits, four bits each
abbrev pub insert_words : List Word → Option (Result Command Refusal)
insert_words ws = and_then (taken id_of ws) (λ i ws. and_then (taken number_of ws) (λ pig ws. and_then (taken number_of ws) (λ at ws. and_then (taken some_word ws) (λ w ws. no_more ws (read_as (AskInsert i pig at) (read_digits w))))))

-- AT HEX ..: a telegram's digits each
abbrev pub add_words : List Word → Option (Result Command Refusal)
add_words ws = and_then (taken number_of ws) (λ at ws. option_map (λ ds. read_as (AskAdd at) (telegrams_in ds)) (some_words ws))

-- S
abbrev pub strike_words : List Word → Option Call
strike_words ws = and_then (taken number_of ws) (λ s ws. no_more ws (Strike s))

-- Any command.

abbrev pub command_words : Option Kind → List Word → Option (Result Command Refusal)
command_words None ws = None
command_words (Some Set) ws = option_map Ok (set_words ws)
command_words (Some SetHead) ws = option_map Ok (set_head_words ws)
command_words (Some Insert) ws = insert_words ws
command_words (Some Delete) ws = option_map Ok (delete_words ws)
command_words (Some Move) ws = option_map Ok (move_words ws)
command_words (Some Add) ws = add_words ws
command_words (Some Drop) ws = option_map Ok (drop_words ws)
command_words (Some Renumber) ws = option_map Ok (renumber_words ws)
command_words (Some Turn) ws = option_map Ok (turn_words ws)

-- the words after a name, by it
abbrev pub named_words : Word → List Word → Option (Result Call Refusal)
named_words name ws =
    if bytes_eq name (codes "undo") then option_map Ok (no_more ws Undo)
    else if bytes_eq name (codes "redo") then option_map Ok (no_more ws Redo)
    else if bytes_eq name (codes "strike") then option_map Ok (strike_words ws)
    else option_map (read_as Ask) (command_words (kind_of name) ws)

abbrev pub call_in : List Word → Option (Result Call Refusal)
call_in ws = and_then (taken Some ws) named_words

-- the command that a line is, or why it is none: a line outside the grammar, or the first fault of its digits
abbrev pub call_of : Word → Result Call Refusal
call_of line = or_bad (call_in (words_of line))

-- whether digits are put into memory: of a packet or of telegrams
abbrev pub is_digits_kind : Option Kind → Bool
is_digits_kind (Some Insert) = true
is_digits_kind (Some Add) = true
is_digits_kind k = false

abbrev pub has_digits : List Word → Bool
has_digits [] = false
has_digits (name ∷ ws) = is_digits_kind (kind_of name)

-- whether reading a line may run out of memory: it is of the grammar, and its name is `insert` or `add`
abbrev pub reads_digits : Word → Bool
reads_digits line = is_some (call_in (words_of line)) && has_digits (words_of line)
