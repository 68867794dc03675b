-- The first line of a journal as it is read: its version, and the next serial.
use Rattle.std.specs.Prelude.{if◌then◌else◌, List, codes, bytes_eq, ok_or, Option, Some, None, Result}
use Rattle.balise_rules.specs.declared.refusal.Refusal.{Refusal}
use Rattle.balise_rules.specs.declared.refusal.Refusal.TheVariants.{BadLine}
use Rattle.balise_text.specs.declared.head.Version.{Version}
use Rattle.balise_text.specs.declared.head.Version.TheVariants.{One, Two}
use Rattle.balise_text.specs.declared.head.Head.{Head}
use Rattle.balise_text.specs.Words.{Word, words_of, number_of, taken, and_then, no_more}

-- the word `journal`
abbrev pub journal_of : Word → Option Word
journal_of w = if bytes_eq w (codes "journal") then Some w else None

abbrev pub version_of : Word → Option Version
version_of w = if bytes_eq w (codes "1") then Some One else if bytes_eq w (codes "2") then Some Two else None

-- journal VERSION NEXT
abbrev pub head_in : List Word → Option Head
head_in ws = and_then (taken journal_of ws) (λ w ws. and_then (taken version_of ws) (λ v ws. and_then (taken number_of ws) (λ next ws. no_more ws (record { version = v; next = next }))))

-- whether a next serial is one that a session has isn't asked here
abbrev pub read_head : Word → Result Head Refusal
read_head line = ok_or (head_in (words_of line)) BadLine
