-- The names of the nine edits, as commands and journals have them.
use Rattle.std.specs.Prelude.{if◌then◌else◌, codes, bytes_eq, Option, Some, None}
use Rattle.balise_text.specs.Words.{Word}
use Rattle.balise_text.specs.declared.kind.Kind.{Kind}
use Rattle.balise_text.specs.declared.kind.Kind.TheVariants.{Set, SetHead, Insert, Delete, Move, Add, Drop, Renumber, Turn}

abbrev pub kind_of : Word → Option Kind
kind_of w =
    if bytes_eq w (codes "set") then Some Set
    else if bytes_eq w (codes "seth") then Some SetHead
    else if bytes_eq w (codes "insert") then Some Insert
    else if bytes_eq w (codes "delete") then Some Delete
    else if bytes_eq w (codes "move") then Some Move
    else if bytes_eq w (codes "add") then Some Add
    else if bytes_eq w (codes "drop") then Some Drop
    else if bytes_eq w (codes "renumber") then Some Renumber
    else if bytes_eq w (codes "turn") then Some Turn
    else None
