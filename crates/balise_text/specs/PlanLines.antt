-- What a line of the plan is, by its words.
use Rattle.std.specs.Prelude.{[], take, codes, if◌then◌else◌, bytes_eq}
use Rattle.balise_text.specs.Texts.{Text}
use Rattle.balise_text.specs.declared.plan_line.PlanLine.{PlanLine}
use Rattle.balise_text.specs.declared.plan_line.PlanLine.TheVariants.{FirstLine, GroupLine, EditsLine, JournalLine, Empty, TelegramLine}

-- in a group, each line that is none of the others is a telegram's
abbrev pub plan_line_of : Text → PlanLine
plan_line_of line =
    if bytes_eq line (codes "plan 1") then FirstLine
    else if bytes_eq line (codes "group") then GroupLine
    else if bytes_eq line (codes "edits") then EditsLine
    else if bytes_eq (take 8 line) (codes "journal ") then JournalLine
    else if bytes_eq line [] then Empty
    else TelegramLine
