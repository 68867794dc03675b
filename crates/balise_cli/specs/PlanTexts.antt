-- What is printed after the replies: the plan, the journal and the view (this project's text); or facts.
use Rattle.std.specs.Prelude.{ℕ, Bool, true, false, [], ◌++◌, codes, map}
use Rattle.balise_rules.specs.declared.tag.Tag.{Tag}
use Rattle.balise_rules.specs.Digits.{hex_of}
use Rattle.balise_rules.specs.Journal.{Line, lines, undone}
use Rattle.balise_rules.specs.Plan.{Group, Plan}
use Rattle.balise_rules.specs.Session.{State, held}
use Rattle.balise_rules.specs.Telegram.{Telegram, shown}
use Rattle.balise_text.specs.Texts.{Text, text_of}
use Rattle.balise_text.specs.Entries.{entry_text, head_text, undone_text}
use Rattle.balise_facts.specs.FactTexts.{facts_text}
use Rattle.balise_view.specs.View as view
use Rattle.balise_cli.specs.declared.asked.Asked.{Asked}
use Rattle.balise_cli.specs.declared.asked.Closing.{Closing}
use Rattle.balise_cli.specs.declared.asked.Closing.TheVariants as closing

-- a text and its line's end
abbrev pub with_end : Text → Text
with_end t = t ++ codes "\n"

abbrev pub telegram_line : ℕ × Telegram → Text
telegram_line y = with_end (hex_of (shown y.1))

abbrev pub group_lines : Tag × Group → Text
group_lines g = codes "group\n" ++ text_of (map telegram_line g.1)

-- the plan, a line for each telegram
abbrev pub plan_text : Plan → Text
plan_text plan = codes "plan 1\n" ++ text_of (map group_lines plan)

-- an entry's line, and that of a serial of the stack
abbrev pub entry_line : Line → Text
entry_line l = with_end (entry_text l)

abbrev pub undone_line : ℕ → Text
undone_line n = with_end (undone_text n)

-- the journal: its first line, the entries that would stand if all that was undone were done again, and the serials of that
abbrev pub journal_text : State → Text
journal_text s =
    with_end (head_text s.serial)
    ++ (text_of (map entry_line (lines s))
    ++ text_of (map undone_line (undone s)))

-- a line of JSON for each group
abbrev pub view_text : Plan → Text
view_text plan = text_of (map (λ (g : Tag × Group). with_end (view.group_text g.1)) plan)

-- a text that was asked for, or none
abbrev pub if_asked : Bool → Text → Text
if_asked true t = t
if_asked false t = []

-- the plan, and the journal and the view where they are asked for; or the facts
abbrev pub closing_text : Closing → State → Text
closing_text (closing.Plan journal json) s = plan_text (held s) ++ (if_asked journal (journal_text s) ++ if_asked json (view_text (held s)))
closing_text (closing.Facts facts) s = facts_text facts s

-- what the end of the commands prints
abbrev pub end_text : Asked → State → Text
end_text asked s = closing_text asked.closing s
