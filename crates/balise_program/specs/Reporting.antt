-- What a program reports of its end and of its arguments.
use Rattle.std.specs.Prelude.{◌≡◌, ◌⊎◌, ℕ, Bool, true, false, [], Option, Some, None, codes}
use Rattle.balise_rules.specs.declared.refusal.Refusal.{Refusal}
use Rattle.balise_lines.specs.Counts.{one_more}
use Rattle.balise_lines.specs.Writing.{LastFailed, WritesAll, WritesSome}
use Rattle.balise_lines.specs.declared.counted.Counted.{Counted}
use Rattle.balise_arguments.specs.declared.fault.ArgsFault.{ArgsFault}
use Rattle.balise_arguments.specs.declared.fault.ArgsFault.TheVariants.{Help, Memory, Other}
use Rattle.balise_text.specs.Replies.{fault_line}
use Rattle.balise_text.specs.Texts.{Text}
use Rattle.balise_program.specs.Exits.{exit_after_arguments}
use Rattle.balise_program.specs.declared.exit.Exit.{Exit}

-- the count of failed calls after a flush
abbrev pub count_after : Bool → ℕ → ℕ
count_after true n = n
count_after false n = one_more n

-- the line for the fault that a program ends with, or nothing
abbrev pub reported : Option Refusal → Text
reported (Some r) = fault_line r
reported None = []

-- that line was written, or a beginning of it up to a failed call
abbrev pub Reports : {E : Type 0} → (E → Option Text) → Counted E → Counted E → Exit → Type 0
Reports contents old new exit = WritesAll contents old new (reported exit.fault) ⊎ WritesSome LastFailed contents old new (reported exit.fault)

-- help is printed on the one stream alone, and what is wrong with the words on the other
abbrev pub Shows : {W E : Type 0} → ArgsFault → W → W → E → E → Type 0
Shows (Help e) writer writer' errors errors' = errors' ≡ errors
Shows Memory writer writer' errors errors' = (writer' ≡ writer) × (errors' ≡ errors)
Shows (Other e) writer writer' errors errors' = writer' ≡ writer

-- memory ran out before the words were looked at, and that is reported
abbrev pub StopsWithoutMemory : {E : Type 0} → (E → Option Text) → Counted E → Counted E → Exit → Type 0
StopsWithoutMemory errors_hold errors errors' exit = (exit ≡ exit_after_arguments Memory) × Reports errors_hold errors errors' exit

-- a word is no text, and that is reported
abbrev pub StopsAtBadText : {E : Type 0} → (E → Option Text) → Counted E → Counted E → Exit → Type 0
StopsAtBadText errors_hold errors errors' exit =
    (exit ≡ record { code = 64; fault = None })
    × (WritesAll errors_hold errors errors' (codes "error: an argument is not UTF-8\n") ⊎ WritesSome LastFailed errors_hold errors errors' (codes "error: an argument is not UTF-8\n"))
