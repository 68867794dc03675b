-- What any program does with its words and its three streams.
use Rattle.std.specs.Prelude.{◌≡◌, ◌⊎◌, List, Option, Result, Ok, Err}
use Rattle.std.specs.declared.io.buffered.BufWriter.{BufWriter}
use Rattle.balise_lines.specs.declared.counted.Counted.{Counted}
use Rattle.balise_arguments.specs.declared.fault.ArgsFault.{ArgsFault}
use Rattle.balise_text.specs.Texts.{Text}
use Rattle.balise_program.specs.Exits.{exit_after_arguments}
use Rattle.balise_program.specs.Reporting.{Reports, Shows, StopsWithoutMemory}
use Rattle.balise_program.specs.declared.exit.Exit.{Exit}

-- what words ask for, or why they are refused
abbrev pub Asking : Type 0 → Type 1
Asking Asked = List Text → Result Asked ArgsFault → Type 0

-- how what was asked for is done: by the reader and the writer before and after, and the exit
abbrev pub Doing : Type 0 → Type 0 → Type 0 → Type 0 → Type 1
Doing Asked R W A = Asked → Counted R → Counted R → Counted (BufWriter W A) → Counted (BufWriter W A) → Exit → Type 0

-- What the words ask for was done. Or help was printed, or what is wrong with the words, each on its own stream and nothing on the other, and no input was read.
abbrev pub Does : {Asked R W A E : Type 0} → Doing Asked R W A → Result Asked ArgsFault → Counted R → Counted R → Counted (BufWriter W A) → Counted (BufWriter W A) → Counted E → Counted E → Exit → Type 0
Does works (Ok asked) reader reader' writer writer' errors errors' exit = works asked reader reader' writer writer' exit × (errors' ≡ errors)
Does works (Err e) reader reader' writer writer' errors errors' exit = (exit ≡ exit_after_arguments e) × (reader' ≡ reader) × Shows e writer writer' errors errors'

-- What these words ask for was done.
pub record DoesWords {Asked R W A E : Type 0} (asks : Asking Asked) (works : Doing Asked R W A) (words : List Text) (reader reader' : Counted R) (writer writer' : Counted (BufWriter W A)) (errors errors' : Counted E) (exit : Exit) : Type 0 where
  pub asked : Result Asked ArgsFault
  pub asked_so : asks words asked
  pub does : Does works asked reader reader' writer writer' errors errors' exit

-- That was done, and then the fault that the program ends with was reported.
pub record Starts {Asked R W A E : Type 0} (asks : Asking Asked) (works : Doing Asked R W A) (errors_hold : E → Option Text) (words : List Text) (reader reader' : Counted R) (writer writer' : Counted (BufWriter W A)) (errors errors' : Counted E) (exit : Exit) : Type 0 where
  pub between : Counted E
  pub does : DoesWords asks works words reader reader' writer writer' errors between exit
  pub reports : Reports errors_hold between errors' exit

-- What the words ask for was done; or there was no memory for them, and nothing was read or written.
abbrev pub MayStart : {Asked R W A E : Type 0} → Asking Asked → Doing Asked R W A → (E → Option Text) → List Text → Counted R → Counted R → Counted (BufWriter W A) → Counted (BufWriter W A) → Counted E → Counted E → Exit → Type 0
MayStart asks works errors_hold words reader reader' writer writer' errors errors' exit =
    Starts asks works errors_hold words reader reader' writer writer' errors errors' exit
    ⊎ ((reader' ≡ reader) × (writer' ≡ writer) × StopsWithoutMemory errors_hold errors errors' exit)
