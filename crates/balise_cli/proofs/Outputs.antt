-- There is an output of any lines.
use Rattle.std.proofs.Common.{◌≡◌, ◌⊎◌, inl, inr, ℕ, ◌+◌, List, [], ◌∷◌, ◌++◌, Bool, length, Result, Ok, Err, refl}
use Rattle.balise_rules.specs.declared.refusal.Refusal.{Refusal}
use Rattle.balise_rules.specs.declared.refusal.Refusal.TheVariants.{BadLine}
use Rattle.balise_rules.specs.Plan.{Plan}
use Rattle.balise_rules.specs.Session.{Reply, State}
use Rattle.balise_lines.specs.Lines.{Fits, Line, whole}
use Rattle.balise_lines.proofs.InputsLeft.{fits_or}
use Rattle.balise_cli.specs.declared.asked.Asked.{Asked}
use Rattle.balise_plan.specs.GroupReading.{with_read}
use Rattle.balise_text.specs.Commands.{call_of}
use Rattle.balise_text.specs.Texts.{Text}
use Rattle.balise_cli.specs.Output.{Bad, Between, Commands, Ended, Ending, Header, InGroup, InJournal, IsOutput, IsStep, MayAnswer, Next, On, Over, Phase, TooLong, after_read, answer_line, at_end, closed_as, read_line}
use Rattle.balise_cli.specs.declared.status.Status.{Status}

abbrev IsOver : Next → Type 0
IsOver next = (text : Text) × ((status : Status) × (next ≡ Over text status))

closed_over : (g n : ℕ) (r : Result Plan Refusal) → IsOver (after_read (closed_as g r (λ p. Bad n BadLine)))
closed_over g n (Err r) = (_, (_, refl))
closed_over g n (Ok plan) = (_, (_, refl))

-- the end of the input ends the run
pub ends_over : (asked : Asked) (p : Phase) (n : ℕ) → IsOver (at_end asked p n)
ends_over asked Header n = (_, (_, refl))
ends_over asked (Between plan) n = (_, (_, refl))
ends_over asked (InGroup plan g ys) n = closed_over g n (with_read plan ys)
ends_over asked (InJournal part s) n = (_, (_, refl))
ends_over asked (Commands s refused) n = (_, (_, refl))

abbrev SomeAnswer : Bool → Text → State → Type 0
SomeAnswer scarce line s = (r : Reply) × ((t : State) × MayAnswer scarce line s r t)

some_answer : (scarce : Bool) (line : Text) (s : State) → SomeAnswer scarce line s
some_answer scarce line s = ((answer_line (call_of line) s).0, ((answer_line (call_of line) s).1, inl refl))

abbrev SomeStep : Asked → Bool → Phase → ℕ → Text → Type 0
SomeStep asked scarce p n line = (out : Text) × ((next : Next) × IsStep asked scarce p n line out next)

some_step : (asked : Asked) (scarce : Bool) (p : Phase) (n : ℕ) (line : Text) → SomeStep asked scarce p n line
some_step asked scarce Header n line = ([], (after_read (read_line Header n line), (refl, refl)))
some_step asked scarce (Between plan) n line = ([], (after_read (read_line (Between plan) n line), (refl, refl)))
some_step asked scarce (InGroup plan g ys) n line = ([], (after_read (read_line (InGroup plan g ys) n line), (refl, refl)))
some_step asked scarce (InJournal part s) n line = ([], (after_read (read_line (InJournal part s) n line), (refl, refl)))
some_step asked scarce (Commands s refused) n line = let a = some_answer scarce line s in (_, (_, (a.0, (a.1.0, (a.1.1, refl, refl)))))

abbrev pub SomeOutput : Asked → Bool → Phase → ℕ → ℕ → List Line → Type 0
SomeOutput asked scarce p n place lines = (out : Text) × ((e : Ending) × IsOutput asked scarce p n place lines out e)

-- a line that fits, done so
stepping : (asked : Asked) (scarce : Bool) (p : Phase) (n place : ℕ) (line : Line) (lines : List Line) → Fits place line → (now : Text) (next : Next) → IsStep asked scarce p n line.bytes now next
    → ((q : Phase) → SomeOutput asked scarce q (n + 1) (place + length (whole line)) lines) → SomeOutput asked scarce p n place (line ∷ lines)
stepping asked scarce p n place line lines fits now (On q) is more = let m = more q in (now ++ m.0, (m.1.0, inr (fits, (now, (On q, (m.0, (is, refl, m.1.1)))))))
stepping asked scarce p n place line lines fits now (Over text status) is more = (now ++ text, (Ended status, inr (fits, (now, (Over text status, (text, (is, refl, (refl, refl))))))))

by_line : (asked : Asked) (scarce : Bool) (p : Phase) (n place : ℕ) (line : Line) (lines : List Line) → ((q : Phase) → SomeOutput asked scarce q (n + 1) (place + length (whole line)) lines)
    → Fits place line ⊎ (Fits place line → ⊥) → SomeOutput asked scarce p n place (line ∷ lines)
by_line asked scarce p n place line lines more (inr not) = ([], (TooLong, inl (not, refl, refl)))
by_line asked scarce p n place line lines more (inl fits) = let s = some_step asked scarce p n line.bytes in stepping asked scarce p n place line lines fits s.0 s.1.0 s.1.1 more

pub some_output : (asked : Asked) (scarce : Bool) (p : Phase) (n place : ℕ) (lines : List Line) → SomeOutput asked scarce p n place lines
some_output asked scarce p n place [] = let o = ends_over asked p n in (o.0, (Ended o.1.0, rw o.1.1 (refl, refl)))
some_output asked scarce p n place (line ∷ lines) = by_line asked scarce p n place line lines (λ q. some_output asked scarce q (n + 1) (place + length (whole line)) lines) (fits_or place line)
