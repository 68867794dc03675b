-- Laws of what a run prints.
use Rattle.std.specs.Prelude.{◌≡◌, ◌⊎◌, ◌+◌, ◌≤◌, ◌&&◌, ℕ, Bool, true, false, IsFalse, IsTrue, List, [], ◌∷◌, ◌++◌, codes, Ok}
use Rattle.std.specs.List.{list_any}
use Rattle.balise_rules.specs.declared.refusal.Refusal.{Refusal}
use Rattle.balise_rules.specs.declared.refusal.Refusal.TheVariants.{OutOfMemory}
use Rattle.balise_rules.specs.Opening.{most_serial}
use Rattle.balise_rules.specs.Plan.{Plan}
use Rattle.balise_rules.specs.Session.{State, Reply, Refused}
use Rattle.balise_strike_laws.specs.Headline.{Promised}
use Rattle.balise_strike_laws.specs.Redoing.{counted}
use Rattle.balise_lines.specs.Lines.{Line, lines_of}
use Rattle.balise_plan.specs.GroupReading.{with_read}
use Rattle.balise_cli.specs.declared.asked.Asked.{Asked}
use Rattle.balise_text.specs.Commands.{call_of}
use Rattle.balise_text.specs.Replies.{bad_line, is_refused, reply_line}
use Rattle.balise_text.specs.Texts.{Text}
use Rattle.balise_cli.specs.Output.{Phase, Header, Between, InGroup, Commands, Read, Good, Bad, Ending, Ended, IsOutput, MayAnswer, after_read, at_end, read_line, reply_text, reviewed}
use Rattle.balise_cli.specs.PlanTexts.{end_text, journal_text}
use Rattle.balise_cli.specs.Statuses.{status_of}
use Rattle.balise_cli.specs.declared.status.Status.{Status}
use Rattle.balise_cli.specs.declared.status.Status.TheVariants.{BadInput}

-- where memory runs out at no command, an input has one output, and the run one ending
abbrev pub OneOutput : Type 0
OneOutput = (asked : Asked) → (input : Text) → (out : Text) × ((e : Ending) × (IsOutput asked false Header 1 0 (lines_of input) out e × ((other : Text) → (f : Ending) → IsOutput asked false Header 1 0 (lines_of input) other f → (other ≡ out) × (f ≡ e))))

-- it was taken, and then goes on so
abbrev pub GoesOn : Read → (Phase → Type 0) → Type 0
GoesOn (Bad n r) next = ⊥
GoesOn (Good p) next = next p

-- From this phase, where line n comes next, a plan and perhaps a journal are read as this session; and these lines are all that come after them, from the first command on.
abbrev pub Opens : Phase → ℕ → List Line → State → List Line → Type 0
Opens (Commands s refused) n lines t commands = (t ≡ s) × (commands ≡ lines)
Opens p n [] t commands = ⊥
Opens p n (line ∷ lines) t commands = GoesOn (read_line p n line.bytes) (λ q. Opens q (n + 1) lines t commands)

-- Commands have these replies and print this, one after another, and leave this session.
abbrev pub Answered : Asked → Bool → State → List Line → List Reply → Text → State → Type 0
Answered asked scarce s [] [] out t = (out ≡ []) × (t ≡ s)
Answered asked scarce s (line ∷ lines) (r ∷ rs) out t =
    (u : State) × ((more : Text) × (MayAnswer scarce line.bytes s r u × (out ≡ reply_text asked.quiet r (reviewed (call_of line.bytes) r s) ++ more) × Answered asked scarce u lines rs more t))
Answered asked scarce s _ _ out t = ⊥

-- this plan was read; its last group may still be to be ended
abbrev pub HasRead : Phase → Plan → Type 0
HasRead (Between plan) base = plan ≡ base
HasRead (InGroup plan g ys) base = with_read plan ys ≡ Ok base
HasRead p base = ⊥

-- from this phase, where line n comes next, these lines are read as this plan
abbrev pub ReadsPlan : Phase → ℕ → List Line → Plan → Type 0
ReadsPlan p n [] base = HasRead p base
ReadsPlan p n (line ∷ lines) base = GoesOn (read_line p n line.bytes) (λ q. ReadsPlan q (n + 1) lines base)

-- A session's journal is printed, and put after lines that are read as the plan first read. Line by line it is read as
-- that session: its standing edits, its stack and its next serial, if a journal may have this serial. No change is
-- counted. Then the commands begin.
abbrev pub ReadsBack : State → Type 0
ReadsBack s = s.serial ≤ most_serial → (plan : List Line) → ReadsPlan Header 1 plan s.base → (commands : Text)
    → Opens Header 1 (plan ++ lines_of (journal_text s ++ (codes "edits\n" ++ commands))) (counted s 0) (lines_of commands)

-- These are the replies to commands up to the last one; or the run stops at a refusal, and that is the first.
abbrev pub StopsAt : Bool → List Reply → List Line → Type 0
StopsAt stop [] left = left ≡ []
StopsAt stop (r ∷ rs) left = (IsTrue (stop && is_refused r) × (rs ≡ [])) ⊎ (IsFalse (stop && is_refused r) × StopsAt stop rs left)

-- all that is promised of a session over this plan first read; and the text of its journal is read back
abbrev pub KeepsPromises : Plan → State → Type 0
KeepsPromises base s = Promised base s × ReadsBack s

-- Over commands it prints the reply to each, up to the last one or the first refusal where that stops the run, and then the plan that the session holds, and what else is asked for, or facts of the session. All that is promised holds of each state that commands lead to from the one first read: of the one held, and of each on the way.
pub record PrintsHeld (asked : Asked) (scarce : Bool) (opened : State) (commands : List Line) (out : Text) : Type 0 where
  pub done : List Line
  pub left : List Line
  pub cut : commands ≡ done ++ left
  pub replies : List Reply
  pub stops : StopsAt asked.stop replies left
  pub printed : Text
  pub held : State
  pub answered : Answered asked scarce opened done replies printed held
  pub whole : out ≡ printed ++ end_text asked held
  pub promised : (lines : List Line) → (rs : List Reply) → (text : Text) → (s : State) → Answered asked scarce opened lines rs text s → KeepsPromises opened.base s

-- The plan and perhaps a journal are read as a session, and all lines after them are commands; so much is printed of these; and the status says whether one was refused.
pub record PrintsAll (asked : Asked) (scarce : Bool) (p : Phase) (n : ℕ) (lines : List Line) (out : Text) (status : Status) : Type 0 where
  pub opened : State
  pub commands : List Line
  pub opens : Opens p n lines opened commands
  pub prints : PrintsHeld asked scarce opened commands out
  pub ends : status ≡ status_of (list_any is_refused prints.replies)

-- it is refused so; or it was taken, and then goes on so
abbrev pub RefusedOr : Read → ℕ → Refusal → (Phase → Type 0) → Type 0
RefusedOr (Bad n r) k q next = (k ≡ n) × (q ≡ r)
RefusedOr (Good p) k q next = next p

-- From this phase, where line n comes next, a line of the plan or the journal is refused, or the lines end before the
-- commands. The refusal names line k.
abbrev pub Refuses : Asked → Phase → ℕ → List Line → ℕ → Refusal → Type 0
Refuses asked p n [] k r = at_end asked p n ≡ after_read (Bad k r)
Refuses asked p n (line ∷ lines) k r = RefusedOr (read_line p n line.bytes) k r (λ q. Refuses asked q (n + 1) lines k r)

-- the one line for a plan or a journal that is refused, and nothing else
abbrev pub PrintsBad : Asked → Phase → ℕ → List Line → Text → Status → Type 0
PrintsBad asked p n lines out status = (k : ℕ) × ((r : Refusal) × (Refuses asked p n lines k r × (out ≡ bad_line k r) × (status ≡ BadInput)))

-- For this input it prints one line for a plan or a journal that is refused; or replies, and then what the standing edits alone, in order, make of the plan first read, or facts of the session. The status is the one of what it prints.
abbrev pub PrintsStanding : Asked → Bool → Text → Text → Status → Type 0
PrintsStanding asked scarce input out status = PrintsBad asked Header 1 (lines_of input) out status ⊎ PrintsAll asked scarce Header 1 (lines_of input) out status

-- every output of a run that comes to its end is so
abbrev pub PrintsStandingEdits : Type 0
PrintsStandingEdits = (asked : Asked) → (scarce : Bool) → (input out : Text) → (status : Status) → IsOutput asked scarce Header 1 0 (lines_of input) out (Ended status) → PrintsStanding asked scarce input out status

-- where memory runs out at no command, only one output of an input is so, and only with one status
abbrev pub OneStanding : Type 0
OneStanding = (asked : Asked) → (input out other : Text) → (status ends : Status) → PrintsStanding asked false input out status → PrintsStanding asked false input other ends → (other ≡ out) × (ends ≡ status)

-- nowhere does the text have the reply of a command that is out of memory
abbrev pub SaysNoShortage : Text → Type 0
SaysNoShortage out = (before after : Text) → out ≡ before ++ (reply_line (Refused OutOfMemory) ++ after) → ⊥

-- an output that has no such reply is one where memory runs out at no command
abbrev pub ShortageShows : Type 0
ShortageShows = (asked : Asked) → (input out : Text) → (e : Ending) → IsOutput asked true Header 1 0 (lines_of input) out e → SaysNoShortage out → IsOutput asked false Header 1 0 (lines_of input) out e

-- and all that is promised of it is so
abbrev pub PromisedWithout : Type 0
PromisedWithout = (asked : Asked) → (input out : Text) → (status : Status) → PrintsStanding asked true input out status → SaysNoShortage out → PrintsStanding asked false input out status

-- so an input has at most one output without such a reply, and the run one ending
abbrev pub OneWithout : Type 0
OneWithout = (asked : Asked) → (input out other : Text) → (e f : Ending) → IsOutput asked true Header 1 0 (lines_of input) out e → SaysNoShortage out
    → IsOutput asked true Header 1 0 (lines_of input) other f → SaysNoShortage other → (other ≡ out) × (f ≡ e)
