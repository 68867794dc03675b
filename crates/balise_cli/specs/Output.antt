-- What a run prints for the lines of its input, and how it ends.
use Rattle.std.specs.Prelude.{◌≡◌, ◌⊎◌, ◌||◌, ◌&&◌, ◌+◌, ◌<◌, ℕ, not, cond, Bool, true, false, IsTrue, List, [], ◌∷◌, ◌++◌, length, map, Option, Some, None, Result, Ok, Err}
use Rattle.balise_rules.specs.declared.refusal.Refusal.{Refusal}
use Rattle.balise_rules.specs.declared.refusal.Refusal.TheVariants.{BadLine, JournalMismatch, OutOfMemory}
use Rattle.balise_rules.specs.declared.review.ReviewLine.{ReviewLine}
use Rattle.balise_rules.specs.declared.tag.Tag.{Tag}
use Rattle.balise_rules.specs.Addresses.{AskTurn}
use Rattle.balise_rules.specs.Opening.{opened_at, with_entry, with_undone}
use Rattle.balise_rules.specs.Plan.{Group, Plan, group_named}
use Rattle.balise_rules.specs.Review.{review}
use Rattle.balise_rules.specs.Session.{State, Call, Ask, Strike, Reply, Done, Refused, answer, opened, held, most_commands, takes_memory}
use Rattle.balise_lines.specs.Lines.{Line, Fits, whole}
use Rattle.balise_plan.specs.GroupReading.{with_read}
use Rattle.balise_history.specs.Tests.{StrikeMayRunOut}
use Rattle.balise_cli.specs.declared.asked.Asked.{Asked}
use Rattle.balise_text.specs.Commands.{call_of, reads_digits}
use Rattle.balise_text.specs.Heads.{read_head}
use Rattle.balise_text.specs.JournalLines.{JournalLine, EntryLine, UndoneLine, EditsLine as EndLine, journal_line_of}
use Rattle.balise_text.specs.PlanLines.{plan_line_of}
use Rattle.balise_text.specs.Replies.{bad_line, is_refused, reply_line}
use Rattle.balise_text.specs.Reviews.{review_line}
use Rattle.balise_text.specs.Texts.{Text, text_of}
use Rattle.balise_text.specs.declared.head.Head.{Head}
use Rattle.balise_text.specs.declared.section.Section.{Section}
use Rattle.balise_text.specs.declared.section.Section.TheVariants.{Entries, Undone}
use Rattle.balise_text.specs.declared.plan_line.PlanLine.{PlanLine}
use Rattle.balise_text.specs.declared.plan_line.PlanLine.TheVariants.{FirstLine, GroupLine, EditsLine, JournalLine as HeadLine, TelegramLine}
use Rattle.balise_cli.specs.PlanTexts.{end_text}
use Rattle.balise_cli.specs.PlanRead.{with_line}
use Rattle.balise_cli.specs.Statuses.{status_of}
use Rattle.balise_cli.specs.declared.status.Status.{Status}
use Rattle.balise_cli.specs.declared.status.Status.TheVariants.{BadInput, SomeRefused}

-- Where a run stands between two lines: before the plan's first line; between groups; in a group, whose own line has this number, with the telegrams read so far; in the journal, with what may come there and the session so far; at the commands, with whether one was refused.
pub data Phase : Type 0 where
  Header : Phase
  Between : Plan → Phase
  InGroup : Plan → ℕ → Group → Phase
  InJournal : Section → State → Phase
  Commands : State → Bool → Phase

-- The lines of the plan and of the journal.

-- a line taken, or refused as line n
pub data Read : Type 0 where
  Good : Phase → Read
  Bad : ℕ → Refusal → Read

-- a step of the journal that fits the plan, or not
abbrev pub if_fits : ℕ → Section → Option State → Read
if_fits n section None = Bad n JournalMismatch
if_fits n section (Some s) = Good (InJournal section s)

-- the journal's first line
abbrev pub journal_begun : Plan → ℕ → Result Head Refusal → Read
journal_begun plan n (Err r) = Bad n r
journal_begun plan n (Ok h) = if_fits n (Entries h.version) (opened_at plan h.next)

-- a further line of it
abbrev pub in_journal : Section → State → ℕ → Result JournalLine Refusal → Read
in_journal section s n (Err r) = Bad n r
in_journal section s n (Ok (EntryLine l)) = if_fits n section (with_entry s l)
in_journal section s n (Ok (UndoneLine serial)) = if_fits n Undone (with_undone s serial)
in_journal section s n (Ok EndLine) = Good (Commands s false)

abbrev pub between : Plan → ℕ → PlanLine → Text → Read
between plan n GroupLine line = Good (InGroup plan n [])
between plan n EditsLine line = Good (Commands (opened plan) false)
between plan n HeadLine line = journal_begun plan n (read_head line)
between plan n k line = Bad n BadLine

abbrev pub closed_as : ℕ → Result Plan Refusal → (Plan → Read) → Read
closed_as g (Err r) next = Bad g r
closed_as g (Ok plan) next = next plan

-- the group ends, and is refused with its own line's number, or what follows is looked at
abbrev pub closed : Plan → ℕ → Group → (Plan → Read) → Read
closed plan g ys next = closed_as g (with_read plan ys) next

-- one more telegram, or why the line isn't one
abbrev pub one_more : Plan → ℕ → ℕ → Result Group Refusal → Read
one_more plan g n (Err r) = Bad n r
one_more plan g n (Ok ys) = Good (InGroup plan g ys)

abbrev pub telegram : Plan → ℕ → Group → ℕ → Text → Read
telegram plan g ys n line = one_more plan g n (with_line ys line)

-- in a group, a line that is none of the others is a telegram's
abbrev pub in_group : Plan → ℕ → Group → ℕ → PlanLine → Text → Read
in_group plan g ys n FirstLine line = telegram plan g ys n line
in_group plan g ys n TelegramLine line = telegram plan g ys n line
in_group plan g ys n k line = closed plan g ys (λ p. between p n k line)

abbrev pub first_line : ℕ → PlanLine → Read
first_line n FirstLine = Good (Between [])
first_line n k = Bad n BadLine

-- line n of the plan or of the journal
abbrev pub read_line : Phase → ℕ → Text → Read
read_line Header n line = first_line n (plan_line_of line)
read_line (Between plan) n line = between plan n (plan_line_of line) line
read_line (InGroup plan g ys) n line = in_group plan g ys n (plan_line_of line) line
read_line (InJournal section s) n line = in_journal section s n (journal_line_of section line)
read_line (Commands s refused) n line = Good (Commands s refused)

-- The commands.

-- what the line of a command is answered and leaves, where memory serves
abbrev pub answer_line : Result Call Refusal → State → Reply × State
answer_line (Err r) s = (Refused r, s)
answer_line (Ok c) s = answer c s

-- A command takes memory to be done. A strike does only where the edit is one that stands, and before a later edit that depends on it is met.
abbrev pub TakesMemory : Result Call Refusal → State → Type 0
TakesMemory (Err r) s = ⊥
TakesMemory (Ok (Strike serial)) s = IsTrue (takes_memory (Strike serial) s) × StrikeMayRunOut serial s.base s.standing
TakesMemory (Ok c) s = IsTrue (takes_memory c s)

-- The line of a command may run out of memory, as it is read or done. At the limit of a session none does.
abbrev pub MayRunOut : Text → State → Type 0
MayRunOut line s = (s.count < most_commands) × (IsTrue (reads_digits line) ⊎ TakesMemory (call_of line) s)

-- A command has its reply; where memory is scarce, one that may run out of it may be refused so and leave the state as it was.
abbrev pub MayAnswer : Bool → Text → State → Reply → State → Type 0
MayAnswer scarce line s r s' =
    (◌≡◌ {A = Reply × State} (r, s') (answer_line (call_of line) s))
    ⊎ ((scarce ≡ true) × MayRunOut line s × (r ≡ Refused OutOfMemory) × (s' ≡ s))

-- the review of a turn of the group of an identity, on the plan before it
abbrev pub group_review : Option (Tag × Group) → Plan → List ReviewLine
group_review None plan = []
group_review (Some g) plan = review g.0 plan

-- the review lines after a command that was done: none but after a turn
abbrev pub reviewed : Result Call Refusal → Reply → State → List ReviewLine
reviewed (Ok (Ask (AskTurn i))) (Done serial) s = group_review (group_named i (held s)) (held s)
reviewed c r s = []

-- the line of a reply, unless it is left out: the replies to accepted commands are where the run is quiet
abbrev pub shown_reply : Bool → Reply → Text
shown_reply quiet r = cond (quiet && not (is_refused r)) [] (reply_line r)

abbrev pub reply_text : Bool → Reply → List ReviewLine → Text
reply_text quiet r ls = shown_reply quiet r ++ text_of (map review_line ls)

-- The run.

-- it goes on, or is over after a last text
pub data Next : Type 0 where
  On : Phase → Next
  Over : Text → Status → Next

abbrev pub after_read : Read → Next
after_read (Good p) = On p
after_read (Bad n r) = Over (bad_line n r) BadInput

-- a run that stops is over after the first refusal
abbrev pub after_command : Asked → Reply → State → Bool → Next
after_command asked r s refused = cond (asked.stop && is_refused r) (Over (end_text asked s) SomeRefused) (On (Commands s (refused || is_refused r)))

-- line n may print this, and the run may go on so
abbrev pub IsStep : Asked → Bool → Phase → ℕ → Text → Text → Next → Type 0
IsStep asked scarce (Commands s refused) n line out next =
    (r : Reply) × ((s' : State) × (MayAnswer scarce line s r s' × (out ≡ reply_text asked.quiet r (reviewed (call_of line) r s)) × (next ≡ after_command asked r s' refused)))
IsStep asked scarce p n line out next = (out ≡ []) × (next ≡ after_read (read_line p n line))

-- what the end of the input prints, where line n would come
abbrev pub at_end : Asked → Phase → ℕ → Next
at_end asked (Commands s refused) n = Over (end_text asked s) (status_of refused)
at_end asked (InGroup plan g ys) n = after_read (closed plan g ys (λ p. Bad n BadLine))
at_end asked p n = after_read (Bad n BadLine)

-- how a run ends: with a status, or at a line that is too long
pub data Ending : Type 0 where
  Ended : Status → Ending
  TooLong : Ending

abbrev pub Follows : (Phase → Text → Type 0) → Next → Text → Ending → Type 0
Follows goes_on (On p) out e = goes_on p out
Follows goes_on (Over text status) out e = (out ≡ text) × (e ≡ Ended status)

-- From this phase, where line n comes next and begins at this place of the input, these lines may print this and end so.
abbrev pub IsOutput : Asked → Bool → Phase → ℕ → ℕ → List Line → Text → Ending → Type 0
IsOutput asked scarce p n place [] out e = Follows (λ _ _. ⊥) (at_end asked p n) out e
IsOutput asked scarce p n place (line ∷ lines) out e =
    ((Fits place line → ⊥) × (out ≡ []) × (e ≡ TooLong))
    ⊎ (Fits place line × ((now : Text) × ((next : Next) × ((more : Text) × (IsStep asked scarce p n line.bytes now next × (out ≡ now ++ more)
    × Follows (λ q rest. IsOutput asked scarce q (n + 1) (place + length (whole line)) lines rest e) next more e)))))
