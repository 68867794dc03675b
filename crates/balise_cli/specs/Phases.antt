-- The phases as the code has them, and what one line or the end does in each.
use Rattle.std.specs.Prelude.{◌≡◌, ◌⊎◌, ◌<◌, ℕ, Bool, true, false, IsOk, IsTrue, [], ◌++◌, length, Option, Some, None, Result, Ok, Err}
use Rattle.std.specs.Io.KnownBytes.{Appends}
use Rattle.balise_rules.specs.declared.refusal.Refusal.{Refusal}
use Rattle.balise_rules.specs.declared.refusal.Refusal.TheVariants.{JournalMismatch}
use Rattle.balise_rules.specs.Opening.{opened_at}
use Rattle.balise_rules.specs.Plan.{Plan}
use Rattle.balise_rules.specs.Session.{State, opened}
use Rattle.balise_history.specs.Openings.{MayComeNext}
use Rattle.balise_history.specs.Tests.{StrikeMayRunOut}
use Rattle.balise_lines.specs.Writing.{AppendsPart, AppendsSome, IsPartOf}
use Rattle.balise_plan.specs.GroupReading.{most_telegrams, with_read}
use Rattle.balise_cli.specs.declared.asked.Asked.{Asked}
use Rattle.balise_text.specs.JournalLines.{JournalLine, EntryLine, UndoneLine, journal_line_of, line_reads_digits}
use Rattle.balise_text.specs.PlanLines.{plan_line_of}
use Rattle.balise_text.specs.Texts.{Text}
use Rattle.balise_text.specs.declared.head.Head.{Head}
use Rattle.balise_text.specs.declared.section.Section.{Section}
use Rattle.balise_text.specs.declared.section.Section.TheVariants.{Entries}
use Rattle.balise_text.specs.declared.plan_line.PlanLine.{PlanLine}
use Rattle.balise_text.specs.declared.plan_line.PlanLine.TheVariants.{FirstLine, TelegramLine}
use Rattle.balise_cli.specs.Output.{Phase, Header, Between, InGroup, InJournal, Commands, Read, Good, Bad, Next, On, Over, IsStep, journal_begun}
use Rattle.balise_cli.specs.PlanTexts.{end_text}
use Rattle.balise_cli.specs.declared.commands.Commands as code
use Rattle.balise_cli.specs.declared.journal_reader.JournalEnd.{JournalEnd}
use Rattle.balise_cli.specs.declared.journal_reader.JournalEnd.TheVariants as journal
use Rattle.balise_cli.specs.declared.journal_reader.JournalReader.{JournalReader}
use Rattle.balise_cli.specs.declared.journal_reader.JournalStep.{JournalStep}
use Rattle.balise_cli.specs.declared.journal_reader.JournalStep.TheVariants as step
use Rattle.balise_cli.specs.declared.plan_reader.PlanStage.{PlanStage}
use Rattle.balise_cli.specs.declared.plan_reader.PlanStage.TheVariants as stage
use Rattle.balise_cli.specs.declared.plan_reader.PlanEnd.{PlanEnd}
use Rattle.balise_cli.specs.declared.plan_reader.PlanEnd.TheVariants as plan
use Rattle.balise_cli.specs.declared.plan_reader.PlanReader.{PlanReader}
use Rattle.balise_cli.specs.declared.status.Status.{Status}
use Rattle.balise_cli.specs.declared.status.Status.TheVariants.{SomeRefused}

-- The phases.

abbrev pub phase_at : PlanStage → Plan → Phase
phase_at stage.First p = Header
phase_at stage.Between p = Between p
phase_at (stage.InGroup g ys) p = InGroup p g ys

abbrev pub plan_phase : PlanReader → Phase
plan_phase r = phase_at r.stage r.plan

abbrev pub journal_phase : JournalReader → Phase
journal_phase r = InJournal r.section r.opening.state

abbrev pub commands_phase : code.Commands → Phase
commands_phase c = Commands c.session.state c.refused

-- The plan and the journal.

-- in a group, whether the line is a telegram's
abbrev pub is_telegram : PlanLine → Bool
is_telegram FirstLine = true
is_telegram TelegramLine = true
is_telegram _ = false

-- what a line of the plan is read as, where it goes on in this phase with this plan, or ends there
abbrev pub plan_read_as : Phase → Plan → Option PlanEnd → Read
plan_read_as now p None = Good now
plan_read_as now p (Some (plan.Bad n r)) = Bad n r
plan_read_as now p (Some plan.Edits) = Good (Commands (opened p) false)
plan_read_as now p (Some (plan.Journal n head)) = journal_begun p n (Ok head)

abbrev pub plan_read : PlanReader → Option PlanEnd → Read
plan_read r end = plan_read_as (plan_phase r) r.plan end

-- the same of a line of the journal
abbrev pub journal_end : JournalEnd → Read
journal_end (journal.Bad n refusal) = Bad n refusal
journal_end (journal.Edits session) = Good (Commands session.state false)

abbrev pub journal_step : JournalReader → JournalStep → Read
journal_step r step.On = Good (journal_phase r)
journal_step r step.Edits = Good (Commands r.opening.state false)
journal_step r (step.Bad n refusal) = Bad n refusal

-- a journal begins over a plan, or its next serial isn't one that a journal has
abbrev pub Begins : Plan → Head → Result JournalReader Refusal → Type 0
Begins p head (Ok r) = (opened_at p head.next ≡ Some r.opening.state) × (r.section ≡ Entries head.version)
Begins p head (Err r) = (opened_at p head.next ≡ None) × (r ≡ JournalMismatch)

-- Memory may run out at a line of the plan in a group alone: for one of the first eight telegrams, or for the group where it ends there, if it has no fault.
abbrev pub LineMayRunOut : Phase → Bool → Type 0
LineMayRunOut (InGroup p g ys) true = length ys < most_telegrams
LineMayRunOut (InGroup p g ys) false = IsOk (with_read p ys)
LineMayRunOut _ b = ⊥

-- the same where the input ends
abbrev pub EndMayRunOut : Phase → Type 0
EndMayRunOut (InGroup p g ys) = IsOk (with_read p ys)
EndMayRunOut _ = ⊥

-- What one line or the end does.

abbrev pub last_text : Next → Text
last_text (On p) = []
last_text (Over text status) = text

-- one line was done and what it gives was written: the run goes on in a phase, or is over with a status
abbrev pub DidStep : Asked → Phase → ℕ → Text → Option Text → Option Text → Phase → Option Status → Type 0
DidStep asked p n line old new q None = (out : Text) × (IsStep asked true p n line out (On q) × Appends old new out)
DidStep asked p n line old new q (Some status) = (out : Text) × ((text : Text) × (IsStep asked true p n line out (Over text status) × Appends old new (out ++ text)))

-- a beginning of what one line gives was written
abbrev pub DidSome : Asked → Phase → ℕ → Text → Option Text → Option Text → Type 0
DidSome asked p n line old new = (out : Text) × ((next : Next) × (IsStep asked true p n line out next × AppendsSome old new (out ++ last_text next)))

-- the same, and not all of what it gives
abbrev pub DidPart : Asked → Phase → ℕ → Text → Option Text → Option Text → Type 0
DidPart asked p n line old new = (out : Text) × ((next : Next) × (IsStep asked true p n line out next × AppendsPart old new (out ++ last_text next)))

-- Memory may run out for what a line of the journal asks: for an edit that may come next, or for a strike as for the command.
abbrev pub DoingMayRunOut : Result JournalLine Refusal → State → Type 0
DoingMayRunOut (Ok (EntryLine l)) s = MayComeNext s l.serial
DoingMayRunOut (Ok (UndoneLine serial)) s = StrikeMayRunOut serial s.base s.standing
DoingMayRunOut r s = ⊥

-- A line of the journal may run out of memory: it is of the grammar, and has digits to be read, or what it asks may.
abbrev pub MayRunOutAt : Section → State → Text → Type 0
MayRunOutAt section s line = IsTrue (line_reads_digits section line) ⊎ DoingMayRunOut (journal_line_of section line) s

-- What was written of a line that memory ran out in, where it may: in a group or in the journal nothing; of a command that stops the run its answer, and a beginning of the end, not all of it. No other line ends a run so.
abbrev pub WrittenOfLine : Asked → Phase → ℕ → Text → Text → Type 0
WrittenOfLine asked (InGroup p g ys) n line last = LineMayRunOut (InGroup p g ys) (is_telegram (plan_line_of line)) × (last ≡ [])
WrittenOfLine asked (InJournal section s) n line last = MayRunOutAt section s line × (last ≡ [])
WrittenOfLine asked (Commands s refused) n line last =
    (now : Text) × ((text : Text) × ((begun : Text) × (IsStep asked true (Commands s refused) n line now (Over text SomeRefused) × IsPartOf begun text × (last ≡ now ++ begun))))
WrittenOfLine asked _ n line last = ⊥

-- what was written of the input's end, where memory ran out in it: in a group nothing; after the commands a beginning of the end, not all of it
abbrev pub WrittenOfEnd : Asked → Phase → Text → Type 0
WrittenOfEnd asked (InGroup p g ys) last = EndMayRunOut (InGroup p g ys) × (last ≡ [])
WrittenOfEnd asked (Commands s refused) last = IsPartOf last (end_text asked s)
WrittenOfEnd asked _ last = ⊥

-- such a text was written
abbrev pub WroteSuch : (Text → Type 0) → Option Text → Option Text → Type 0
WroteSuch P old new = (last : Text) × (P last × Appends old new last)
