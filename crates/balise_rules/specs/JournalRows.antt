-- Worked rows of journals: what a session says, and the session of what is said.
use Rattle.balise_rules.specs.declared.tagged_edit.TaggedEdit.TheVariants.{SetVar, InsertPacket, DeletePacket}
use Rattle.std.specs.Prelude.{◌≡◌, ℕ, List, [], ◌∷◌, codes, Option, Some, None, Result, Ok, Err, option_map}
use Rattle.balise_rules.specs.declared.variable.Var.TheVariants.{NidTsr}
use Rattle.balise_rules.specs.declared.refusal.Refusal.{Refusal}
use Rattle.balise_rules.specs.declared.tag.Tag.{Tag}
use Rattle.balise_rules.specs.declared.tag.Tag.TheVariants.{Base, Fresh}
use Rattle.balise_rules.specs.Refusals.{and_then}
use Rattle.balise_rules.specs.Session.{State, Call, Reply, opened, held, answer_all, Undo, Redo, Strike, Undone, Redone}
use Rattle.balise_rules.specs.Journal.{Line, Nothing, Value, BeforePacket, lines, undone}
use Rattle.balise_rules.specs.Opening.{with_entry, from_journal}
use Rattle.balise_rules.specs.Examples.{Text, plan_of, lines_of, word, alone, empty, revoking}
use Rattle.balise_rules.specs.Rows.{insert, delete, set_tsr, revoking_9}
use Rattle.balise_rules.specs.StrikeRows.{two_packets}

-- a journal: the next serial, the lines of edits and the serials of the stack
abbrev pub Journal : Type 0
Journal = ℕ × List Line × List ℕ

abbrev pub journal_of : State → Journal
journal_of s = (s.serial, lines s, undone s)

abbrev pub journal_after : List (List Text) → List Call → Result Journal Refusal
journal_after groups calls = and_then (plan_of groups) (λ plan. Ok (journal_of (answer_all calls (opened plan)).1))

-- the journal after commands
abbrev pub Says : List (List Text) → List Call → Journal → Type 0
Says groups calls journal = ◌≡◌ {A = Result Journal Refusal} (journal_after groups calls) (Ok journal)

-- replies, the plan's lines and the journal after commands
abbrev pub Outcome : Type 0
Outcome = List Reply × List (List Text) × Journal

abbrev pub outcome_of : List Reply × State → Outcome
outcome_of r = (r.0, lines_of (held r.1), journal_of r.1)

abbrev pub after_calls : List Call → Result State (Option ℕ) → Result Outcome (Option ℕ)
after_calls calls (Err at) = Err at
after_calls calls (Ok s) = Ok (outcome_of (answer_all calls s))

abbrev pub continued : List (List Text) → Journal → List Call → Result (Result Outcome (Option ℕ)) Refusal
continued groups j calls = and_then (plan_of groups) (λ plan. Ok (after_calls calls (from_journal plan j.0 j.1 j.2)))

-- what commands give over the session of a journal
abbrev pub Continues : List (List Text) → Journal → List Call → Outcome → Type 0
Continues groups j calls o = ◌≡◌ {A = Result (Result Outcome (Option ℕ)) Refusal} (continued groups j calls) (Ok (Ok o))

-- a journal that doesn't fit, and where
abbrev pub Misfits : List (List Text) → Journal → Option ℕ → Type 0
Misfits groups j at = ◌≡◌ {A = Result (Result Outcome (Option ℕ)) Refusal} (continued groups j []) (Ok (Err at))

-- NID_TSR set to 9 by this serial, noting this
abbrev pub setting : ℕ → ℕ → Line
setting serial old = record { serial = serial; edit = SetVar (Base 0) 0 (Base 0) NidTsr 0 9; noted = Value old }

abbrev pub set_line : Line
set_line = setting 1 5

-- A setting that stands, and one that was undone; done again over the journal.
abbrev pub SetSaid : Type 0
SetSaid =
    Says (alone revoking) (set_tsr ∷ []) (2, set_line ∷ [], [])
    × Says (alone revoking) (set_tsr ∷ Undo ∷ []) (2, set_line ∷ [], 1 ∷ [])
    × Continues (alone revoking) (2, set_line ∷ [], 1 ∷ []) (Redo ∷ []) (Redone 1 ∷ [], alone revoking_9, (2, set_line ∷ [], []))
    × Continues (alone revoking) (2, set_line ∷ [], []) (Undo ∷ []) (Undone 1 ∷ [], alone revoking, (2, set_line ∷ [], 1 ∷ []))

-- these digits inserted after an anchor
abbrev pub inserting : ℕ → Option Tag → Text → Line
inserting serial a digits = record { serial = serial; edit = InsertPacket (Base 0) 0 a (word digits); noted = Nothing }

abbrev pub first_inserted : Line
first_inserted = inserting 1 None (codes "42403e0a")

abbrev pub inserted : List Line
inserted = first_inserted ∷ inserting 2 (Some (Fresh 1)) (codes "42403e0c") ∷ []

-- An insertion struck under another: the journal has the anchors that they would have if it were done again.
abbrev pub StruckSaid : Type 0
StruckSaid =
    Says (alone empty) (insert 0 (codes "42403e0a") ∷ insert 1 (codes "42403e0c") ∷ Strike 1 ∷ []) (3, inserted, 1 ∷ [])
    × Continues (alone empty) (3, inserted, 1 ∷ []) (Redo ∷ []) (Redone 1 ∷ [], alone two_packets, (3, inserted, []))

-- the session of some lines and a stack, with one entry more
abbrev pub and_entry : Result State (Option ℕ) → Line → Option Journal
and_entry (Err at) l = None
and_entry (Ok s) l = option_map journal_of (with_entry s l)

abbrev pub entry_after : List (List Text) → Journal → Line → Result (Option Journal) Refusal
entry_after groups j l = and_then (plan_of groups) (λ plan. Ok (and_entry (from_journal plan j.0 j.1 j.2) l))

-- An entry follows entries, and none that was struck.
abbrev pub EntryFollows : Type 0
EntryFollows =
    (entry_after (alone empty) (3, first_inserted ∷ [], []) (inserting 2 (Some (Fresh 1)) (codes "42403e0c")) ≡ Ok (Some (3, inserted, [])))
    × (entry_after (alone empty) (3, first_inserted ∷ [], 1 ∷ []) (inserting 2 None (codes "42403e0c")) ≡ Ok None)

-- A next serial that is none, and the largest one.
abbrev pub NextRefused : Type 0
NextRefused =
    Misfits (alone revoking) (0, [], []) None
    × Misfits (alone revoking) (4000000001, [], []) None
    × Continues (alone revoking) (4000000000, set_line ∷ [], []) (Undo ∷ []) (Undone 1 ∷ [], alone revoking, (4000000000, set_line ∷ [], 1 ∷ []))

-- Serials that don't rise from at least 1, or aren't below the next one; gaps may be among them.
abbrev pub SerialsRefused : Type 0
SerialsRefused =
    Misfits (alone revoking) (1, set_line ∷ [], []) (Some 0)
    × Misfits (alone revoking) (3, setting 0 5 ∷ [], []) (Some 0)
    × Misfits (alone revoking) (3, set_line ∷ setting 1 9 ∷ [], []) (Some 1)
    × Misfits (alone revoking) (3, setting 2 5 ∷ setting 1 9 ∷ [], []) (Some 1)
    × Continues (alone revoking) (9, setting 2 5 ∷ setting 7 9 ∷ [], []) (Undo ∷ []) (Undone 7 ∷ [], alone revoking_9, (9, setting 2 5 ∷ setting 7 9 ∷ [], 7 ∷ []))

-- the first packet deleted by this serial, noting this neighbour
abbrev pub deleting : ℕ → Option Tag → Line
deleting serial b = record { serial = serial; edit = DeletePacket (Base 0) 0 (Base 0); noted = BeforePacket b }

-- An old value or a neighbour that isn't so, a note of another kind, digits that are no packet for the telegram, a packet that doesn't stand.
abbrev pub NotesRefused : Type 0
NotesRefused =
    Misfits (alone revoking) (2, setting 1 4 ∷ [], []) (Some 0)
    × Misfits (alone revoking) (2, record set_line { noted = Nothing } ∷ [], []) (Some 0)
    × Misfits (alone two_packets) (2, deleting 1 None ∷ [], []) (Some 0)
    × Says (alone two_packets) (delete 0 ∷ []) (2, deleting 1 (Some (Base 1)) ∷ [], [])
    × Misfits (alone empty) (2, inserting 1 None (codes "4240400a") ∷ [], []) (Some 0)
    × Misfits (alone empty) (2, inserting 1 None [] ∷ [], []) (Some 0)
    × Misfits (alone empty) (2, set_line ∷ [], []) (Some 0)

-- An edit to be struck that doesn't stand, or that a later one depends on.
abbrev pub StackRefused : Type 0
StackRefused =
    Misfits (alone revoking) (2, set_line ∷ [], 7 ∷ []) (Some 1)
    × Misfits (alone revoking) (2, set_line ∷ [], 0 ∷ []) (Some 1)
    × Misfits (alone revoking) (2, set_line ∷ [], 1 ∷ 1 ∷ []) (Some 2)
    × Misfits (alone revoking) (3, set_line ∷ setting 2 9 ∷ [], 1 ∷ []) (Some 2)
    × Continues (alone revoking) (3, set_line ∷ setting 2 9 ∷ [], 2 ∷ 1 ∷ []) (Redo ∷ []) (Redone 1 ∷ [], alone revoking_9, (3, set_line ∷ setting 2 9 ∷ [], 2 ∷ []))
