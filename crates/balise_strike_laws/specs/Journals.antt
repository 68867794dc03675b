-- A journal says all that a session keeps but its count.
use Rattle.std.specs.Prelude.{◌≡◌, ◌≤◌, ℕ, Option, Result, Ok}
use Rattle.balise_rules.specs.Session.{State}
use Rattle.balise_rules.specs.Journal.{all_back, lines, undone}
use Rattle.balise_rules.specs.Opening.{most_serial, from_journal}
use Rattle.balise_strike_laws.specs.Striking.{Standing}
use Rattle.balise_strike_laws.specs.InSession.{Between}
use Rattle.balise_strike_laws.specs.Redoing.{Redoable, counted}

-- The session that is read from the journal of another has the same plan, standing edits, stack and next serial; its count is 0.
abbrev pub JournalKept : Type 0
JournalKept = (s : State) → 1 ≤ s.serial → s.serial ≤ most_serial → Redoable s.base s.standing s.stack →
    Standing s.base (all_back s.stack s.standing) → Between 0 s.serial (all_back s.stack s.standing) →
    ◌≡◌ {A = Result State (Option ℕ)} (from_journal s.base s.serial (lines s) (undone s)) (Ok (counted s 0))
