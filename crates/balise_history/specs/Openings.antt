-- What reading a journal answers.
use Rattle.std.specs.Prelude.{◌≡◌, ◌⊎◌, ◌+◌, ◌<◌, ◌≤◌, ◌^◌, ◌&&◌, ℕ, nat_lt, Bool, IsTrue, List, ◌∷◌, length, map, drop, take, Option, Some, None, is_none, Result, Ok, Err}
use Rattle.balise_rules.specs.declared.refusal.Refusal.{Refusal}
use Rattle.balise_rules.specs.declared.refusal.Refusal.TheVariants.{JournalMismatch, OutOfMemory}
use Rattle.balise_rules.specs.Journal.{Line, Noted}
use Rattle.balise_rules.specs.Plan as rules
use Rattle.balise_rules.specs.Opening.{from_entries, last_serial, with_entry, with_undone}
use Rattle.balise_rules.specs.Session.{State, top}
use Rattle.balise_history.specs.declared.journal_fault.JournalFault.{JournalFault}
use Rattle.balise_history.specs.Held.{Edited, state_at, seen, IsHeld}
use Rattle.balise_history.specs.Lists.{History, items_of, removed_of}
use Rattle.balise_plan.specs.Held.{Plan}
use Rattle.balise_history.specs.Sessions.{Seen}

-- the journal doesn't fit, or memory is wanted
abbrev pub Mismatches : {A : Type 0} → Refusal → Option A → Type 0
Mismatches {A} r o = (r ≡ OutOfMemory) ⊎ ((r ≡ JournalMismatch) × (◌≡◌ {A = Option A} o None))

-- the edit of a serial may come next: nothing was undone or struck, and it is above the last one and below the next
abbrev pub comes_next : History → ℕ → ℕ → Bool
comes_next h next serial = is_none (top (map removed_of h.stack)) && (nat_lt (last_serial (items_of h.standing)) serial && nat_lt serial next)

-- the same of a plan and the entries that made it
abbrev pub EntersOneIn : Line → ℕ → Plan → History → Plan → History → Type 0
EntersOneIn l next p h q k =
    IsHeld q.groups k.standing k.stack next
    × (◌≡◌ {A = Option State} (with_entry (state_at 0 (seen p.groups h.standing h.stack next p.changes)) l) (Some (state_at 0 (seen q.groups k.standing k.stack next q.changes))))
    × (q.changes ≡ p.changes + 1)

-- a refused line leaves all as it was; or it doesn't fit, since its edit was done and noted something else than the line says
abbrev pub EntersIn : {A : Type 0} → Line → ℕ → Plan → History → Result A Refusal → Plan → History → Type 0
EntersIn l next p h (Ok u) q k = EntersOneIn l next p h q k
EntersIn l next p h (Err r) q k =
    Mismatches r (with_entry (state_at 0 (seen p.groups h.standing h.stack next p.changes)) l)
    × (((q ≡ p) × (k.standing ≡ h.standing) × (k.stack ≡ h.stack)) ⊎ ((r ≡ JournalMismatch) × ((n : Noted) × EntersOneIn (record l { noted = n }) next p h q k)))

-- a line's edit is done after those that stand, by one change
abbrev pub EntersOne : Line → Edited → Edited → Type 0
EntersOne l s t = (◌≡◌ {A = Option State} (with_entry (state_at 0 s) l) (Some (state_at 0 t))) × (t.changes ≡ s.changes + 1) × (length t.standing + length t.stack < t.serial)

abbrev pub Enters : {A : Type 0} → Line → Edited → Result A Refusal → Edited → Type 0
Enters l s (Ok u) t = EntersOne l s t
Enters l s (Err r) t = Mismatches r (with_entry (state_at 0 s) l) × ((t ≡ s) ⊎ ((r ≡ JournalMismatch) × ((n : Noted) × EntersOne (record l { noted = n }) s t)))

-- an edit of this serial may come next in the session of a journal: nothing was struck, and it is above the last one and below the next
abbrev pub MayComeNext : State → ℕ → Type 0
MayComeNext s serial = IsTrue (is_none (top s.stack) && (nat_lt (last_serial s.standing) serial && nat_lt serial s.serial))

-- what a session that is read from a journal stays within
pub record IsOpening (e : Edited) : Type 0 where
  pub serials : e.serial ≤ 4000000000
  pub few : length e.standing + length e.stack < e.serial
  pub changes : e.changes ≤ 2 ^ 62 + 4000000000 + length e.stack
  pub entered : length e.stack ≡ 0 → e.changes ≤ 2 ^ 62 + length e.standing

-- one more line was read, and is one more change
abbrev pub FitsOne : Option State → Seen → Seen → Type 0
FitsOne o s t = (◌≡◌ {A = Option State} o (Some t.state)) × (t.changes ≡ s.changes + 1)

-- the line fits, and is one more change; or it doesn't, or memory ran out
abbrev pub ReadsEntry : Line → Seen → Result Seen Refusal → Type 0
ReadsEntry l s (Ok t) = FitsOne (with_entry s.state l) s t
ReadsEntry l s (Err r) = Mismatches r (with_entry s.state l)

-- the same of the serial of an edit that is struck
abbrev pub ReadsUndone : ℕ → Seen → Result Seen Refusal → Type 0
ReadsUndone serial s (Ok t) = FitsOne (with_undone s.state serial) s t
ReadsUndone serial s (Err r) = Mismatches r (with_undone s.state serial)

-- a session is changed by a line: it fits, and is one more change; or it is refused and leaves all as it was, or its edit is done and noted something else than the line says
abbrev pub EntersSeen : Line → Seen → Result (Unit {0}) Refusal → Seen → Type 0
EntersSeen l s (Ok u) t = FitsOne (with_entry s.state l) s t
EntersSeen l s (Err r) t = Mismatches r (with_entry s.state l) × ((t ≡ s) ⊎ ((r ≡ JournalMismatch) × ((n : Noted) × FitsOne (with_entry s.state (record l { noted = n })) s t)))

-- a session is changed by the serial of an edit that is struck; a refused one leaves all as it was
abbrev pub StrikesSeen : ℕ → Seen → Result (Unit {0}) Refusal → Seen → Type 0
StrikesSeen serial s (Ok u) t = FitsOne (with_undone s.state serial) s t
StrikesSeen serial s (Err r) t = Mismatches r (with_undone s.state serial) × (t ≡ s)

-- it fails at this place; or memory ran out at a line whose edit may come next, and those before it fit
abbrev pub FailsAt : rules.Plan → ℕ → List Line → JournalFault → Type 0
FailsAt plan next ls f =
    ((f.refusal ≡ OutOfMemory) × ((n : ℕ) × ((s : State) × ((l : Line) × ((rest : List Line) × ((f.at ≡ Some n) × (drop n ls ≡ l ∷ rest) × MayComeNext s l.serial
    × (◌≡◌ {A = Result State (Option ℕ)} (from_entries plan next (take n ls)) (Ok s))))))))
    ⊎ ((f.refusal ≡ JournalMismatch) × (◌≡◌ {A = Result State (Option ℕ)} (from_entries plan next ls) (Err f.at)))
