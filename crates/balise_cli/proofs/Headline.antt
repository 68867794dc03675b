-- What a whole run prints: from the plan's first line on, each session is one of which all is promised.
use Rattle.std.proofs.Common.{◌≡◌, ◌⊎◌, ◌∙◌, inl, inr, ℕ, ◌+◌, ◌≤◌, ◌<◌, Bool, true, false, cond, ◌&&◌, ◌||◌, List, [], ◌∷◌, ◌++◌, length, is_some, Option, Some, None, Result, Ok, Err, refl, sym, ap, subst, append_assoc, append-nil, arith, length-append}
use Rattle.std.specs.List.{list_any}
use Rattle.balise_rules.specs.declared.refusal.Refusal.{Refusal}
use Rattle.balise_rules.specs.declared.refusal.Refusal.TheVariants.{BadLine, GroupTwice, OutOfMemory}
use Rattle.balise_rules.specs.declared.tag.Tag.TheVariants.{Base}
use Rattle.balise_rules.specs.Opening.{opened_at, with_entry, with_undone}
use Rattle.balise_rules.specs.Plan.{Group, Plan, group_named, identity_of, with_group}
use Rattle.balise_rules.specs.Session.{Call, Reply, Refused, State}
use Rattle.balise_rules.proofs.Cases.{unok}
use Rattle.balise_edit_laws.proofs.PlansRead.{plan_read}
use Rattle.balise_strike_laws.specs.Sessions.{IsSession}
use Rattle.balise_strike_laws.proofs.Promises.{sessions_promised}
use Rattle.balise_strike_laws.proofs.SessionsKept.{openings_begin, openings_kept, sessions_begin, sessions_kept}
use Rattle.balise_lines.specs.Lines.{Fits, Line, end_of, lines_of, whole}
use Rattle.balise_plan.specs.GroupReading.{WereRead, group_of, with_read}
use Rattle.balise_plan.proofs.Reading.{group_pushed, none_read}
use Rattle.balise_cli.specs.declared.asked.Asked.{Asked}
use Rattle.balise_text.specs.Commands.{call_of}
use Rattle.balise_text.specs.Heads.{read_head}
use Rattle.balise_text.specs.JournalLines.{JournalLine, EntryLine, UndoneLine, EditsLine as EndLine, journal_line_of}
use Rattle.balise_text.specs.PlanLines.{plan_line_of}
use Rattle.balise_text.specs.Replies.{is_refused}
use Rattle.balise_text.specs.Texts.{Text}
use Rattle.balise_text.specs.Words.{most_number}
use Rattle.balise_text.specs.declared.head.Head.{Head}
use Rattle.balise_text.specs.declared.section.Section.{Section}
use Rattle.balise_text.specs.declared.plan_line.PlanLine.{PlanLine}
use Rattle.balise_text.specs.declared.plan_line.PlanLine.TheVariants.{FirstLine, GroupLine, EditsLine, JournalLine as HeadLine, Empty, TelegramLine}
use Rattle.balise_cli.specs.Laws.{Answered, GoesOn, KeepsPromises, Opens, PrintsAll, PrintsBad, PrintsHeld, PrintsStandingEdits, RefusedOr, Refuses}
use Rattle.balise_cli.specs.Output.{Phase, Header, Between, InGroup, InJournal, Commands, Read, Good, Bad, Next, On, Over, Ended, Follows, IsOutput, IsStep, MayAnswer, after_command, after_read, answer_line, at_end, between, closed, closed_as, first_line, if_fits, in_group, in_journal, journal_begun, one_more, read_line, reply_text, reviewed, MayRunOut}
use Rattle.balise_cli.specs.PlanRead.{WasRead, with_line}
use Rattle.balise_cli.specs.PlanTexts.{end_text}
use Rattle.balise_cli.specs.Statuses.{status_of}
use Rattle.balise_cli.specs.declared.status.Status.{Status}
use Rattle.balise_cli.specs.declared.status.Status.TheVariants.{SomeRefused}
use Rattle.balise_cli.proofs.BasePlans.{added_read, read_last}
use Rattle.balise_cli.proofs.JournalTexts.{IsOpened, at_commands, journal_read_back, opened_base, opened_over, opens_on}
use Rattle.balise_cli.proofs.OneLine.{IsReading}

-- Each phase keeps what was read, or a session.

-- of an input up to this place; a plan has fewer groups than the input has bytes
abbrev IsKept : ℕ → Phase → Type 0
IsKept at Header = Unit {0}
IsKept at (Between plan) = WasRead plan × (length plan ≤ at)
IsKept at (InGroup plan g ys) = WasRead plan × (length plan < at) × WereRead ys
IsKept at (InJournal part s) = IsOpened s
IsKept at (Commands s refused) = IsOpened s × (refused ≡ false)

abbrev ReadKept : ℕ → Read → Type 0
ReadKept at (Good p) = IsKept at p
ReadKept at (Bad n r) = Unit {0}

fits_kept : (at n : ℕ) (part : Section) (o : Option State) → ((s : State) → o ≡ Some s → IsOpened s) → ReadKept at (if_fits n part o)
fits_kept at n part None h = tt
fits_kept at n part (Some s) h = h s refl

begun_kept : (at : ℕ) (plan : Plan) (n : ℕ) (h : Result Head Refusal) → WasRead plan → length plan ≤ most_number → ReadKept at (journal_begun plan n h)
begun_kept at plan n (Err r) w few = tt
begun_kept at plan n (Ok h) w few =
    let p = plan_read w.0 plan w.1 in
    fits_kept at n _ (opened_at plan h.next) (λ s e. opened_over plan s w few (openings_begin plan h.next s p.0 p.1 e) (opened_base plan h.next s e))

journal_kept : (at : ℕ) (part : Section) (s : State) (n : ℕ) (l : Result JournalLine Refusal) → IsOpened s → ReadKept at (in_journal part s n l)
journal_kept at part s n (Err r) h = tt
journal_kept at part s n (Ok (EntryLine l)) h = fits_kept at n part (with_entry s l) (λ t e. let k = openings_kept.0 l s t h.session e in opened_over s.base t h.read h.few k.0 k.1)
journal_kept at part s n (Ok (UndoneLine u)) h = fits_kept at n _ (with_undone s u) (λ t e. let k = openings_kept.1 u s t h.session e in opened_over s.base t h.read h.few k.0 k.1)
journal_kept at part s n (Ok EndLine) h = (h, refl)

-- a line that isn't empty takes a byte
between_kept : (was at : ℕ) (plan : Plan) (n : ℕ) (k : PlanLine) (line : Text) → WasRead plan → length plan ≤ was → was ≤ at → at ≤ 67108864 → (k ≡ GroupLine → was < at) → ReadKept at (between plan n k line)
between_kept was at plan n FirstLine line w few more most longer = tt
between_kept was at plan n GroupLine line w few more most longer = let l = longer refl in (w, omega (arith, few, l), none_read)
between_kept was at plan n EditsLine line w few more most longer = let p = plan_read w.0 plan w.1 in (record { session = sessions_begin plan p.0 p.1; read = w; few = omega (arith, few, more, most) }, refl)
between_kept was at plan n HeadLine line w few more most longer = begun_kept at plan n (read_head line) w (omega (arith, few, more, most))
between_kept was at plan n Empty line w few more most longer = tt
between_kept was at plan n TelegramLine line w few more most longer = tt

closed_kept : (at g : ℕ) (r : Result Plan Refusal) (next : Plan → Read) → ((p : Plan) → r ≡ Ok p → ReadKept at (next p)) → ReadKept at (closed_as g r next)
closed_kept at g (Err f) next h = tt
closed_kept at g (Ok p) next h = h p refl

-- one group more
grown : (plan more : Plan) (ys : Group) → WasRead plan → WereRead ys → with_read plan ys ≡ Ok more → WasRead more
grown plan more ys w v e = let p = group_pushed plan more ys v e in (w.0 ++ p.0 ∷ [], read_last w.0 p.0 plan more w.1 p.1)

grown_by : (plan more : Plan) (r : Result Group Refusal) → with_group plan r ≡ Ok more → length more ≡ length plan + 1
grown_by plan more (Err f) e = absurd cc
grown_by plan more (Ok ys) e = by (is_some (group_named (identity_of ys) plan)) e
  where
    by : (b : Bool) → cond b (Err GroupTwice) (Ok (plan ++ (Base (length plan), ys) ∷ [])) ≡ Ok more → length more ≡ length plan + 1
    by true e = absurd cc
    by false e = ap length (sym (unok e)) ∙ length-append plan ((Base (length plan), ys) ∷ [])

-- a group that ends, and what follows it
group_closed : (was at : ℕ) (plan : Plan) (g : ℕ) (ys : Group) (n : ℕ) (k : PlanLine) (line : Text) → WasRead plan → length plan < was → WereRead ys → was ≤ at → at ≤ 67108864 → (k ≡ GroupLine → was < at)
    → ReadKept at (closed plan g ys (λ p. between p n k line))
group_closed was at plan g ys n k line w few v more most longer =
    closed_kept at g (with_read plan ys) (λ p. between p n k line)
    (λ p e. let size = grown_by plan p (group_of ys) e in between_kept was at p n k line (grown plan p ys w v e) (omega (arith, size, few)) more most longer)

telegram_kept : (at : ℕ) (plan : Plan) (g n : ℕ) (r : Result Group Refusal) → WasRead plan → length plan < at → ((ys : Group) → r ≡ Ok ys → WereRead ys) → ReadKept at (one_more plan g n r)
telegram_kept at plan g n (Err f) w few h = tt
telegram_kept at plan g n (Ok ys) w few h = (w, few, h ys refl)

group_kept : (was at : ℕ) (plan : Plan) (g : ℕ) (ys : Group) (n : ℕ) (k : PlanLine) (line : Text) → WasRead plan → length plan < was → WereRead ys → was ≤ at → at ≤ 67108864 → (k ≡ GroupLine → was < at)
    → ReadKept at (in_group plan g ys n k line)
group_kept was at plan g ys n FirstLine line w few v more most longer = telegram_kept at plan g n (with_line ys line) w (omega (arith, few, more)) (λ zs e. added_read ys zs line v e)
group_kept was at plan g ys n TelegramLine line w few v more most longer = telegram_kept at plan g n (with_line ys line) w (omega (arith, few, more)) (λ zs e. added_read ys zs line v e)
group_kept was at plan g ys n GroupLine line w few v more most longer = group_closed was at plan g ys n GroupLine line w few v more most longer
group_kept was at plan g ys n EditsLine line w few v more most longer = group_closed was at plan g ys n EditsLine line w few v more most longer
group_kept was at plan g ys n HeadLine line w few v more most longer = group_closed was at plan g ys n HeadLine line w few v more most longer
group_kept was at plan g ys n Empty line w few v more most longer = group_closed was at plan g ys n Empty line w few v more most longer

first_kept : (at n : ℕ) (k : PlanLine) → ReadKept at (first_line n k)
first_kept at n FirstLine = (([], refl), omega arith)
first_kept at n GroupLine = tt
first_kept at n EditsLine = tt
first_kept at n HeadLine = tt
first_kept at n Empty = tt
first_kept at n TelegramLine = tt

-- the line of a group isn't empty
some_bytes : (line : Line) → plan_line_of line.bytes ≡ GroupLine → 1 ≤ length (whole line)
some_bytes line e = by line.bytes e
  where
    by : (bytes : Text) → plan_line_of bytes ≡ GroupLine → 1 ≤ length (bytes ++ end_of line.is_ended)
    by [] e = absurd cc
    by (b ∷ bs) e = omega arith

line_kept : (p : Phase) (n place : ℕ) (line : Line) → Fits place line → IsKept place p → ReadKept (place + length (whole line)) (read_line p n line.bytes)
line_kept Header n place line fits h = first_kept (place + length (whole line)) n (plan_line_of line.bytes)
line_kept (Between plan) n place line fits h =
    let most = fits.1 in
    between_kept place (place + length (whole line)) plan n (plan_line_of line.bytes) line.bytes h.0 h.1 (omega arith) most (λ e. let l = some_bytes line e in omega (arith, l))
line_kept (InGroup plan g ys) n place line fits h =
    let most = fits.1 in
    group_kept place (place + length (whole line)) plan g ys n (plan_line_of line.bytes) line.bytes h.0 h.1 h.2 (omega arith) most (λ e. let l = some_bytes line e in omega (arith, l))
line_kept (InJournal part s) n place line fits h = journal_kept (place + length (whole line)) part s n (journal_line_of part line.bytes) h
line_kept (Commands s refused) n place line fits h = h

-- The commands.

answer_kept : (scarce : Bool) (line : Text) (s t : State) (r : Reply) → IsSession s → MayAnswer scarce line s r t → IsSession t × (t.base ≡ s.base)
answer_kept scarce line s t r h may = by (call_of line) may
  where
    same : t ≡ s → IsSession t × (t.base ≡ s.base)
    same e = (subst IsSession (sym e) h, ap (λ (u : State). u.base) e)

    by : (c : Result Call Refusal) → (◌≡◌ {A = Reply × State} (r, t) (answer_line c s)) ⊎ ((scarce ≡ true) × MayRunOut line s × (r ≡ Refused OutOfMemory) × (t ≡ s)) → IsSession t × (t.base ≡ s.base)
    by (Err f) (inl e) = same (ap (λ (a : Reply × State). a.1) e)
    by (Ok c) (inl e) = sessions_kept c r s t h (inl e)
    by c (inr w) = same w.3

-- all is promised of each state that commands lead to
answered_keeps : (asked : Asked) (scarce : Bool) (s t : State) (lines : List Line) (rs : List Reply) (text : Text) → IsOpened s → Answered asked scarce s lines rs text t → KeepsPromises s.base t
answered_keeps asked scarce s t [] [] text h a = subst (λ (u : State). KeepsPromises s.base u) (sym a.1) (sessions_promised s h.session, journal_read_back s h)
answered_keeps asked scarce s t [] (r ∷ rs) text h a = absurd a
answered_keeps asked scarce s t (line ∷ lines) [] text h a = absurd a
answered_keeps asked scarce s t (line ∷ lines) (r ∷ rs) text h (u, (more, (may, is, a))) =
    let k = answer_kept scarce line.bytes s u r h.session may in
    subst (λ (b : Plan). KeepsPromises b t) k.1 (answered_keeps asked scarce u t lines rs more (opened_over s.base u h.read h.few k.0 k.1) a)

ended : {status other : Status} → Ended status ≡ Ended other → status ≡ other
ended e = cc

or_false : (b : Bool) → b ≡ (b || false)
or_false true = refl
or_false false = refl

or_or : (a b c : Bool) → ((a || b) || c) ≡ (a || (b || c))
or_or true b c = refl
or_or false b c = refl

-- the status of a run that stops
stopped_status : (stop b refused : Bool) → (stop && b) ≡ true → SomeRefused ≡ status_of (refused || (b || false))
stopped_status true true true e = refl
stopped_status true true false e = refl
stopped_status true false refused e = absurd cc
stopped_status false b refused e = absurd cc

-- what is printed over commands, where one before them was refused or not
abbrev Held : Asked → Bool → State → Bool → List Line → Text → Status → Type 0
Held asked scarce s refused lines out status = (h : PrintsHeld asked scarce s lines out) × (status ≡ status_of (refused || list_any is_refused h.replies))

-- with one more command before
more_held : (asked : Asked) (scarce : Bool) (s u : State) (refused : Bool) (line : Line) (lines : List Line) (r : Reply) (now out more : Text) (status : Status) → IsOpened s → (asked.stop && is_refused r) ≡ false → MayAnswer scarce line.bytes s r u
    → now ≡ reply_text asked.quiet r (reviewed (call_of line.bytes) r s) → out ≡ now ++ more → Held asked scarce u (refused || is_refused r) lines more status → Held asked scarce s refused (line ∷ lines) out status
more_held asked scarce s u refused line lines r now out more status first goes may is e (h, f) = (
  record {
    done = line ∷ h.done;
    left = h.left;
    cut = ap (λ ls. line ∷ ls) h.cut;
    replies = r ∷ h.replies;
    stops = inr (goes, h.stops);
    printed = now ++ h.printed;
    held = h.held;
    answered = (u, (h.printed, (may, ap (λ (t : Text). t ++ h.printed) is, h.answered)));
    whole = e ∙ ap (λ (t : Text). now ++ t) h.whole ∙ sym (append_assoc now h.printed (end_text asked h.held));
    promised = λ ls qs text t a. answered_keeps asked scarce s t ls qs text first a;
  },
  f ∙ ap status_of (or_or refused (is_refused r) (list_any is_refused h.replies)),
)

-- a command that stops the run
stopped_held : (asked : Asked) (scarce : Bool) (s u : State) (refused : Bool) (line : Line) (lines : List Line) (r : Reply) (now out more : Text) (status : Status) → IsOpened s → (asked.stop && is_refused r) ≡ true → MayAnswer scarce line.bytes s r u
    → now ≡ reply_text asked.quiet r (reviewed (call_of line.bytes) r s) → out ≡ now ++ more → more ≡ end_text asked u → status ≡ SomeRefused → Held asked scarce s refused (line ∷ lines) out status
stopped_held asked scarce s u refused line lines r now out more status first stop may is e end f = (
  record {
    done = line ∷ [];
    left = lines;
    cut = refl;
    replies = r ∷ [];
    stops = inl (stop, refl);
    printed = now;
    held = u;
    answered = (u, ([], (may, is ∙ sym (append-nil (reply_text asked.quiet r (reviewed (call_of line.bytes) r s))), (refl, refl))));
    whole = e ∙ ap (λ (t : Text). now ++ t) end;
    promised = λ ls qs text t a. answered_keeps asked scarce s t ls qs text first a;
  },
  f ∙ stopped_status asked.stop (is_refused r) refused stop,
)

-- after the last one
none_held : (asked : Asked) (scarce : Bool) (s : State) (refused : Bool) (out : Text) (status : Status) → IsOpened s → out ≡ end_text asked s → status ≡ status_of refused → Held asked scarce s refused [] out status
none_held asked scarce s refused out status first e f = (
  record {
    done = [];
    left = [];
    cut = refl;
    replies = [];
    stops = refl;
    printed = [];
    held = s;
    answered = (refl, refl);
    whole = e;
    promised = λ ls qs text t a. answered_keeps asked scarce s t ls qs text first a;
  },
  f ∙ ap status_of (or_false refused),
)

-- a command whose run is over, or goes on
command_held : (asked : Asked) (scarce : Bool) (s u : State) (line : Line) (lines : List Line) (r : Reply) (refused : Bool) (now out more : Text) (status : Status) (goes : Phase → Text → Type 0)
    → ((q : Bool) (rest : Text) → goes (Commands u q) rest → Held asked scarce u q lines rest status) → IsOpened s → MayAnswer scarce line.bytes s r u
    → now ≡ reply_text asked.quiet r (reviewed (call_of line.bytes) r s) → out ≡ now ++ more → Follows goes (after_command asked r u refused) more (Ended status) → Held asked scarce s refused (line ∷ lines) out status
command_held asked scarce s u line lines r refused now out more status goes again first may is e follows = by (asked.stop && is_refused r) refl follows
  where
    by : (b : Bool) → (asked.stop && is_refused r) ≡ b → Follows goes (cond b (Over (end_text asked u) SomeRefused) (On (Commands u (refused || is_refused r)))) more (Ended status) → Held asked scarce s refused (line ∷ lines) out status
    by true stop f = stopped_held asked scarce s u refused line lines r now out more status first stop may is e f.0 (ended f.1)
    by false stop f = more_held asked scarce s u refused line lines r now out more status first stop may is e (again (refused || is_refused r) more f)

commands_held : (asked : Asked) (scarce : Bool) (s : State) (refused : Bool) (n place : ℕ) (lines : List Line) (out : Text) (status : Status) → IsOpened s → IsOutput asked scarce (Commands s refused) n place lines out (Ended status) → Held asked scarce s refused lines out status
commands_held asked scarce s refused n place [] out status h o = none_held asked scarce s refused out status h o.0 (ended o.1)
commands_held asked scarce s refused n place (line ∷ lines) out status h (inl o) = absurd cc
commands_held asked scarce s refused n place (line ∷ lines) out status h (inr (fits, (now, (next, (more, ((r, (u, (may, is, e))), whole_is, follows)))))) =
    let answered = answer_kept scarce line.bytes s u r h.session may in
    let kept = opened_over s.base u h.read h.few answered.0 answered.1 in
    command_held asked scarce s u line lines r refused now out more status (λ q rest. IsOutput asked scarce q (n + 1) (place + length (whole line)) lines rest (Ended status))
    (λ q rest x. commands_held asked scarce u q (n + 1) (place + length (whole line)) lines rest status kept x) h may is whole_is
    (subst (λ (x : Next). Follows (λ q rest. IsOutput asked scarce q (n + 1) (place + length (whole line)) lines rest (Ended status)) x more (Ended status)) e follows)

-- The lines before the commands.

abbrev Prints : Asked → Bool → Phase → ℕ → List Line → Text → Status → Type 0
Prints asked scarce p n lines out status = PrintsBad asked p n lines out status ⊎ PrintsAll asked scarce p n lines out status

-- one line before
opens_before : (asked : Asked) (scarce : Bool) (p q : Phase) (n : ℕ) (line : Line) (lines : List Line) (out more : Text) (status : Status) → IsReading p → read_line p n line.bytes ≡ Good q → out ≡ more → Prints asked scarce q (n + 1) lines more status
    → Prints asked scarce p n (line ∷ lines) out status
opens_before asked scarce p q n line lines out more status i e o (inl (k, (r, (refuses, is, ends)))) =
    inl (k, (r, (subst (λ (x : Read). RefusedOr x k r (λ j. Refuses asked j (n + 1) lines k r)) (sym e) refuses, o ∙ is, ends)))
opens_before asked scarce p q n line lines out more status i e o (inr a) =
    let opens = opens_on p n line lines a.opened a.commands i (subst (λ (x : Read). GoesOn x (λ k. Opens k (n + 1) lines a.opened a.commands)) (sym e) a.opens) in
    inr (subst (λ (t : Text). PrintsAll asked scarce p n (line ∷ lines) t status) (sym o) (record { opened = a.opened; commands = a.commands; opens = opens; prints = a.prints; ends = a.ends }))

-- a line of the plan or the journal, and what follows
reading_step : (asked : Asked) (scarce : Bool) (p : Phase) (n : ℕ) (line : Line) (lines : List Line) (out more : Text) (status : Status) (at : ℕ) (goes : Phase → Text → Type 0) → IsReading p
    → ((q : Phase) (rest : Text) → IsKept at q → goes q rest → Prints asked scarce q (n + 1) lines rest status) → ReadKept at (read_line p n line.bytes) → out ≡ more
    → Follows goes (after_read (read_line p n line.bytes)) more (Ended status) → Prints asked scarce p n (line ∷ lines) out status
reading_step asked scarce p n line lines out more status at goes i again kept o follows = by (read_line p n line.bytes) refl kept follows
  where
    by : (rd : Read) → read_line p n line.bytes ≡ rd → ReadKept at rd → Follows goes (after_read rd) more (Ended status) → Prints asked scarce p n (line ∷ lines) out status
    by (Bad m r) e k f = inl (m, (r, (subst (λ (x : Read). RefusedOr x m r (λ j. Refuses asked j (n + 1) lines m r)) (sym e) (refl, refl), o ∙ f.0, ended f.1)))
    by (Good q) e k f = opens_before asked scarce p q n line lines out more status i e o (again q more k f)

-- at the commands, none of which was refused before
all_printed : (asked : Asked) (scarce : Bool) (s : State) (refused : Bool) (n place : ℕ) (lines : List Line) (out : Text) (status : Status) → IsOpened s → refused ≡ false → IsOutput asked scarce (Commands s refused) n place lines out (Ended status)
    → PrintsAll asked scarce (Commands s refused) n lines out status
all_printed asked scarce s refused n place lines out status h first o =
    let c = commands_held asked scarce s refused n place lines out status h o in record {
      opened = s;
      commands = lines;
      opens = at_commands s refused n lines;
      prints = c.0;
      ends = c.1 ∙ ap (λ (b : Bool). status_of (b || list_any is_refused c.0.replies)) first;
    }

end_bad : (asked : Asked) (p : Phase) (n : ℕ) (out : Text) (status : Status) → IsReading p → Follows (λ _ _. ⊥) (at_end asked p n) out (Ended status) → PrintsBad asked p n [] out status
end_bad asked Header n out status i f = (n, (BadLine, (refl, f.0, ended f.1)))
end_bad asked (Between plan) n out status i f = (n, (BadLine, (refl, f.0, ended f.1)))
end_bad asked (InJournal part s) n out status i f = (n, (BadLine, (refl, f.0, ended f.1)))
end_bad asked (InGroup plan g ys) n out status i f = by (with_read plan ys) refl f
  where
    by : (r : Result Plan Refusal) → with_read plan ys ≡ r → Follows (λ _ _. ⊥) (after_read (closed_as g r (λ p. Bad n BadLine))) out (Ended status) → PrintsBad asked (InGroup plan g ys) n [] out status
    by (Err e) q f = (g, (e, (ap (λ (x : Result Plan Refusal). after_read (closed_as g x (λ p. Bad n BadLine))) q, f.0, ended f.1)))
    by (Ok p) q f = (n, (BadLine, (ap (λ (x : Result Plan Refusal). after_read (closed_as g x (λ p. Bad n BadLine))) q, f.0, ended f.1)))
end_bad asked (Commands s refused) n out status i f = absurd i

-- the step of a line that isn't a command's
read_as : (asked : Asked) (scarce : Bool) (p : Phase) (n : ℕ) (line now : Text) (next : Next) → IsReading p → IsStep asked scarce p n line now next → (now ≡ []) × (next ≡ after_read (read_line p n line))
read_as asked scarce Header n line now next i step = step
read_as asked scarce (Between plan) n line now next i step = step
read_as asked scarce (InGroup plan g ys) n line now next i step = step
read_as asked scarce (InJournal part s) n line now next i step = step
read_as asked scarce (Commands s refused) n line now next i step = absurd i

prints_read : (asked : Asked) (scarce : Bool) (p : Phase) (n place : ℕ) (line : Line) (lines : List Line) (out : Text) (status : Status) → IsReading p → IsKept place p
    → ((q : Phase) (rest : Text) → IsKept (place + length (whole line)) q → IsOutput asked scarce q (n + 1) (place + length (whole line)) lines rest (Ended status) → Prints asked scarce q (n + 1) lines rest status)
    → IsOutput asked scarce p n place (line ∷ lines) out (Ended status) → Prints asked scarce p n (line ∷ lines) out status
prints_read asked scarce p n place line lines out status i kept again (inl o) = absurd cc
prints_read asked scarce p n place line lines out status i kept again (inr (fits, (now, (next, (more, (step, o, follows)))))) =
    let goes : Phase → Text → Type 0 = λ q rest. IsOutput asked scarce q (n + 1) (place + length (whole line)) lines rest (Ended status) in
    let read = read_as asked scarce p n line.bytes now next i step in
    reading_step asked scarce p n line lines out more status (place + length (whole line)) goes i again (line_kept p n place line fits kept) (o ∙ ap (λ (t : Text). t ++ more) read.0) (subst (λ (x : Next). Follows goes x more (Ended status)) read.1 follows)

prints : (asked : Asked) (scarce : Bool) (p : Phase) (n place : ℕ) (lines : List Line) (out : Text) (status : Status) → IsKept place p → IsOutput asked scarce p n place lines out (Ended status) → Prints asked scarce p n lines out status
prints asked scarce (Commands s refused) n place lines out status h o = inr (all_printed asked scarce s refused n place lines out status h.0 h.1 o)
prints asked scarce Header n place [] out status h o = inl (end_bad asked Header n out status tt o)
prints asked scarce (Between plan) n place [] out status h o = inl (end_bad asked (Between plan) n out status tt o)
prints asked scarce (InGroup plan g ys) n place [] out status h o = inl (end_bad asked (InGroup plan g ys) n out status tt o)
prints asked scarce (InJournal part s) n place [] out status h o = inl (end_bad asked (InJournal part s) n out status tt o)
prints asked scarce Header n place (line ∷ lines) out status h o = prints_read asked scarce Header n place line lines out status tt h (λ q rest k x. prints asked scarce q (n + 1) (place + length (whole line)) lines rest status k x) o
prints asked scarce (Between plan) n place (line ∷ lines) out status h o = prints_read asked scarce (Between plan) n place line lines out status tt h (λ q rest k x. prints asked scarce q (n + 1) (place + length (whole line)) lines rest status k x) o
prints asked scarce (InGroup plan g ys) n place (line ∷ lines) out status h o = prints_read asked scarce (InGroup plan g ys) n place line lines out status tt h (λ q rest k x. prints asked scarce q (n + 1) (place + length (whole line)) lines rest status k x) o
prints asked scarce (InJournal part s) n place (line ∷ lines) out status h o = prints_read asked scarce (InJournal part s) n place line lines out status tt h (λ q rest k x. prints asked scarce q (n + 1) (place + length (whole line)) lines rest status k x) o

pub standing_printed : PrintsStandingEdits
standing_printed asked scarce input out status o = prints asked scarce Header 1 0 (lines_of input) out status tt o
