-- What is printed for a journal is read as the session that it was printed of.
-- From the laws of its lines, and that the journal that a session says is read back.
use Rattle.std.proofs.Common.{◌≡◌, ◌∙◌, ℕ, suc, ◌+◌, ◌<◌, ◌≤◌, nat_le, nat_lt, ◌&&◌, Bool, true, false, cond, All, List, [], ◌∷◌, ◌++◌, length, map, reverse, codes, Option, Some, None, Result, Ok, refl, sym, ap, subst, append_assoc, arith}
use Rattle.std.proofs.lemmas.List.{reverse-append}
use Rattle.std.proofs.lemmas.List.Elements.{All-cons, All-head, All-nil, All-push, All-tail, All-weaker}
use Rattle.balise_rules.specs.declared.refusal.Refusal.{Refusal}
use Rattle.balise_rules.proofs.Cases.{unsome}
use Rattle.balise_rules.specs.Edits.{Item}
use Rattle.balise_rules.specs.Journal as rules
use Rattle.balise_rules.specs.Journal.{all_back, lines, undone}
use Rattle.balise_rules.specs.Opening.{and_undone, most_serial, opened_at, or_place, with_all_undone, with_entries, with_entry, with_undone}
use Rattle.balise_rules.specs.Plan.{Plan}
use Rattle.balise_rules.specs.Session.{Removed, State, put_back, put_by_serial}
use Rattle.balise_strike_laws.specs.InSession.{Between}
use Rattle.balise_strike_laws.specs.Redoing.{counted}
use Rattle.balise_strike_laws.specs.Sessions.{IsSession}
use Rattle.balise_strike_laws.proofs.Promises.{sessions_promised}
use Rattle.balise_strike_laws.proofs.Rising.{between-back}
use Rattle.balise_strike_laws.proofs.SessionsKept.{all_standing}
use Rattle.balise_lines.specs.Lines.{Line, ended, lines_of}
use Rattle.balise_lines.proofs.FirstLines.{lines_of-ended}
use Rattle.balise_text.specs.Entries.{entry_text, head_text, undone_text}
use Rattle.balise_text.specs.JournalLines.{UndoneLine, journal_line_of}
use Rattle.balise_text.specs.Laws.{IsNumber, IsOneLine, IsPrintable}
use Rattle.balise_text.specs.PlanLines.{plan_line_of}
use Rattle.balise_text.specs.Texts.{Text, text_of}
use Rattle.balise_text.specs.declared.head.Version.TheVariants.{Two}
use Rattle.balise_text.specs.declared.section.Section.{Section}
use Rattle.balise_text.specs.declared.section.Section.TheVariants.{Entries, Undone}
use Rattle.balise_text.specs.declared.plan_line.PlanLine.{PlanLine}
use Rattle.balise_text.specs.declared.plan_line.PlanLine.TheVariants.{JournalLine as HeadLine}
use Rattle.balise_text.proofs.LinesBack.{head_reads_as_printed, prints_lines, reads_as_printed, undone_reads_as_printed}
use Rattle.balise_text.specs.Words.{most_number}
use Rattle.balise_cli.specs.Laws.{GoesOn, HasRead, Opens, ReadsBack, ReadsPlan}
use Rattle.balise_cli.specs.Output.{Phase, Header, Between as BetweenGroups, InGroup, InJournal, Commands, Read, Good, Bad, between, closed_as, if_fits, in_group, in_journal, journal_begun, read_line}
use Rattle.balise_cli.specs.PlanRead.{WasRead}
use Rattle.balise_cli.specs.PlanTexts.{entry_line, journal_text, undone_line, with_end}
use Rattle.balise_cli.proofs.OneLine.{IsReading}
use Rattle.balise_cli.proofs.Printables.{entries_printable}
use Rattle.balise_cli.proofs.SmallTags.{plan_read_small}

-- ---- one line

line_first : (t rest : Text) → IsOneLine t → lines_of (with_end t ++ rest) ≡ ended t ∷ lines_of rest
line_first t rest one = ap lines_of (append_assoc t (codes "\n") rest) ∙ lines_of-ended t rest one

-- before the commands, one more line before
pub opens_on : (p : Phase) (n : ℕ) (line : Line) (lines : List Line) (s : State) (commands : List Line) → IsReading p → GoesOn (read_line p n line.bytes) (λ q. Opens q (n + 1) lines s commands) → Opens p n (line ∷ lines) s commands
opens_on Header n line lines s commands i g = g
opens_on (BetweenGroups plan) n line lines s commands i g = g
opens_on (InGroup plan k ys) n line lines s commands i g = g
opens_on (InJournal part t) n line lines s commands i g = g
opens_on (Commands t refused) n line lines s commands i g = absurd i

-- a line that is taken, and what follows
opens_line : (p q : Phase) (n : ℕ) (t rest : Text) (s : State) (behind : List Line) → IsReading p → IsOneLine t → read_line p n t ≡ Good q → Opens q (n + 1) (lines_of rest) s behind → Opens p n (lines_of (with_end t ++ rest)) s behind
opens_line p q n t rest s behind i one e o =
    subst (λ (ls : List Line). Opens p n ls s behind) (sym (line_first t rest one))
    (opens_on p n (ended t) (lines_of rest) s behind i (subst (λ (x : Read). GoesOn x (λ k. Opens k (n + 1) (lines_of rest) s behind)) (sym e) o))

pub at_commands : (s : State) (refused : Bool) (n : ℕ) (ls : List Line) → Opens (Commands s refused) n ls s ls
at_commands s refused n ls = (refl, refl)

opens_commands : (part : Section) (s : State) (n : ℕ) (commands : Text) → Opens (InJournal part s) n (lines_of (codes "edits\n" ++ commands)) s (lines_of commands)
opens_commands part s n commands = at_commands s false (n + 1) (lines_of commands)

-- ---- what was undone

ok_one : {E : Type 0} {s t : State} → ◌≡◌ {A = Result State E} (Ok s) (Ok t) → s ≡ t
ok_one e = cc

abbrev ReadsUndone : Section → Type 0
ReadsUndone part = (u : ℕ) → IsNumber u → journal_line_of part (undone_text u) ≡ Ok (UndoneLine u)

undones_read : (part : Section) (us : List ℕ) → All IsNumber us → ReadsUndone part → (k n : ℕ) (s t : State) → with_all_undone k us s ≡ Ok t → (commands : Text)
    → Opens (InJournal part s) n (lines_of (text_of (map undone_line us) ++ (codes "edits\n" ++ commands))) t (lines_of commands)
undones_read part [] all reads k n s t e commands = subst (λ (x : State). Opens (InJournal part s) n (lines_of (codes "edits\n" ++ commands)) x (lines_of commands)) (ok_one e) (opens_commands part s n commands)
undones_read part (u ∷ us) all reads k n s t e commands = by (λ v f. undones_read Undone us (All-tail IsNumber u us all) (λ m h. (undone_reads_as_printed m h).1) (suc k) (n + 1) v t f commands) (with_undone s u) refl e
  where
    rest : Text
    rest = text_of (map undone_line us) ++ (codes "edits\n" ++ commands)

    number : IsNumber u
    number = All-head IsNumber u us all

    by : ((v : State) → with_all_undone (suc k) us v ≡ Ok t → Opens (InJournal Undone v) (n + 1) (lines_of rest) t (lines_of commands)) → (o : Option State) → with_undone s u ≡ o → or_place (Some k) o (with_all_undone (suc k) us) ≡ Ok t → Opens (InJournal part s) n (lines_of (text_of (map undone_line (u ∷ us)) ++ (codes "edits\n" ++ commands))) t (lines_of commands)
    by again None q f = absurd cc
    by again (Some v) q f =
        subst (λ (x : Text). Opens (InJournal part s) n (lines_of x) t (lines_of commands)) (sym (append_assoc (undone_line u) (text_of (map undone_line us)) (codes "edits\n" ++ commands)))
        (opens_line (InJournal part s) (InJournal Undone v) n (undone_text u) rest t (lines_of commands) tt (prints_lines.1 u number).1
        (ap (in_journal part s n) (reads u number) ∙ ap (if_fits n Undone) q) (again v f))

-- ---- the entries

entries_read : (ls : List rules.Line) (us : List ℕ) → All IsPrintable ls → All IsNumber us → (k m n : ℕ) (s t : State) → and_undone m us (with_entries k ls s) ≡ Ok t → (commands : Text)
    → Opens (InJournal (Entries Two) s) n (lines_of (text_of (map entry_line ls) ++ (text_of (map undone_line us) ++ (codes "edits\n" ++ commands)))) t (lines_of commands)
entries_read [] us all numbers k m n s t e commands = undones_read (Entries Two) us numbers (λ u h. (undone_reads_as_printed u h).0) m n s t e commands
entries_read (l ∷ ls) us all numbers k m n s t e commands = by (λ v f. entries_read ls us (All-tail IsPrintable l ls all) numbers (suc k) m (n + 1) v t f commands) (with_entry s l) refl e
  where
    behind : Text
    behind = text_of (map undone_line us) ++ (codes "edits\n" ++ commands)

    printable : IsPrintable l
    printable = All-head IsPrintable l ls all

    by : ((v : State) → and_undone m us (with_entries (suc k) ls v) ≡ Ok t → Opens (InJournal (Entries Two) v) (n + 1) (lines_of (text_of (map entry_line ls) ++ behind)) t (lines_of commands)) → (o : Option State) → with_entry s l ≡ o → and_undone m us (or_place (Some k) o (with_entries (suc k) ls)) ≡ Ok t → Opens (InJournal (Entries Two) s) n (lines_of (text_of (map entry_line (l ∷ ls)) ++ behind)) t (lines_of commands)
    by again None q f = absurd cc
    by again (Some v) q f =
        subst (λ (x : Text). Opens (InJournal (Entries Two) s) n (lines_of x) t (lines_of commands)) (sym (append_assoc (entry_line l) (text_of (map entry_line ls)) behind))
        (opens_line (InJournal (Entries Two) s) (InJournal (Entries Two) v) n (entry_text l) (text_of (map entry_line ls) ++ behind) t (lines_of commands) tt (prints_lines.0 l printable)
        (ap (in_journal (Entries Two) s n) (reads_as_printed Two l printable) ∙ ap (if_fits n (Entries Two)) q) (again v f))

-- ---- the first line

head_line : (next : ℕ) → plan_line_of (head_text next) ≡ HeadLine
head_line next = refl

behind_plan : (n next : ℕ) (base : Plan) (v : State) → IsNumber next → opened_at base next ≡ Some v → between base n HeadLine (head_text next) ≡ Good (InJournal (Entries Two) v)
behind_plan n next base v number e = ap (journal_begun base n) (head_reads_as_printed next number) ∙ ap (if_fits n (Entries Two)) e

begun : (p : Phase) (n next : ℕ) (base : Plan) (v : State) → HasRead p base → IsNumber next → opened_at base next ≡ Some v → read_line p n (head_text next) ≡ Good (InJournal (Entries Two) v)
begun (BetweenGroups plan) n next base v has number e =
    ap (λ (k : PlanLine). between plan n k (head_text next)) (head_line next) ∙ ap (λ (x : Plan). between x n HeadLine (head_text next)) has ∙ behind_plan n next base v number e
begun (InGroup plan g ys) n next base v has number e =
    ap (λ (k : PlanLine). in_group plan g ys n k (head_text next)) (head_line next)
    ∙ ap (λ (r : Result Plan Refusal). closed_as g r (λ x. between x n HeadLine (head_text next))) has ∙ behind_plan n next base v number e
begun Header n next base v has number e = absurd has
begun (InJournal part s) n next base v has number e = absurd has
begun (Commands s refused) n next base v has number e = absurd has

-- the lines of a plan come before the commands
has_reading : (p : Phase) (base : Plan) → HasRead p base → IsReading p
has_reading Header base h = tt
has_reading (BetweenGroups plan) base h = tt
has_reading (InGroup plan g ys) base h = tt
has_reading (InJournal part s) base h = tt
has_reading (Commands s refused) base h = h

reads_reading : (p : Phase) (n : ℕ) (lines : List Line) (base : Plan) → ReadsPlan p n lines base → IsReading p
reads_reading (Commands s refused) n [] base r = r
reads_reading (Commands s refused) n (line ∷ lines) base r = reads_reading (Commands s refused) (n + 1) lines base r
reads_reading Header n lines base r = tt
reads_reading (BetweenGroups plan) n lines base r = tt
reads_reading (InGroup plan g ys) n lines base r = tt
reads_reading (InJournal part s) n lines base r = tt

-- ---- the serials of the stack

put_below : (l n : ℕ) (e : Item) (es : List Item) → Between l n (put_by_serial e es) → e.0 < n
put_below l n e [] b = b.1
put_below l n e (f ∷ fs) b = by (λ c. put_below f.0 n e fs c) (nat_lt e.0 f.0) b
  where
    by : (Between f.0 n (put_by_serial e fs) → e.0 < n) → (t : Bool) → Between l n (cond t (e ∷ f ∷ fs) (f ∷ put_by_serial e fs)) → e.0 < n
    by again true b = b.1
    by again false b = again b.2

stack_below : (l n : ℕ) (rs : List Removed) (es : List Item) → Between l n (all_back rs es) → All (λ (u : ℕ). u < n) (map (λ (r : Removed). r.item.0) rs)
stack_below l n [] es b = All-nil (λ (u : ℕ). u < n)
stack_below l n (r ∷ rs) es b = All-cons (λ (u : ℕ). u < n) r.item.0 (map (λ (r : Removed). r.item.0) rs) (put_below l n r.item _ (between-back l n rs (put_back r es) b)) (stack_below l n rs (put_back r es) b)

all_reverse : {A : Type 0} (P : A → Type 0) (xs : List A) → All P xs → All P (reverse xs)
all_reverse P [] h = All-nil P
all_reverse P (x ∷ xs) h = subst (All P) (sym (reverse-append (x ∷ []) xs)) (All-push P (reverse xs) x (all_reverse P xs (All-tail P x xs h)) (All-head P x xs h))

-- ---- the whole journal

journal_read : (s v t : State) → IsNumber s.serial → All IsPrintable (lines s) → All IsNumber (undone s) → opened_at s.base s.serial ≡ Some v → and_undone (length (lines s)) (undone s) (with_entries 0 (lines s) v) ≡ Ok t
    → (p : Phase) (n : ℕ) → HasRead p s.base → (commands : Text) → Opens p n (lines_of (journal_text s ++ (codes "edits\n" ++ commands))) t (lines_of commands)
journal_read s v t number printable numbers opened e p n has commands =
    let entries = text_of (map entry_line (lines s)) in
    let undones = text_of (map undone_line (undone s)) in
    let behind = codes "edits\n" ++ commands in
    let parts : journal_text s ++ behind ≡ with_end (head_text s.serial) ++ (entries ++ (undones ++ behind)) =
    append_assoc (with_end (head_text s.serial)) (entries ++ undones) behind ∙ ap (λ (x : Text). with_end (head_text s.serial) ++ x) (append_assoc entries undones behind) in
    subst (λ (x : Text). Opens p n (lines_of x) t (lines_of commands)) (sym parts)
    (opens_line p (InJournal (Entries Two) v) n (head_text s.serial) (entries ++ (undones ++ behind)) t (lines_of commands) (has_reading p s.base has) (prints_lines.1 s.serial number).0 (begun p n s.serial s.base v has number opened)
    (entries_read (lines s) (undone s) printable numbers 0 (length (lines s)) (n + 1) v t e commands))

-- a session over a plan that was read from few enough groups
pub record IsOpened (s : State) : Type 0 where
  pub session : IsSession s
  pub read : WasRead s.base
  pub few : length s.base ≤ most_number

pub opened_over : (plan : Plan) (s : State) → WasRead plan → length plan ≤ most_number → IsSession s → s.base ≡ plan → IsOpened s
opened_over plan s w few i e = record { session = i; read = subst WasRead (sym e) w; few = subst (λ (x : Plan). length x ≤ most_number) (sym e) few }

pub opened_base : (plan : Plan) (next : ℕ) (s : State) → opened_at plan next ≡ Some s → s.base ≡ plan
opened_base plan next s e = by (nat_le 1 next && nat_le next most_serial) e
  where
    by : (b : Bool) → cond b (Some (record { base = plan; standing = []; stack = []; serial = next; count = 0 })) None ≡ Some s → s.base ≡ plan
    by true e = ap (λ (t : State). t.base) (sym (unsome e))
    by false e = absurd cc

behind_plan_read : (s : State) → IsOpened s → s.serial ≤ most_serial → (p : Phase) (n : ℕ) → HasRead p s.base → (commands : Text) → Opens p n (lines_of (journal_text s ++ (codes "edits\n" ++ commands))) (counted s 0) (lines_of commands)
behind_plan_read s o most p n has commands = by (opened_at s.base s.serial) refl ((sessions_promised s o.session).read_back most)
  where
    small : (u : ℕ) → u < s.serial → IsNumber u
    small u h = omega (arith, h, most)

    next : IsNumber s.serial
    next = omega (arith, most)

    printable : All IsPrintable (lines s)
    printable = entries_printable 0 s.serial (all_back s.stack s.standing) s.base next (all_standing s.base s.stack s.standing o.session.standing o.session.redoable) o.session.within (plan_read_small s.base o.read o.few)

    numbers : All IsNumber (undone s)
    numbers =
        all_reverse IsNumber (map (λ (r : Removed). r.item.0) s.stack)
        (All-weaker (λ (u : ℕ). u < s.serial) IsNumber small (map (λ (r : Removed). r.item.0) s.stack) (stack_below 0 s.serial s.stack s.standing o.session.within))

    by : (o : Option State) → opened_at s.base s.serial ≡ o → and_undone (length (lines s)) (undone s) (or_place None o (with_entries 0 (lines s))) ≡ Ok (counted s 0)
        → Opens p n (lines_of (journal_text s ++ (codes "edits\n" ++ commands))) (counted s 0) (lines_of commands)
    by None q f = absurd cc
    by (Some v) q f = journal_read s v (counted s 0) next printable numbers q f p n has commands

-- after the lines of the plan
goes_on : (x : Read) (P Q : Phase → Type 0) → ((q : Phase) → P q → Q q) → GoesOn x P → GoesOn x Q
goes_on (Bad n r) P Q f g = absurd g
goes_on (Good q) P Q f g = f q g

behind_lines : (p : Phase) (n : ℕ) (plan rest : List Line) (base : Plan) (t : State) (behind : List Line) → ReadsPlan p n plan base → ((q : Phase) (m : ℕ) → HasRead q base → Opens q m rest t behind) → Opens p n (plan ++ rest) t behind
behind_lines p n [] rest base t behind r more = more p n r
behind_lines p n (line ∷ lines) rest base t behind r more =
    opens_on p n line (lines ++ rest) t behind (reads_reading p n (line ∷ lines) base r)
    (goes_on (read_line p n line.bytes) (λ q. ReadsPlan q (n + 1) lines base) (λ q. Opens q (n + 1) (lines ++ rest) t behind) (λ q h. behind_lines q (n + 1) lines rest base t behind h more) r)

pub journal_read_back : (s : State) → IsOpened s → ReadsBack s
journal_read_back s o most plan reads commands =
    behind_lines Header 1 plan (lines_of (journal_text s ++ (codes "edits\n" ++ commands))) s.base (counted s 0) (lines_of commands) reads (λ p n has. behind_plan_read s o most p n has commands)
