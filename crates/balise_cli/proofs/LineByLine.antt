-- What a run keeps from line to line.
use Rattle.std.proofs.Common.{◌≡◌, inl, inr, ℕ, ◌+◌, List, [], ◌∷◌, ◌++◌, Bool, true, false, not, length, Option, Some, None, refl, sym, ap, subst, ◌∙◌, arith, append_assoc, append-nil, length-append}
use Rattle.std.specs.Io.KnownBytes.{Appends, Consumes, IsAtEnd, Keeps, prepend_known}
use Rattle.std.proofs.KnownBytes.{Appends-trans, Appends-nil, Consumes-nil, Consumes-trans, Keeps-refl}
use Rattle.balise_lines.specs.Laws.{joined}
use Rattle.balise_lines.specs.Lines.{Fits, IsLine, Line, lines_of, whole}
use Rattle.balise_lines.specs.Reading.{IsInput, LongNext}
use Rattle.balise_lines.specs.Writing.{AppendsSome}
use Rattle.balise_lines.proofs.InputsLeft.{ahead_read, input_at_end, input_read, lines_of-line, some_input}
use Rattle.balise_lines.proofs.WrittenTexts.{some_after, some_front, some_nothing}
use Rattle.balise_cli.specs.declared.asked.Asked.{Asked}
use Rattle.balise_text.specs.Texts.{Text}
use Rattle.balise_cli.specs.Output.{Ended, Ending, Header, IsOutput, IsStep, Next, On, Over, Phase, TooLong, at_end}
use Rattle.balise_cli.specs.Ends.{BeginsOutput, IsOutputOf, WritesBeginning, WritesOutput, WritesSome, WritesText}
use Rattle.balise_cli.specs.Phases.{DidSome, DidStep, last_text}
use Rattle.balise_cli.specs.Progress.{Progress}
use Rattle.balise_cli.specs.declared.status.Status.{Status}
use Rattle.balise_cli.proofs.LinesDone.{joined-append, steps_lead, steps_on}
use Rattle.balise_cli.proofs.Outputs.{ends_over, some_output}

-- what the end gives was written
abbrev pub DidEnd : Asked → Phase → ℕ → Option Text → Option Text → Status → Type 0
DidEnd asked p n old new status = (text : Text) × ((at_end asked p n ≡ Over text status) × Appends old new text)

-- what comes from here on, after what was read and written, is a run of the whole
leads : (asked : Asked) (had left old now : Option Text) (over : Bool) (p : Phase) (n place : ℕ) (go : Progress asked had left old now over p n place) (rest more : Text) (e : Ending) → (over ≡ true → rest ≡ [])
    → IsOutput asked true p n place (lines_of rest) more e → IsOutputOf asked (go.read ++ rest) (go.written ++ more) e
leads asked had left old now over p n place go rest more e none o =
    let number : n ≡ 1 + length go.lines = let k = go.numbered in omega (arith, k) in
    let at : place ≡ 0 + length (joined go.lines) = let k = go.placed in omega (arith, k) in
    let here : IsOutput asked true p (1 + length go.lines) (0 + length (joined go.lines)) (lines_of rest) more e =
    subst (λ (k : ℕ). IsOutput asked true p k (0 + length (joined go.lines)) (lines_of rest) more e) number (subst (λ (k : ℕ). IsOutput asked true p n k (lines_of rest) more e) at o) in
    subst (λ (ls : List Line). IsOutput asked true Header 1 0 ls (go.written ++ more) e) (sym (go.cut rest none)) (steps_lead asked Header p 1 0 go.lines (lines_of rest) go.written more e go.steps here)

-- at first
pub begins : (asked : Asked) (had left old : Option Text) (over : Bool) (p : Phase) (n place : ℕ) → left ≡ had → p ≡ Header → n ≡ 1 → place ≡ 0 → Progress asked had left old old over p n place
begins asked had left old over p n place e f g h = record {
  read = [];
  written = [];
  lines = [];
  consumed = subst (λ t. Consumes had t []) (sym e) (Consumes-nil had);
  cut = λ rest none. refl;
  appended = Appends-nil old;
  steps = (refl, f);
  numbered = g;
  placed = h;
}

-- A line that was taken.

pub record TookIt (left next : Option Text) (is_over : Bool) (place : ℕ) (line : Line) : Type 0 where
  pub is_line : IsLine line
  pub consumed : Consumes left next (whole line)
  pub fits : Fits place line
  pub over : is_over ≡ not line.is_ended

-- the lines of what is left, where this comes after the line
lines_left : (left next : Option Text) (over : Bool) (place : ℕ) (line : Line) (rest : Text) → TookIt left next over place line → (over ≡ true → rest ≡ []) → lines_of (whole line ++ rest) ≡ line ∷ lines_of rest
lines_left left next over place line rest took none = lines_of-line line rest took.is_line (λ f. none (took.over ∙ ap not f))

-- in what was read, and the line after it
pub line_cut : (asked : Asked) (had left next old now : Option Text) (before over : Bool) (p : Phase) (n place : ℕ) (line : Line) → before ≡ false → TookIt left next over place line
    → (go : Progress asked had left old now before p n place) (rest : Text) → (over ≡ true → rest ≡ []) → lines_of (go.read ++ (whole line ++ rest)) ≡ go.lines ++ line ∷ lines_of rest
line_cut asked had left next old now before over p n place line first took go rest none =
    go.cut (whole line ++ rest) (λ b. absurd cc) ∙ ap (λ (ls : List Line). go.lines ++ ls) (lines_left left next over place line rest took none)

-- the same line, by the lines before it
fits_here : (asked : Asked) (had left next old now : Option Text) (before over : Bool) (p : Phase) (n place : ℕ) (line : Line) → TookIt left next over place line → (go : Progress asked had left old now before p n place)
    → Fits (0 + length (joined go.lines)) line
fits_here asked had left next old now before over p n place line took go =
    let at : place ≡ 0 + length (joined go.lines) = let k = go.placed in omega (arith, k) in
    subst (λ (k : ℕ). Fits k line) at took.fits

step_here : (asked : Asked) (had left old now : Option Text) (before : Bool) (p : Phase) (n place : ℕ) (go : Progress asked had left old now before p n place) (line out : Text) (next : Next) → IsStep asked true p n line out next
    → IsStep asked true p (1 + length go.lines) line out next
step_here asked had left old now before p n place go line out next is =
    let number : n ≡ 1 + length go.lines = let k = go.numbered in omega (arith, k) in
    subst (λ (k : ℕ). IsStep asked true p k line out next) number is

-- How a run goes on and ends.

-- a line was done, and the run goes on
pub stepped : (asked : Asked) (had left next old now new : Option Text) (before over : Bool) (p q : Phase) (n k place to : ℕ) (line : Line) → before ≡ false → TookIt left next over place line
    → DidStep asked p n line.bytes now new q None → k ≡ n + 1 → to ≡ place + length (whole line) → Progress asked had left old now before p n place → Progress asked had next old new over q k to
stepped asked had left next old now new before over p q n k place to line first took did e f go = record {
  read = go.read ++ whole line;
  written = go.written ++ did.0;
  lines = go.lines ++ line ∷ [];
  consumed = Consumes-trans had left next _ _ go.consumed took.consumed;
  cut = λ rest none.
      ap lines_of (append_assoc go.read (whole line) rest) ∙ line_cut asked had left next old now before over p n place line first took go rest none
      ∙ sym (append_assoc go.lines (line ∷ []) (lines_of rest));
  appended = Appends-trans old now new _ _ go.appended did.1.1;
  steps = steps_on asked Header p q 1 0 go.lines line go.written did.0 go.steps (fits_here asked had left next old now before over p n place line took go) (step_here asked had left old now before p n place go line.bytes did.0 (On q) did.1.0);
  numbered = let m = go.numbered in omega (arith, e, m, length-append go.lines (line ∷ []));
  placed = let m = go.placed in
      let more : length (joined (go.lines ++ line ∷ [])) ≡ length (joined go.lines) + length (whole line) =
      ap length (joined-append go.lines (line ∷ [])) ∙ length-append (joined go.lines) (joined (line ∷ [])) ∙ ap (λ (t : Text). length (joined go.lines) + length t) (append-nil (whole line)) in
      omega (arith, f, m, more);
}

-- the input ended
pub ended : (asked : Asked) (had left old now new : Option Text) (over : Bool) (p : Phase) (n place : ℕ) (status : Status) → IsAtEnd left → DidEnd asked p n now new status
    → Progress asked had left old now over p n place → WritesOutput asked had old new (Ended status)
ended asked had left old now new over p n place status end did go =
    let here : IsOutput asked true p n place [] did.0 (Ended status) = rw did.1.0 (refl, refl) in record {
      input = go.read ++ [];
      is_input = input_read had left go.read [] go.consumed (input_at_end left end);
      out = go.written ++ did.0;
      is_output = leads asked had left old now over p n place go [] did.0 (Ended status) (λ _. refl) here;
      appended = Appends-trans old now new _ _ go.appended did.1.1;
    }

-- a line that doesn't fit stands next
pub too_long : (asked : Asked) (had left old now : Option Text) (over : Bool) (p : Phase) (n place : ℕ) → LongNext left place → over ≡ false → Progress asked had left old now over p n place → WritesOutput asked had old now TooLong
too_long asked had left old now over p n place next first go =
    let here : IsOutput asked true p n place (lines_of next.input) [] TooLong = rw next.first (inl (next.long, refl, refl)) in record {
      input = go.read ++ next.input;
      is_input = input_read had left go.read next.input go.consumed next.is_input;
      out = go.written ++ [];
      is_output = leads asked had left old now over p n place go next.input [] TooLong (λ b. absurd cc) here;
      appended = Appends-trans old now now _ _ go.appended (Appends-nil now);
    }

-- a line was done, and the run is over
pub over_at : (asked : Asked) (had left next old now new : Option Text) (before over : Bool) (p q : Phase) (n place : ℕ) (line : Line) (status : Status) → before ≡ false → TookIt left next over place line
    → (over ≡ true → IsAtEnd next) → DidStep asked p n line.bytes now new q (Some status) → Progress asked had left old now before p n place → WritesOutput asked had old new (Ended status)
over_at asked had left next old now new before over p q n place line status first took end did go =
    let (rest, (is, none)) = some_input next over end in
    let here : IsOutput asked true p n place (lines_of (whole line ++ rest)) (did.0 ++ did.1.0) (Ended status) = rw (lines_left left next over place line rest took none) (inr (took.fits, (did.0, (Over did.1.0 status, (did.1.0, (did.1.1.0, refl, (refl, refl))))))) in record {
      input = go.read ++ (whole line ++ rest);
      is_input = input_read had left go.read (whole line ++ rest) go.consumed (input_read left next (whole line) rest took.consumed is);
      out = go.written ++ (did.0 ++ did.1.0);
      is_output = leads asked had left old now before p n place go (whole line ++ rest) _ _ (λ b. absurd cc) here;
      appended = Appends-trans old now new _ _ go.appended did.1.1.1;
    }

-- Faults: after a beginning of what may come from here on was written.
module _ (IsRead : Text → Type 0) (asked : Asked) (had left old now new : Option Text) (over : Bool) (p : Phase) (n place : ℕ) (go : Progress asked had left old now over p n place) where
  -- whatever comes then
  begun_at : (rest more : Text) (e : Ending) → (over ≡ true → rest ≡ []) → IsOutput asked true p n place (lines_of rest) more e → IsRead (go.read ++ rest) → AppendsSome now new more → WritesText IsRead (BeginsOutput asked) old new
  begun_at rest more e none o read wrote =
      let all = some_after old now new go.written more go.appended wrote in record {
        input = go.read ++ rest;
        is_input = read;
        out = all.done;
        is_output = record { output = go.written ++ more; ending = e; is_output = leads asked had left old now over p n place go rest more e none o; begins = all.begins };
        appended = all.appended;
      }

  -- where nothing comes, at the end
  begun_last : (rest : Text) → rest ≡ [] → IsRead (go.read ++ rest) → AppendsSome now new (last_text (at_end asked p n)) → WritesText IsRead (BeginsOutput asked) old new
  begun_last rest none read wrote =
      let o = ends_over asked p n in
      let here : IsOutput asked true p n place [] o.0 (Ended o.1.0) = rw o.1.1 (refl, refl) in
      begun_at rest o.0 (Ended o.1.0) (λ _. none) (subst (λ (r : Text). IsOutput asked true p n place (lines_of r) o.0 (Ended o.1.0)) (sym none) here) read (subst (λ x. AppendsSome now new (last_text x)) o.1.1 wrote)

  -- in a line
  begun_line : (line : Line) (rest out : Text) → over ≡ false → Fits place line → lines_of (whole line ++ rest) ≡ line ∷ lines_of rest → IsRead (go.read ++ (whole line ++ rest)) → (next : Next) → IsStep asked true p n line.bytes out next
      → AppendsSome now new (out ++ last_text next) → WritesText IsRead (BeginsOutput asked) old new
  begun_line line rest out first fits parts read (On q) is w =
      let o = some_output asked true q (n + 1) (place + length (whole line)) (lines_of rest) in
      let here : IsOutput asked true p n place (lines_of (whole line ++ rest)) (out ++ o.0) o.1.0 = rw parts (inr (fits, (out, (On q, (o.0, (is, refl, o.1.1)))))) in
      begun_at (whole line ++ rest) _ _ (λ b. absurd cc) here read (some_front now new out o.0 (subst (λ (t : Text). AppendsSome now new t) (append-nil out) w))
  begun_line line rest out first fits parts read (Over text status) is w =
      let here : IsOutput asked true p n place (lines_of (whole line ++ rest)) (out ++ text) (Ended status) = rw parts (inr (fits, (out, (Over text status, (text, (is, refl, (refl, refl))))))) in
      begun_at (whole line ++ rest) _ _ (λ b. absurd cc) here read w

-- Of all that the reader had.

pub begun_before : (asked : Asked) (had left old now : Option Text) (over : Bool) (p : Phase) (n place : ℕ) → (over ≡ true → IsAtEnd left) → Progress asked had left old now over p n place → WritesBeginning asked had old now
begun_before asked had left old now over p n place end go =
    let (rest, (is, none)) = some_input left over end in
    let o = some_output asked true p n place (lines_of rest) in
    begun_at (IsInput had) asked had left old now now over p n place go rest o.0 o.1.0 none o.1.1 (input_read had left go.read rest go.consumed is) (some_nothing now o.0)

pub begun_ending : (asked : Asked) (had left old now new : Option Text) (over : Bool) (p : Phase) (n place : ℕ) → IsAtEnd left → AppendsSome now new (last_text (at_end asked p n))
    → Progress asked had left old now over p n place → WritesBeginning asked had old new
begun_ending asked had left old now new over p n place end wrote go = begun_last (IsInput had) asked had left old now new over p n place go [] refl (input_read had left go.read [] go.consumed (input_at_end left end)) wrote

pub begun_in : (asked : Asked) (had left next old now new : Option Text) (before over : Bool) (p : Phase) (n place : ℕ) (line : Line) → before ≡ false → TookIt left next over place line
    → (over ≡ true → IsAtEnd next) → DidSome asked p n line.bytes now new → Progress asked had left old now before p n place → WritesBeginning asked had old new
begun_in asked had left next old now new before over p n place line first took end did go =
    let (rest, (is, none)) = some_input next over end in
    begun_line (IsInput had) asked had left old now new before p n place go line rest did.0 first took.fits (lines_left left next over place line rest took none)
    (input_read had left go.read (whole line ++ rest) go.consumed (input_read left next (whole line) rest took.consumed is)) did.1.0 did.1.1.0 did.1.1.1

-- Of what was read.

pub fault_before : (asked : Asked) (had left has old now : Option Text) (ahead : Text) (over : Bool) (p : Phase) (n place : ℕ) → Keeps left (prepend_known ahead has) → (over ≡ true → IsAtEnd left)
    → Progress asked had left old now over p n place → WritesSome asked had has old now
fault_before asked had left has old now ahead over p n place k end go =
    let (rest, (took, none)) = ahead_read left has ahead over k end in
    let o = some_output asked true p n place (lines_of rest) in
    begun_at (Consumes had has) asked had left old now now over p n place go rest o.0 o.1.0 none o.1.1 (Consumes-trans had left has _ _ go.consumed took) (some_nothing now o.0)

pub fault_ending : (asked : Asked) (had left has old now new : Option Text) (ahead : Text) (over : Bool) (p : Phase) (n place : ℕ) → Keeps left (prepend_known ahead has) → IsAtEnd left
    → AppendsSome now new (last_text (at_end asked p n)) → Progress asked had left old now over p n place → WritesSome asked had has old new
fault_ending asked had left has old now new ahead over p n place k end wrote go =
    let (rest, (took, none)) = ahead_read left has ahead true k (λ _. end) in
    begun_last (Consumes had has) asked had left old now new over p n place go rest (none refl) (Consumes-trans had left has _ _ go.consumed took) wrote

pub fault_in : (asked : Asked) (had left has old now new : Option Text) (ahead : Text) (before over : Bool) (p : Phase) (n place : ℕ) (line : Line) → before ≡ false → TookIt left (prepend_known ahead has) over place line
    → (over ≡ true → IsAtEnd (prepend_known ahead has)) → DidSome asked p n line.bytes now new → Progress asked had left old now before p n place → WritesSome asked had has old new
fault_in asked had left has old now new ahead before over p n place line first took end did go =
    let (rest, (ate, none)) = ahead_read (prepend_known ahead has) has ahead over (Keeps-refl (prepend_known ahead has)) end in
    let all : Consumes left has (whole line ++ rest) = Consumes-trans left (prepend_known ahead has) has _ _ took.consumed ate in
    begun_line (Consumes had has) asked had left old now new before p n place go line rest did.0 first took.fits (lines_left left (prepend_known ahead has) over place line rest took none)
    (Consumes-trans had left has _ _ go.consumed all) did.1.0 did.1.1.0 did.1.1.1
