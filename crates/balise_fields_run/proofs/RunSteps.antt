-- What a run keeps from line to line, and how it ends, whatever its lines come to.
use Rattle.std.proofs.Common.{◌≡◌, ◌∙◌, ◌||◌, ◌≤◌, ◌+◌, ℕ, Bool, true, false, not, List, [], ◌∷◌, ◌++◌, length, Option, refl, sym, ap, subst, arith, append_assoc, append-nil, length-append}
use Rattle.std.proofs.lemmas.List.Elements.{All-nil}
use Rattle.std.specs.Io.KnownBytes.{Appends, Consumes, IsAtEnd, Keeps}
use Rattle.std.proofs.KnownBytes.{Appends-nil, Appends-trans, Consumes-nil, Consumes-trans, Keeps-refl}
use Rattle.balise_lines.specs.Laws.{joined}
use Rattle.balise_lines.specs.Lines.{Fits, HasNoEnd, Line, lines_of, whole}
use Rattle.balise_lines.specs.Reading.{LongNext, OverAtEnd, TookLine, TookNone, ahead, is_over, left, place_of}
use Rattle.balise_lines.specs.declared.lines.Lines.{Lines}
use Rattle.balise_lines.proofs.FirstLines.{lines_of-open}
use Rattle.balise_lines.proofs.HeldBytes.{ahead_few}
use Rattle.balise_lines.proofs.InputsLeft.{ahead_read, ahead_such, input_read, left_at_first, lines_of-line, reader_ended}
use Rattle.balise_lines.proofs.JoinedLines.{lines_make_input}
use Rattle.balise_text.specs.Texts.{Text}
use Rattle.balise_fields_run.specs.Runs.{DidLines, EndsAfter, LongAfter, NoneComplete, StopsAtLong}

-- These lines have come, one after another; whatever comes after them are further lines, and after a last line without an
-- end nothing comes.
pub record Progress (Comes : List Line → Text → Bool → Type 0) (had left old now : Option Text) (over : Bool) (place : ℕ) (refused : Bool) : Type 0 where
  pub read : Text
  pub written : Text
  pub lines : List Line
  pub consumed : Consumes had left read
  pub cut : (rest : Text) → (over ≡ true → rest ≡ []) → lines_of (read ++ rest) ≡ lines ++ lines_of rest
  pub appended : Appends old now written
  pub comes : Comes lines written refused
  pub placed : place ≡ length (joined lines)

-- a run has come so far, before the next line
abbrev pub HasCome : (List Line → Text → Bool → Type 0) → Option Text → Option Text → Lines → Option Text → Option Text → Bool → Type 0
HasCome Comes had old lines has now refused = Progress Comes had (left lines has) old now (is_over lines) (place_of lines) refused

pub joined-append : (lines more : List Line) → joined (lines ++ more) ≡ joined lines ++ joined more
joined-append [] more = refl
joined-append (line ∷ lines) more = ap (λ (t : Text). whole line ++ t) (joined-append lines more) ∙ sym (append_assoc (whole line) (joined lines) (joined more))

-- at first
unfoldable pub at_first : (Comes : List Line → Text → Bool → Type 0) (had old : Option Text) (lines : Lines) → Comes [] [] false → ahead lines ≡ [] → place_of lines ≡ 0 → HasCome Comes had old lines had old false
at_first Comes had old lines none a e = record {
  read = [];
  written = [];
  lines = [];
  consumed = subst (λ t. Consumes had t []) (sym (left_at_first lines had a)) (Consumes-nil had);
  cut = λ rest none. refl;
  appended = Appends-nil old;
  comes = none;
  placed = e;
}

module _ (Comes : List Line → Text → Bool → Type 0) (had old now : Option Text) (l m : Lines) (before has : Option Text) (refused : Bool) (go : HasCome Comes had old l before now refused) where
  -- A line was taken.
  module _ (line : Line) (took : TookLine l before line m has) where
    pub after : (rest : Text) → (is_over m ≡ true → rest ≡ []) → lines_of (go.read ++ (whole line ++ rest)) ≡ go.lines ++ line ∷ lines_of rest
    after rest none =
        go.cut (whole line ++ rest) (λ b. let f = sym took.before ∙ b in absurd cc) ∙ ap (λ (ls : List Line). go.lines ++ ls) (lines_of-line line rest took.is_line (λ f. none (took.over ∙ ap not f)))

    pub here : Fits (0 + length (joined go.lines)) line
    here = let at : place_of l ≡ 0 + length (joined go.lines) = let k = go.placed in omega (arith, k) in subst (λ (k : ℕ). Fits k line) at took.fits

    -- this was written for it
    unfoldable pub one_more : (new : Option Text) (out : Text) (bad : Bool) → Comes (go.lines ++ line ∷ []) (go.written ++ out) (refused || bad) → Appends now new out → HasCome Comes had old m has new (refused || bad)
    one_more new out bad comes wrote = record {
      read = go.read ++ whole line;
      written = go.written ++ out;
      lines = go.lines ++ line ∷ [];
      consumed = Consumes-trans had (left l before) (left m has) _ _ go.consumed took.consumed;
      cut = λ rest none. ap lines_of (append_assoc go.read (whole line) rest) ∙ after rest none ∙ sym (append_assoc go.lines (line ∷ []) (lines_of rest));
      appended = Appends-trans old now new _ _ go.appended wrote;
      comes = comes;
      placed = let k = go.placed in
          let more : length (joined (go.lines ++ line ∷ [])) ≡ length (joined go.lines) + length (whole line) =
          ap length (joined-append go.lines (line ∷ [])) ∙ length-append (joined go.lines) (joined (line ∷ [])) ∙ ap (λ (t : Text). length (joined go.lines) + length t) (append-nil (whole line)) in
          omega (arith, took.placed, k, more);
    }

    -- the lines before it were the last that have come
    pub stopped : OverAtEnd m has → (new : Option Text) (P : List Line → List Line → Text → Bool → Type 0) (last : Text) → ((behind : List Line) → length (joined behind) ≤ 4097 → P go.lines (line ∷ behind) last refused) → Appends now new last → DidLines Comes had has old new P
    stopped end new P last ends wrote =
        let (rest, (ate, none, short)) = ahead_such (λ xs. length xs ≤ 4097) (left m has) has (ahead m) (is_over m) (Keeps-refl (left m has)) end (omega arith) (ahead_few m) in
        let all : Consumes (left l before) has (whole line ++ rest) = Consumes-trans (left l before) (left m has) has _ _ took.consumed ate in
        let e : EndsAfter Comes had has P = record {
          read = go.read ++ (whole line ++ rest);
          consumed = Consumes-trans had (left l before) has _ _ go.consumed all;
          done = go.lines;
          behind = line ∷ lines_of rest;
          cut = after rest none;
          out = go.written;
          refused = refused;
          comes = go.comes;
          last = last;
          ends = ends (lines_of rest) (subst (λ (r : Text). length r ≤ 4097) (sym (lines_make_input rest).0) short);
        } in
        (e, Appends-trans old now new go.written last go.appended wrote)

  -- The input ended.
  pub at_end : TookNone l before m has → OverAtEnd m has → (new : Option Text) (P : List Line → List Line → Text → Bool → Type 0) (last : Text) → (IsAtEnd has → P go.lines [] last refused) → Appends now new last → DidLines Comes had has old new P
  at_end took end new P last ends wrote =
      let (rest, (gone, none)) = ahead_read (left l before) has (ahead m) true took.kept (λ _. took.at_end) in
      let all : Consumes (left l before) has [] = subst (λ (r : Text). Consumes (left l before) has r) (none refl) gone in
      let e : EndsAfter Comes had has P = record {
        read = go.read ++ [];
        consumed = Consumes-trans had (left l before) has _ _ go.consumed all;
        done = go.lines;
        behind = [];
        cut = go.cut [] (λ _. refl);
        out = go.written;
        refused = refused;
        comes = go.comes;
        last = last;
        ends = ends (reader_ended has (ahead m) (end took.over));
      } in
      (e, Appends-trans old now new go.written last go.appended wrote)

  -- No line was taken.
  pub long_ahead : LongNext (left l before) (place_of l) → is_over l ≡ false → StopsAtLong Comes had old now
  long_ahead next first =
      let e : LongAfter Comes had = record {
        input = go.read ++ next.input;
        is_input = input_read had (left l before) go.read next.input go.consumed next.is_input;
        done = go.lines;
        line = next.line;
        behind = next.lines;
        cut = go.cut next.input (λ b. let f = sym first ∙ b in absurd cc) ∙ ap (λ (ls : List Line). go.lines ++ ls) next.first;
        out = go.written;
        refused = refused;
        comes = go.comes;
        long = subst (λ (k : ℕ). ¬ Fits k next.line) go.placed next.long;
      } in
      (e, go.appended)

  pub failed_ahead : HasNoEnd (ahead m) → Keeps (left l before) (left m has) → OverAtEnd l before → DidLines Comes had has old now NoneComplete
  failed_ahead short k end =
      let (rest, (took, none, still)) = ahead_such HasNoEnd (left l before) has (ahead m) (is_over l) k end (All-nil (λ b. b ≡ 10 → ⊥)) short in
      let e : EndsAfter Comes had has NoneComplete = record {
        read = go.read ++ rest;
        consumed = Consumes-trans had (left l before) has _ _ go.consumed took;
        done = go.lines;
        behind = lines_of rest;
        cut = go.cut rest none;
        out = go.written;
        refused = refused;
        comes = go.comes;
        last = [];
        ends = (lines_of-open rest still, refl);
      } in
      (e, subst (λ (t : Text). Appends old now t) (sym (append-nil go.written)) go.appended)
