-- What was read where a run ends, and what of it was done.
use Rattle.std.proofs.Common.{◌≡◌, ℕ, ◌≤◌, List, [], ◌∷◌, ◌++◌, Bool, true, false, length, Option, Some, refl, sym, subst, arith, append-nil}
use Rattle.std.proofs.lemmas.List.Elements.{All-nil}
use Rattle.std.specs.Io.KnownBytes.{Appends, Consumes, IsAtEnd, Keeps, prepend_known}
use Rattle.std.proofs.KnownBytes.{Appends-trans, Consumes-trans, Keeps-refl}
use Rattle.balise_lines.specs.Laws.{joined}
use Rattle.balise_lines.specs.Lines.{HasNoEnd, Line, lines_of, whole}
use Rattle.balise_lines.specs.Writing.{AppendsPart}
use Rattle.balise_lines.proofs.FirstLines.{lines_of-open}
use Rattle.balise_lines.proofs.InputsLeft.{ahead_read, ahead_such}
use Rattle.balise_lines.proofs.JoinedLines.{lines_make_input}
use Rattle.balise_cli.specs.declared.asked.Asked.{Asked}
use Rattle.balise_text.specs.Texts.{Text}
use Rattle.balise_cli.specs.Ends.{ComesToEnd, DidLines, FailsToWrite, NoneComplete, RunsOutOfMemory}
use Rattle.balise_cli.specs.Phases.{DidPart, DidStep, WrittenOfEnd, WrittenOfLine, WroteSuch, last_text}
use Rattle.balise_cli.specs.Progress.{Progress}
use Rattle.balise_cli.specs.Output.{Phase, at_end}
use Rattle.balise_cli.specs.declared.status.Status.{Status}
use Rattle.balise_cli.proofs.LineByLine.{DidEnd, TookIt, line_cut}

-- the input ended, and this was written then
at_input_end : (asked : Asked) (had left has old now new : Option Text) (ahead : Text) (over : Bool) (p : Phase) (n place : ℕ) (P : Phase → ℕ → List Line → Text → Type 0) (last : Text) → Keeps left (prepend_known ahead has) → IsAtEnd left
    → P p n [] last → Appends now new last → Progress asked had left old now over p n place → DidLines asked had has old new P
at_input_end asked had left has old now new ahead over p n place P last k end ends wrote go =
    let (rest, (took, none)) = ahead_read left has ahead true k (λ _. end) in
    let gone : Consumes left has [] = subst (λ (r : Text). Consumes left has r) (none refl) took in record {
      input = go.read ++ [];
      is_input = Consumes-trans had left has _ _ go.consumed gone;
      out = go.written ++ last;
      is_output = record { done = go.lines; behind = []; cut = go.cut [] (λ _. refl); printed = go.written; phase = p; steps = go.steps; last = last; ends = subst (λ (m : ℕ). P p m [] last) go.numbered ends; parts = refl };
      appended = Appends-trans old now new _ _ go.appended wrote;
    }

-- the run ended in a line, and this was written then
at_line : (asked : Asked) (had left has old now new : Option Text) (ahead : Text) (before over : Bool) (p : Phase) (n place : ℕ) (line : Line) (P : Phase → ℕ → List Line → Text → Type 0) (last : Text) → before ≡ false
    → TookIt left (prepend_known ahead has) over place line → length ahead ≤ 4097 → (over ≡ true → IsAtEnd (prepend_known ahead has)) → ((behind : List Line) → length (joined behind) ≤ 4097 → P p n (line ∷ behind) last) → Appends now new last
    → Progress asked had left old now before p n place → DidLines asked had has old new P
at_line asked had left has old now new ahead before over p n place line P last first took few end ends wrote go =
    let (rest, (ate, none, short)) = ahead_such (λ xs. length xs ≤ 4097) (prepend_known ahead has) has ahead over (Keeps-refl (prepend_known ahead has)) end (omega arith) few in
    let all : Consumes left has (whole line ++ rest) = Consumes-trans left (prepend_known ahead has) has _ _ took.consumed ate in
    let little : length (joined (lines_of rest)) ≤ 4097 = subst (λ (r : Text). length r ≤ 4097) (sym (lines_make_input rest).0) short in record {
      input = go.read ++ (whole line ++ rest);
      is_input = Consumes-trans had left has _ _ go.consumed all;
      out = go.written ++ last;
      is_output = record { done = go.lines; behind = line ∷ lines_of rest; cut = line_cut asked had left (prepend_known ahead has) old now before over p n place line first took go rest none; printed = go.written; phase = p; steps = go.steps; last = last; ends = subst (λ (m : ℕ). P p m (line ∷ lines_of rest) last) go.numbered (ends (lines_of rest) little); parts = refl };
      appended = Appends-trans old now new _ _ go.appended wrote;
    }

-- the input ended
pub input_ended : (asked : Asked) (had left has old now new : Option Text) (ahead : Text) (over : Bool) (p : Phase) (n place : ℕ) (status : Status) → Keeps left (prepend_known ahead has) → IsAtEnd left → IsAtEnd has
    → DidEnd asked p n now new status → Progress asked had left old now over p n place → DidLines asked had has old new (ComesToEnd asked has status)
input_ended asked had left has old now new ahead over p n place status k end all did go =
    at_input_end asked had left has old now new ahead over p n place (ComesToEnd asked has status) did.0 k end (all, did.1.0) did.1.1 go

-- a line ended the run
pub line_ended : (asked : Asked) (had left has old now new : Option Text) (ahead : Text) (before over : Bool) (p q : Phase) (n place : ℕ) (line : Line) (status : Status) → before ≡ false
    → TookIt left (prepend_known ahead has) over place line → length ahead ≤ 4097 → (over ≡ true → IsAtEnd (prepend_known ahead has)) → DidStep asked p n line.bytes now new q (Some status)
    → Progress asked had left old now before p n place → DidLines asked had has old new (ComesToEnd asked has status)
line_ended asked had left has old now new ahead before over p q n place line status first took few end did go =
    at_line asked had left has old now new ahead before over p n place line (ComesToEnd asked has status) (did.0 ++ did.1.0) first took few end (λ behind little. (little, (did.0, (did.1.0, (did.1.1.0, refl))))) did.1.1.1 go

-- the reader failed, and no line ends in what was read ahead
pub reader_failed : (asked : Asked) (had left has old now : Option Text) (ahead : Text) (over : Bool) (p : Phase) (n place : ℕ) → Keeps left (prepend_known ahead has) → (over ≡ true → IsAtEnd left) → HasNoEnd ahead
    → Progress asked had left old now over p n place → DidLines asked had has old now NoneComplete
reader_failed asked had left has old now ahead over p n place k end short go =
    let (rest, (took, none, still)) = ahead_such HasNoEnd left has ahead over k end (All-nil (λ b. b ≡ 10 → ⊥)) short in record {
      input = go.read ++ rest;
      is_input = Consumes-trans had left has _ _ go.consumed took;
      out = go.written;
      is_output = record { done = go.lines; behind = lines_of rest; cut = go.cut rest none; printed = go.written; phase = p; steps = go.steps; last = []; ends = (lines_of-open rest still, refl); parts = sym (append-nil go.written) };
      appended = go.appended;
    }

-- memory ran out at the input's end
pub end_ran_out : (asked : Asked) (had left has old now new : Option Text) (ahead : Text) (over : Bool) (p : Phase) (n place : ℕ) → Keeps left (prepend_known ahead has) → IsAtEnd left → IsAtEnd has
    → WroteSuch (WrittenOfEnd asked p) now new → Progress asked had left old now over p n place → DidLines asked had has old new (RunsOutOfMemory asked has)
end_ran_out asked had left has old now new ahead over p n place k end all wants go =
    at_input_end asked had left has old now new ahead over p n place (RunsOutOfMemory asked has) wants.0 k end (all, wants.1.0) wants.1.1 go

-- memory ran out in a line
pub line_ran_out : (asked : Asked) (had left has old now new : Option Text) (ahead : Text) (before over : Bool) (p : Phase) (n place : ℕ) (line : Line) → before ≡ false → TookIt left (prepend_known ahead has) over place line
    → length ahead ≤ 4097 → (over ≡ true → IsAtEnd (prepend_known ahead has)) → WroteSuch (WrittenOfLine asked p n line.bytes) now new → Progress asked had left old now before p n place → DidLines asked had has old new (RunsOutOfMemory asked has)
line_ran_out asked had left has old now new ahead before over p n place line first took few end wants go =
    at_line asked had left has old now new ahead before over p n place line (RunsOutOfMemory asked has) wants.0 first took few end (λ behind little. (little, wants.1.0)) wants.1.1 go

-- the writer failed in what the input's end prints
pub end_unwritten : (asked : Asked) (had left has old now new : Option Text) (ahead : Text) (over : Bool) (p : Phase) (n place : ℕ) → Keeps left (prepend_known ahead has) → IsAtEnd left → IsAtEnd has
    → AppendsPart now new (last_text (at_end asked p n)) → Progress asked had left old now over p n place → DidLines asked had has old new (FailsToWrite asked has)
end_unwritten asked had left has old now new ahead over p n place k end all wrote go =
    at_input_end asked had left has old now new ahead over p n place (FailsToWrite asked has) wrote.0.done k end (all, (wrote.0.begins.0, (wrote.0.begins.1, wrote.1))) wrote.0.appended go

-- it failed in what a line prints
pub line_unwritten : (asked : Asked) (had left has old now new : Option Text) (ahead : Text) (before over : Bool) (p : Phase) (n place : ℕ) (line : Line) → before ≡ false → TookIt left (prepend_known ahead has) over place line
    → length ahead ≤ 4097 → (over ≡ true → IsAtEnd (prepend_known ahead has)) → DidPart asked p n line.bytes now new → Progress asked had left old now before p n place → DidLines asked had has old new (FailsToWrite asked has)
line_unwritten asked had left has old now new ahead before over p n place line first took few end (printed, (next, (is, (wrote, some)))) go =
    at_line asked had left has old now new ahead before over p n place line (FailsToWrite asked has) wrote.done first took few end (λ behind little. (little, (printed, (next, (is, (wrote.begins.0, (wrote.begins.1, some))))))) wrote.appended go
