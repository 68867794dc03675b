use Rattle.std.proofs.Common.{rules, ◌≡◌, length, ap, arith}
use Rattle.std.specs.Io.KnownBytes.{Keeps, prepend_known}
use Rattle.balise_lines.specs.LineBuffer.{held, Sees}
use Rattle.balise_lines.specs.Reading.{left}
use Rattle.balise_lines.specs.declared.line_buffer.Look.TheVariants.{Line, Last, TooLong}
use Rattle.balise_lines.proofs.LongLines.{long_front, long_last, long_line}
use Rattle.balise_lines.proofs.TakenLines.{on_any, took_ended}
use Rattle.balise_lines.proofs.lines.Lines.next.Goals as goal
use Rattle.balise_lines.proofs.lines.Lines.next.Goals.{After-look}

-- what is left to be read, with the bytes that were looked at in front
kept_front : (g : _) (c : After-look g) → Keeps (left c.args.self.now (g.R.Read.remaining c.args.reader.now.inner)) (prepend_known (held c.look.new.self) (g.R.Read.remaining c.look.new.reader.inner))
kept_front g c = search rules

pub returns-in_err-take_line-in-Ok-Last-clause-long : goal.returns-in_err-take_line-in-Ok-Last-clause-long
returns-in_err-take_line-in-Ok-Last-clause-long g c =
    let bytes = held c.look.new.self in
    let rest = g.R.Read.remaining c.look.new.reader.inner in
    let seen : Sees Last bytes rest = rw c.in-Ok-Last.field-0-is at c.in-Ok-Last.ensures.sees in
    let size : length c.as_slice-len.result.now ≡ length bytes = ap length c.as_slice-len.ensures.value in
    let long = c.in_err-take_line-in-Ok-Last.ensures.long in
    λ _. long_last _ rest bytes _ (kept_front g (goal.at.returns-in_err-take_line-in-Ok-Last-clause-long g c).After-look) seen.2 seen.0 seen.3 (omega (arith, long))

pub returns-in_err-take_line-in-Ok-Last-clause-kept : goal.returns-in_err-take_line-in-Ok-Last-clause-kept
returns-in_err-take_line-in-Ok-Last-clause-kept g c =
    let rest = g.R.Read.remaining c.look.new.reader.inner in
    let same = c.in_err-take_line-in-Ok-Last.ensures.same in
    let k : Keeps (left c.args.self.now (g.R.Read.remaining c.args.reader.now.inner)) (left c.take_line.new.self rest) = rw same (search rules) in
    on_any c.from_residual.result _ k

pub returns-in_err-take_line-in-Ok-Line-clause-long : goal.returns-in_err-take_line-in-Ok-Line-clause-long
returns-in_err-take_line-in-Ok-Line-clause-long g c =
    let bytes = held c.look.new.self in
    let rest = g.R.Read.remaining c.look.new.reader.inner in
    let seen : Sees (Line c.in-Ok-Line.len) bytes rest = rw c.in-Ok-Line.field-0-is at c.in-Ok-Line.ensures.sees in
    let long = c.in_err-take_line-in-Ok-Line.ensures.long in
    λ _. long_line _ rest bytes c.in-Ok-Line.len _ (kept_front g (goal.at.returns-in_err-take_line-in-Ok-Line-clause-long g c).After-look) seen.1 (omega (arith, long))

pub returns-in_err-take_line-in-Ok-Line-clause-kept : goal.returns-in_err-take_line-in-Ok-Line-clause-kept
returns-in_err-take_line-in-Ok-Line-clause-kept g c =
    let rest = g.R.Read.remaining c.look.new.reader.inner in
    let same = c.in_err-take_line-in-Ok-Line.ensures.same in
    let k : Keeps (left c.args.self.now (g.R.Read.remaining c.args.reader.now.inner)) (left c.take_line-in-Ok-Line.new.self rest) = rw same (search rules) in
    on_any c.from_residual-in_err-take_line-in-Ok-Line.result _ k

pub returns-in-Ok-TooLong-clause-long : goal.returns-in-Ok-TooLong-clause-long
returns-in-Ok-TooLong-clause-long g c =
    let bytes = held c.look.new.self in
    let rest = g.R.Read.remaining c.look.new.reader.inner in
    let seen : Sees TooLong bytes rest = rw c.in-Ok-TooLong.field-0-is at c.in-Ok-TooLong.ensures.sees in
    let size : length bytes ≡ 4097 = seen.0 in
    λ _. long_front _ rest bytes _ (kept_front g (goal.at.returns-in-Ok-TooLong-clause-long g c).After-look) seen.1 (omega arith)

pub returns-in_ok-take_line-in-Ok-Line-clause-took : goal.returns-in_ok-take_line-in-Ok-Line-clause-took
returns-in_ok-take_line-in-Ok-Line-clause-took g c =
    let bytes = held c.look.new.self in
    let rest = g.R.Read.remaining c.look.new.reader.inner in
    let seen : Sees (Line c.in-Ok-Line.len) bytes rest = rw c.in-Ok-Line.field-0-is at c.in-Ok-Line.ensures.sees in
    let took = c.in_ok-take_line-in-Ok-Line.ensures in
    took_ended _ _ _ rest bytes c.in-Ok-Line.len (kept_front g (goal.at.returns-in_ok-take_line-in-Ok-Line-clause-took g c).After-look) seen.1 seen.0 (search rules) (took.line.0, took.line.1) (search rules) (search rules) (search rules) (search rules) (search rules)

pub returns-in-Err-clause-took : goal.returns-in-Err-clause-took
returns-in-Err-clause-took c = search rules

pub returns-in-Err-clause-unfailed : goal.returns-in-Err-clause-unfailed
returns-in-Err-clause-unfailed c = search rules
