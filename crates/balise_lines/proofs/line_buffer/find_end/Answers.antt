use Rattle.std.proofs.lemmas.List.{take_rest}
use Rattle.balise_lines.proofs.LineEnds.{none_found, found_at}
use Rattle.balise_lines.proofs.line_buffer.find_end.Goals as goal

pub returns-in_err-found : goal.returns-in_err-found
returns-in_err-found c =
    rw c.from_residual.ensures (none_found _ _ c.args.searched (take_rest c.args.bytes.now c.args.searched) c.requires.none c.in_err-found.ensures)

pub returns : goal.returns
returns c =
    let found = c.in_ok-found.ensures in
    found_at _ _ c.args.searched c.in_ok-found.found (take_rest c.args.bytes.now c.args.searched) c.requires.none found.0 found.1
