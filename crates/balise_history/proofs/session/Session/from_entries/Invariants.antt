use Rattle.std.proofs.Common.{◌≡◌, ◌+◌, drop, map, take, vec_len}
use Rattle.std.specs.Prelude.{Ok}
use Rattle.balise_commands.specs.Lines.{line_in}
use Rattle.balise_rules.specs.Opening.{from_entries, with_entries}
use Rattle.balise_history.proofs.session.Session.from_entries.Given as goal

abbrev pub invariant-loop-line : goal.invariant-loop-line
invariant-loop-line l = record {
  rest : from_entries l.fn.plan.groups l.fn.next (map line_in l.fn.lines.items) ≡ with_entries l.place (map line_in l.line-iterator.rest.items) l.opening.state;
  before : from_entries l.fn.plan.groups l.fn.next (take l.place (map line_in l.fn.lines.items)) ≡ Ok l.opening.state;
  left_is : drop l.place (map line_in l.fn.lines.items) ≡ map line_in l.line-iterator.rest.items;
  changes : l.opening.changes ≡ l.fn.plan.changes + l.place;
  left : l.place + l.line-iterator.rest.len ≡ vec_len l.fn.lines;
}
