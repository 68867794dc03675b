use Rattle.std.proofs.Common.{rules, codes, sym, ap, arith}
use Rattle.std.proofs.lemmas.Slice.Eq.{text_from_reads}
use Rattle.balise_text.specs.Kinds.{kind_of}
use Rattle.balise_text.proofs.kind.read_kind.Goals as goal

pub returns-in-insert : goal.returns-in-insert
returns-in-insert c = ap kind_of (sym (text_from_reads c.args.word.now (codes "insert") (omega (arith, c.in-insert.len_at_least, c.in-insert.len_below)) (search rules)))

pub returns-in-delete : goal.returns-in-delete
returns-in-delete c = ap kind_of (sym (text_from_reads c.args.word.now (codes "delete") (omega (arith, c.in-delete.len_at_least, c.in-delete.len_below)) (search rules)))

pub returns-in-renumber : goal.returns-in-renumber
returns-in-renumber c = ap kind_of (sym (text_from_reads c.args.word.now (codes "renumber") (omega (arith, c.in-renumber.len_at_least, c.in-renumber.len_below)) (search rules)))
