use Rattle.std.proofs.Common.{◌≡◌, eqb, drop, find}
use Rattle.balise_rules.specs.Paths.{Entry}
use Rattle.balise_facts.proofs.edits.put_one.Given as goal

abbrev pub invariant-loop-entry : goal.invariant-loop-entry
invariant-loop-entry g l = record {
  untouched : l.writer ≡ l.fn.writer;
  left : find (λ (e : Entry). eqb l.serial e.0.0) l.standing ≡ find (λ (e : Entry). eqb l.serial e.0.0)
      (drop l.entry-index l.standing);
}
