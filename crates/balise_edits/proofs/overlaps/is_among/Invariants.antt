use Rattle.std.proofs.Common.{◌≡◌, drop, [], ◌∷◌}
use Rattle.balise_rules.specs.Paths.{ids, meets_any, Whose}
use Rattle.balise_edits.proofs.overlaps.is_among.Given as goal

abbrev pub invariant-loop-other : goal.invariant-loop-other
invariant-loop-other l = meets_any (Whose l.name ∷ []) (ids l.others) ≡ meets_any (Whose l.name ∷ []) (ids (drop l.other-index l.others))
