-- What a list ends as, once a `&mut` to one of its items has ended: what was last written to it stands there.
use Rattle.std.specs.Prelude.{ℕ}
use Rattle.std.specs.Borrow.{Fml, MutBor, Lends, RattleType}
use Rattle.balise_plan.specs.OneOrMore.{held_with, item_set}
use Rattle.balise_plan.specs.contracts.one_or_more.OneOrMore.{the_row}
use Rattle.balise_plan.specs.contracts.one_or_more.Held as held

module _ (T : RattleType) where
  abbrev pub lends_held : MutBor (held.the_row T).Denot → ℕ → MutBor T.Denot → Fml
  lends_held s i r = Lends (held.the_row T) T s r (held_with s.now i)

  abbrev pub lends_item : MutBor (the_row T).Denot → ℕ → MutBor T.Denot → Fml
  lends_item s i r = Lends (the_row T) T s r (item_set s.now i)
