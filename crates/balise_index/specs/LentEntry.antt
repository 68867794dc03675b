-- What an ordered map ends as, once a `&mut` to one of its values has ended.
use Rattle.std.specs.Prelude.{◌≡◌, Option}
use Rattle.std.specs.Borrow.{Fml, MutBor, LendsSo, RattleType}
use Rattle.std.specs.Map.{set_value}
use Rattle.balise_rules.specs.declared.tag.Tag.{Tag}
use Rattle.balise_rules.specs.Tags.{same_tag}
use Rattle.balise_index.specs.InOrder.{OrderedMap}
use Rattle.balise_index.specs.contracts.ordered_map.OrderedMap.{the_row}

module _ (V : RattleType) where
  -- the value under the tag is what was last written to it, and where there is none all stays
  abbrev pub lends_entry : MutBor (the_row V).Denot → Tag → Option (MutBor V.Denot) → Fml
  lends_entry s g r = LendsSo (the_row V) V s r (λ (n : OrderedMap V.Denot) w. n.entries ≡ set_value (same_tag g) s.now.entries w) (λ (n : OrderedMap V.Denot). n.entries ≡ s.now.entries)
