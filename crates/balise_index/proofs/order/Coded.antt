-- What a map holds under a tag whose code is known, before and after it changes there.
use Rattle.std.proofs.Common.{◌≡◌, ◌∙◌, ◌<◌, ◌≤◌, ℕ, false, cond, List, Option, Some, None, insert, arith, length, position, remove, sym, ap, subst}
use Rattle.std.specs.Prelude.{eqb}
use Rattle.std.specs.Map.{keys_of, remove_entry, set_value}
use Rattle.balise_rules.specs.declared.tag.Tag.{Tag}
use Rattle.balise_rules.specs.Tagged.{find}
use Rattle.balise_rules.specs.Tags.{same_tag}
use Rattle.balise_index.specs.TagCode.{OneCode}
use Rattle.balise_index.specs.InOrder.{in_order, is_among, tagged, HoldsKnown, IsOrder}
use Rattle.balise_index.proofs.order.Entries.{all_there, among-none, found-order, keys-order, length-order}
use Rattle.balise_index.proofs.order.Held.{find-change, find-code, known-change, known-set, set-code, IsCode}
use Rattle.balise_index.proofs.order.Put.{insert-order, order-put}
use Rattle.balise_index.proofs.order.Taken.{not-none, order-out, place-within, remove-order, stands-at, StandsAt}
use Rattle.balise_index.proofs.order.Written.{order-set, set-order}

-- the entries are what is held under codes, in the order of the tags, and c is the code of g
pub record Coded {A : Type 0} (rare : List Tag) (held : List (ℕ × A)) (gs : List Tag) (entries : List (Tag × A)) (c : ℕ) (g : Tag) : Type 0 where
  pub one : OneCode rare
  pub is : IsCode rare c g
  pub kept : IsOrder (tagged rare held) gs × HoldsKnown rare held
  pub view : in_order (tagged rare held) gs ≡ entries

module _ {A : Type 0} {rare : List Tag} {held : List (ℕ × A)} {gs : List Tag} {entries : List (Tag × A)} {c : ℕ} {g : Tag} (code : Coded rare held gs entries c g) where
  -- what is found under the tag stands under its code
  pub find-held : find same_tag g entries ≡ find eqb c held
  find-held = sym (ap (find same_tag g) code.view) ∙ found-order (tagged rare held) gs g code.kept.0 ∙ find-code rare code.one c g code.is held code.kept.1

  -- another value was written
  module _ (new : List (ℕ × A)) (w : A) (e : new ≡ set_value (eqb c) held w) where
    tagged_set : tagged rare new ≡ set_value (same_tag g) (tagged rare held) w
    tagged_set = ap (tagged rare) e ∙ set-code rare code.one c g code.is w held code.kept.1

    pub order-written : IsOrder (tagged rare new) gs
    order-written = order-set (tagged rare held) (tagged rare new) gs g w tagged_set code.kept.0

    pub known-written : HoldsKnown rare new
    known-written = subst (HoldsKnown rare) (sym e) (known-set rare c w held code.kept.1)

    pub entries-written : in_order (tagged rare new) gs ≡ set_value (same_tag g) entries w
    entries-written = set-order (tagged rare held) (tagged rare new) gs g w tagged_set code.kept.0 ∙ ap (λ es. set_value (same_tag g) es w) code.view

  -- under the code something else is held, or nothing
  module _ (new : List (ℕ × A)) (r : Option A) (change : (d : ℕ) → find eqb d new ≡ cond (eqb c d) r (find eqb d held)) where
    pub known-new : HoldsKnown rare new
    known-new = known-change rare code.one held new c g code.is r change code.kept.1

    found-new : (q : Tag) → find same_tag q (tagged rare new) ≡ cond (same_tag g q) r (find same_tag q (tagged rare held))
    found-new = find-change rare code.one held new c g code.is r change code.kept.1

  -- a value was put in at a place, under a tag that is new
  module _ (new : List (ℕ × A)) (x : A) (i : ℕ) (change : (d : ℕ) → find eqb d new ≡ cond (eqb c d) (Some x) (find eqb d held)) (none : find same_tag g entries ≡ None) (within : i ≤ length entries) where
    room : i ≤ length gs
    room = omega (arith, within, ap length code.view, length-order (tagged rare held) gs (all_there code.kept.0))

    absent : is_among g gs ≡ false
    absent = among-none (tagged rare held) gs g code.kept.0 (sym (found-order (tagged rare held) gs g code.kept.0) ∙ ap (find same_tag g) code.view ∙ none)

    pub order-new : IsOrder (tagged rare new) (insert gs i g)
    order-new = order-put (tagged rare held) (tagged rare new) gs g x i (found-new new (Some x) change) room absent code.kept.0

    pub entries-new : in_order (tagged rare new) (insert gs i g) ≡ insert entries i (g, x)
    entries-new = insert-order (tagged rare held) (tagged rare new) g x (found-new new (Some x) change) gs i absent (all_there code.kept.0) room ∙ ap (λ es. insert es i (g, x)) code.view

  -- the tag stands at a place
  module _ (i : ℕ) (place : position (same_tag g) (keys_of entries) ≡ Some i) where
    stands : StandsAt (same_tag g) gs i
    stands = stands-at g gs i (ap (position (same_tag g)) (sym (keys-order (tagged rare held) gs (all_there code.kept.0))) ∙ ap (λ es. position (same_tag g) (keys_of es)) code.view ∙ place)

    pub within-order : i < length gs
    within-order = place-within g gs i stands

    -- so a value is held under its code
    pub held-there : find eqb c held ≡ None → ⊥
    held-there n = not-none (tagged rare held) gs g i code.kept.0 (ap (λ es. position (same_tag g) (keys_of es)) code.view ∙ place) (find-code rare code.one c g code.is held code.kept.1 ∙ n)

    -- and its value was taken out
    module _ (new : List (ℕ × A)) (change : (d : ℕ) → find eqb d new ≡ cond (eqb c d) None (find eqb d held)) where
      pub order-left : IsOrder (tagged rare new) (remove gs i)
      order-left = order-out (tagged rare held) (tagged rare new) gs g i (found-new new None change) stands code.kept.0

      pub entries-left : in_order (tagged rare new) (remove gs i) ≡ remove_entry (same_tag g) entries
      entries-left = remove-order (tagged rare held) (tagged rare new) g (found-new new None change) gs i stands code.kept.0.once (all_there code.kept.0) ∙ ap (remove_entry (same_tag g)) code.view
