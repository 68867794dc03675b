-- What is held under tags, in the order of a list of the tags, and under the codes of the tags.
use Rattle.std.specs.Prelude.{◌≡◌, ◌≤◌, ◌<◌, ◌+◌, ℕ, Bool, true, false, eqb, List, [], ◌∷◌, length, Option, Some, None, is_some}
use Rattle.std.specs.List.{list_any}
use Rattle.std.specs.Option.{option_map_or}
use Rattle.balise_rules.specs.declared.tag.Tag.{Tag}
use Rattle.balise_rules.specs.Tagged.{find}
use Rattle.balise_rules.specs.Tags.{same_tag}
use Rattle.balise_index.specs.TagCode.{tag_of}

-- whether a tag is one of these
abbrev pub is_among : Tag → List Tag → Bool
is_among g tags = list_any (same_tag g) tags

-- whether this is the tag
abbrev pub is_at : Tag → Option Tag → Bool
is_at g None = false
is_at g (Some k) = same_tag g k

-- each tag is there once
abbrev pub Once : List Tag → Type 0
Once [] = Unit {0}
Once (g ∷ gs) = (is_among g gs ≡ false) × Once gs

-- what is held under each tag, tag by tag
abbrev pub in_order : {A : Type 0} → List (Tag × A) → List Tag → List (Tag × A)
in_order held [] = []
in_order held (g ∷ gs) = option_map_or (λ x. (g, x) ∷ in_order held gs) (find same_tag g held) (in_order held gs)

-- the tags are those under which something is held, each once
pub record IsOrder {A : Type 0} (held : List (Tag × A)) (order : List Tag) : Type 0 where
  pub once : Once order
  pub there : (g : Tag) → is_some (find same_tag g held) ≡ is_among g order

-- what is held under codes, under the tags that these stand for
abbrev pub tagged : {A : Type 0} → List Tag → List (ℕ × A) → List (Tag × A)
tagged rare [] = []
tagged rare (e ∷ es) = (tag_of rare e.0, e.1) ∷ tagged rare es

-- each code under which something is held stands for a tag
abbrev pub HoldsKnown : {A : Type 0} → List Tag → List (ℕ × A) → Type 0
HoldsKnown rare held = (code : ℕ) → is_some (find eqb code held) ≡ true → code < 4294000000 + length rare

-- what is held in order, and how much more fits without memory: in the list, and under tags
pub record OrderedMap (A : Type 0) : Type 0 where
  pub entries : List (Tag × A)
  pub room : ℕ
  pub spare : ℕ

-- one more fits
abbrev pub HasRoom : {A : Type 0} → OrderedMap A → Type 0
HasRoom map = (1 ≤ map.room) × (1 ≤ map.spare)
