-- Tags as codes: one for each serial that an edit may have, one for each number below 292,999,999, and for any other tag one
-- that says where it stands in a list.
use Rattle.std.specs.Prelude.{◌≡◌, ◌<◌, ◌+◌, ◌-◌, ℕ, false, List, map, length, Option, Some, None, if◌then◌else◌, nat_lt, slice_get}
use Rattle.std.specs.List.{AllByRecursion}
use Rattle.balise_rules.specs.declared.tag.Tag.{Tag}
use Rattle.balise_rules.specs.declared.tag.Tag.TheVariants.{Base, Fresh}
use Rattle.balise_rules.specs.Tags.{same_tag}

-- the tag of a code that needs no list
abbrev pub own_tag : ℕ → Tag
own_tag code = if nat_lt code 4001000001 then Fresh code else Base (code - 4001000001)

-- the same of any code: one that needs a list stands for none
abbrev pub tag_of_own : ℕ → Option Tag
tag_of_own code = if nat_lt code 4294000000 then Some (own_tag code) else None

abbrev pub rare_tag : ℕ → Option Tag → Tag
rare_tag code None = Fresh code
rare_tag code (Some g) = g

-- the tag that a code stands for, with a list of the tags that have no code of their own
abbrev pub tag_of : List Tag → ℕ → Tag
tag_of rare code = if nat_lt code 4294000000 then own_tag code else rare_tag code (slice_get rare (code - 4294000000))

abbrev pub tags_of : List Tag → List ℕ → List Tag
tags_of rare codes = map (tag_of rare) codes

-- each code stands for a tag
abbrev pub AreKnown : List Tag → List ℕ → Type 0
AreKnown rare codes = AllByRecursion (λ code. code < 4294000000 + length rare) codes

-- each code that stood for a tag stands for the same one
abbrev pub KeepsTags : List Tag → List Tag → Type 0
KeepsTags old new = (code : ℕ) → code < 4294000000 + length old → tag_of new code ≡ tag_of old code

-- no two codes stand for one tag
abbrev pub OneCode : List Tag → Type 0
OneCode rare = (c d : ℕ) → c < 4294000000 + length rare → d < 4294000000 + length rare → tag_of rare c ≡ tag_of rare d → c ≡ d

-- no code that needs no list stands for this tag
abbrev pub HasNoOwn : Tag → Type 0
HasNoOwn g = (code : ℕ) → code < 4294000000 → same_tag g (own_tag code) ≡ false

-- no code stands for this tag
abbrev pub HasNone : List Tag → Tag → Type 0
HasNone rare g = (code : ℕ) → code < 4294000000 + length rare → same_tag g (tag_of rare code) ≡ false

-- tags in order, the list of those that have no code of their own, and for how many more there is room
pub record TagList : Type 0 where
  pub items : List Tag
  pub rare : List Tag
  pub room : ℕ
