-- Which group has an identity, and which places name it.
use Rattle.std.specs.Prelude.{◌≡◌, ◌<◌, Bool, false, cond, ◌&&◌, List, [], ◌∷◌, Option, Some, None, option_and_then}
use Rattle.std.specs.BTreeSet as set
use Rattle.std.specs.Option.{IfSome}
use Rattle.balise_rules.specs.declared.identity.Id.{Id}
use Rattle.balise_rules.specs.declared.refusal.Refusal.{Refusal}
use Rattle.balise_rules.specs.declared.refusal.Refusal.TheVariants.{GroupTwice, OutOfMemory}
use Rattle.balise_rules.specs.declared.tag.Tag.{Tag}
use Rattle.balise_index.specs.declared.link_place.LinkPlace.{LinkPlace}
use Rattle.balise_index.specs.declared.name_index.Named.{Named}
use Rattle.balise_index.specs.Identities.{is_id}
use Rattle.balise_index.specs.Identities as slots
use Rattle.balise_index.specs.Places.{Links, compare_place, is_place}
use Rattle.balise_index.specs.TagCode.{tag_of_own}

-- what stands under each identity, if anything does
abbrev pub IndexOf : Type 0 → Type 0
IndexOf V = Id → Option V

-- what an index has under an identity
abbrev pub indexed : {V : Type 0} → IndexOf V → Id → Option V
indexed m i = m i

-- n has o under the identity, and under each other what m has
abbrev pub Updates : {V : Type 0} → IndexOf V → IndexOf V → Id → Option V → Type 0
Updates m n i o = (q : Id) → indexed n q ≡ cond (is_id i q) o (indexed m q)

-- why a group doesn't get an identity: the group of this tag has it; or none has it, and memory runs out
abbrev pub IsUnclaimed : Refusal → Option Tag → Type 0
IsUnclaimed e (Some g) = e ≡ GroupTwice
IsUnclaimed e None = e ≡ OutOfMemory

-- what is known of each identity, slot by slot; contracts see it by `tags_of` and `names_of` alone
abbrev pub NameIndex : Type 0
NameIndex = slots.IndexOf Named

-- ---- what a slot says

abbrev pub tag_in : Named → Option Tag
tag_in n = tag_of_own n.owner

-- places, if there are any
abbrev pub if_any : List LinkPlace → Links → Option Links
if_any [] s = None
if_any (w ∷ ws) s = Some s

abbrev pub some_links : Links → Option Links
some_links s = if_any s.keys s

abbrev pub names_in : Named → Option Links
names_in n = some_links n.links

-- the tag of the group that has each identity
abbrev pub tags_of : NameIndex → IndexOf Tag
tags_of m i = option_and_then tag_in (slots.indexed m i)

-- the places that name each identity
abbrev pub names_of : NameIndex → IndexOf Links
names_of m i = option_and_then names_in (slots.indexed m i)

-- ---- the places that name an identity

abbrev pub in_links : Option (set.BTreeSet LinkPlace) → LinkPlace → Bool
in_links None w = false
in_links (Some s) w = set.contains compare_place s w

-- whether the index holds that w names q
abbrev pub held : IndexOf (set.BTreeSet LinkPlace) → Id → LinkPlace → Bool
held m q w = in_links (indexed m q) w

-- the index after a link was added or dropped
abbrev pub Sets : IndexOf (set.BTreeSet LinkPlace) → IndexOf (set.BTreeSet LinkPlace) → Id → LinkPlace → Bool → Type 0
Sets m n q w b = (r : Id) (v : LinkPlace) → held n r v ≡ cond (is_id q r && is_place w v) b (held m r v)

abbrev pub Keeps : IndexOf (set.BTreeSet LinkPlace) → IndexOf (set.BTreeSet LinkPlace) → Type 0
Keeps m n = (r : Id) (v : LinkPlace) → held n r v ≡ held m r v

-- no identity is kept without a link
abbrev pub AreFull : IndexOf (set.BTreeSet LinkPlace) → Type 0
AreFull m = (r : Id) → IfSome (indexed m r) (λ s. 0 < set.btree_set_len s)

-- the links of one identity became another's
abbrev pub Moves : IndexOf (set.BTreeSet LinkPlace) → IndexOf (set.BTreeSet LinkPlace) → Id → Id → Type 0
Moves m n from to = (r : Id) (v : LinkPlace) → held n r v ≡ cond (is_id to r) (held m from v) (cond (is_id from r) false (held m r v))
