-- Where an edit lies.
use Rattle.std.specs.Prelude.{◌≡◌, ℕ, ◌+◌, ◌*◌, ◌%◌, Bool, true, false, ◌&&◌, not, cond, eqb, nat_lt, length, List, All}
use Rattle.std.specs.List.{prefix_len}
use Rattle.balise_rules.specs.declared.tag.Tag.{Tag}
use Rattle.balise_rules.specs.declared.tag.Tag.TheVariants.{Base, Fresh}
use Rattle.balise_rules.specs.declared.identity.Id.{Id}
use Rattle.balise_rules.specs.Edits.{Edit}
use Rattle.balise_rules.specs.declared.tagged_edit.TaggedEdit.TheVariants.{SetVar, SetHead, InsertPacket, DeletePacket, MovePacket, AddGroup, DropGroup, Renumber, TurnGroup}
use Rattle.balise_rules.specs.Paths.{Entry, apart}
use Rattle.balise_edits.specs.declared.home.Home.{Home}
use Rattle.balise_edits.specs.declared.home.Extent.{Extent}
use Rattle.balise_edits.specs.declared.home.Extent.TheVariants.{Unnamed, Named, Group}

-- whether there are identities
abbrev pub are_named : List Id → Bool
are_named is = not (eqb (length is) 0)

-- the last 14 bits of the number in a tag
abbrev pub low : Tag → ℕ
low (Base n) = n % 16384
low (Fresh n) = n % 16384

-- in a telegram, with identities or without
abbrev pub in_telegram : Tag → ℕ → Bool → Home
in_telegram g t named = record { group = low g; telegram = t % 256; extent = cond named Named Unnamed }

-- at a group
abbrev pub at_group : Tag → Home
at_group g = record { group = low g; telegram = 0; extent = Group }

-- what an edit is of: a telegram, with identities or without, or a group
pub data Lying : Type 0 where
  OfTelegram : Tag → ℕ → Bool → Lying
  OfGroup : Tag → Lying

-- the same of an edit under a serial, which noted that these identities are named
abbrev pub lying : ℕ → Edit → List Id → Lying
lying s (SetVar g t p v k n) is = OfTelegram g t (are_named is)
lying s (SetHead g t v n) is = OfTelegram g t (are_named is)
lying s (InsertPacket g t a x) is = OfTelegram g t (are_named is)
lying s (DeletePacket g t p) is = OfTelegram g t (are_named is)
lying s (MovePacket g t p a) is = OfTelegram g t (are_named is)
lying s (AddGroup a bs) is = OfGroup (Fresh s)
lying s (DropGroup g) is = OfGroup g
lying s (Renumber g n) is = OfGroup g
lying s (TurnGroup g) is = OfGroup g

-- where it lies
abbrev pub home_lying : Lying → Home
home_lying (OfTelegram g t named) = in_telegram g t named
home_lying (OfGroup g) = at_group g

abbrev pub home_of : ℕ → Edit → List Id → Home
home_of s e is = home_lying (lying s e is)

-- a home but for its telegram as one number, so that many can be looked at together
abbrev pub code : Extent → ℕ
code Unnamed = 0
code Named = 1
code Group = 2

abbrev pub home_number : Home → ℕ
home_number h = code h.extent * 16384 + h.group % 16384

-- the same of an entry
abbrev pub home_at : Entry → Home
home_at e = home_of e.0.0 e.0.1 e.1.names

abbrev pub number_at : Entry → ℕ
number_at e = home_number (home_at e)

-- homes of these numbers and above may meet one of this extent in any group
abbrev pub limit : Extent → ℕ
limit Unnamed = 49152
limit Named = 32768
limit Group = 16384

-- whether a number is that of a home of another group, and below the limit
abbrev pub is_far : ℕ → ℕ → ℕ → Bool
is_far group most n = not (eqb (n % 16384) group) && nat_lt n most

-- how many numbers from the first on are far from the home of an entry
abbrev pub count_far : Entry → List ℕ → ℕ
count_far e ns = prefix_len (is_far (home_at e).group (limit (home_at e).extent)) ns

-- each of these entries is apart from one
abbrev pub AllApart : Entry → List Entry → Type 0
AllApart e fs = All (λ f. apart e f ≡ true) fs

-- whether edits are seen to be apart by what they are of, and whether their groups and telegrams may be one
abbrev pub apart_by : Extent → Extent → Bool → Bool → Bool
apart_by Group Group group telegram = false
apart_by Group Unnamed group telegram = not group
apart_by Unnamed Group group telegram = not group
apart_by Group Named group telegram = false
apart_by Named Group group telegram = false
apart_by Unnamed Unnamed group telegram = not (group && telegram)
apart_by Unnamed Named group telegram = not (group && telegram)
apart_by Named Unnamed group telegram = not (group && telegram)
apart_by Named Named group telegram = not (group && telegram)

-- the same of two homes: in two telegrams, or one in a telegram of a group and without identities and the other at another group
abbrev pub elsewhere : Home → Home → Bool
elsewhere h k = apart_by h.extent k.extent (eqb h.group k.group) (eqb h.telegram k.telegram)
