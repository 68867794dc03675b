-- Groups and plans: what is read, what is shown, and when a plan is sound.
use Rattle.std.specs.Prelude.{◌≡◌, ◌≢◌, ℕ, suc, ◌-◌, ◌≤◌, ◌==◌, ◌&&◌, not, nat_le, Bool, true, if◌then◌else◌, cond, List, [], ◌∷◌, ◌++◌, length, map, All, eqb, Option, Some, None, Result, Ok, Err, option_and_then, is_some}
use Rattle.balise_rules.specs.declared.variable.Var.{Var}
use Rattle.balise_rules.specs.declared.variable.Var.TheVariants.{NPig, NTotal, NidC, NidBg}
use Rattle.balise_rules.specs.declared.refusal.Refusal.{Refusal}
use Rattle.balise_rules.specs.declared.refusal.Refusal.TheVariants.{GroupSize, HeaderDisagrees, NumberReserved, GroupTwice}
use Rattle.balise_rules.specs.declared.identity.Id.{Id}
use Rattle.balise_rules.specs.declared.tag.Tag.{Tag}
use Rattle.balise_rules.specs.declared.tag.Tag.TheVariants.{Base}
use Rattle.balise_rules.specs.Tagged.{find, Distinct}
use Rattle.balise_rules.specs.Tags.{same_tag, same_id}
use Rattle.balise_rules.specs.Forms.{Matches, Numbered}
use Rattle.balise_rules.specs.Packet.{Packet, value, IsSpelt, field_of}
use Rattle.balise_rules.specs.Telegram.{Telegram, header, version_of, is_balise, used, shown, IsLength, read_telegram}

-- the telegrams of a group under their tags, in the order of N_PIG
abbrev pub Group : Type 0
Group = List (ℕ × Telegram)

abbrev pub Plan : Type 0
Plan = List (Tag × Group)

-- the number that no group has, and that names none
abbrev pub reserved : ℕ
reserved = 16383

abbrev pub country_of : Telegram → ℕ
country_of y = value NidC 0 y.head

abbrev pub identity_in : Telegram → Id
identity_in y = record { country = country_of y; number = value NidBg 0 y.head }

-- a group has the identity of its first telegram
abbrev pub identity_of : Group → Id
identity_of [] = record { country = 0; number = 0 }
identity_of (y ∷ ys) = identity_in y.1

-- Look-ups by tag.
abbrev pub telegram_at : Tag → ℕ → Plan → Option Telegram
telegram_at g t plan = option_and_then (find eqb t) (find same_tag g plan)

abbrev pub packet_at : Tag → ℕ → Tag → Plan → Option Packet
packet_at g t p plan = option_and_then (λ (y : Telegram). find same_tag p y.packets) (telegram_at g t plan)

abbrev pub field_at : Tag → ℕ → Tag → Var → ℕ → Plan → Option ℕ
field_at g t p v k plan = option_and_then (λ (x : Packet). field_of v k x.fields) (packet_at g t p plan)

-- the first group of an identity, with its tag
abbrev pub group_named : Id → Plan → Option (Tag × Group)
group_named i [] = None
group_named i (y ∷ ys) = cond (same_id (identity_of y.1) i) (Some y) (group_named i ys)

-- What a plan shows: the bits of each telegram of each group.
abbrev pub shown_plan : Plan → List (List (List Bool))
shown_plan plan = map (λ g. map (λ t. shown t.1) g.1) plan

-- the telegrams from place n on have their place as N_PIG, this N_TOTAL and this identity
abbrev pub agree_from : Id → ℕ → ℕ → Group → Bool
agree_from i last n [] = true
agree_from i last n (y ∷ ys) =
    value NPig 0 y.1.head == n && value NTotal 0 y.1.head == last && same_id (identity_in y.1) i && agree_from i last (suc n) ys

abbrev pub with_telegrams : ℕ → Result Telegram Refusal → Result Group Refusal → Result Group Refusal
with_telegrams n (Err r) more = Err r
with_telegrams n (Ok y) (Err r) = Err r
with_telegrams n (Ok y) (Ok ys) = Ok ((n, y) ∷ ys)

-- the telegrams tagged by their place, counted on from n, or the fault of the first that has one
unfoldable pub read_telegrams : ℕ → List (List Bool) → Result Group Refusal
read_telegrams n [] = Ok []
read_telegrams n (b ∷ bs) = with_telegrams n (read_telegram b) (read_telegrams (suc n) bs)

abbrev pub checked_group : Result Group Refusal → Result Group Refusal
checked_group (Err r) = Err r
checked_group (Ok ys) =
    if not (agree_from (identity_of ys) (length ys - 1) 0 ys) then Err HeaderDisagrees
    else if (identity_of ys).number == reserved then Err NumberReserved
    else Ok ys

-- the group of these telegrams, or the first fault
unfoldable pub read_group : List (List Bool) → Result Group Refusal
read_group bs = if nat_le 1 (length bs) && nat_le (length bs) 8 then checked_group (read_telegrams 0 bs) else Err GroupSize

abbrev pub with_group : Plan → Result Group Refusal → Result Plan Refusal
with_group plan (Err r) = Err r
with_group plan (Ok ys) = if is_some (group_named (identity_of ys) plan) then Err GroupTwice else Ok (plan ++ (Base (length plan), ys) ∷ [])

-- the plan with one more group at its end, or the first fault
abbrev pub pushed : Plan → List (List Bool) → Result Plan Refusal
pushed plan bs = with_group plan (read_group bs)

abbrev pub pushed_all : Result Plan Refusal → List (List (List Bool)) → Result Plan Refusal
pushed_all plan [] = plan
pushed_all (Err r) (bs ∷ groups) = Err r
pushed_all (Ok plan) (bs ∷ groups) = pushed_all (pushed plan bs) groups

-- the plan of these groups, or the first fault
abbrev pub read_plan : List (List (List Bool)) → Result Plan Refusal
read_plan groups = pushed_all (Ok []) groups

-- Soundness.
-- A telegram at place n of a group of this identity, where N_TOTAL is `last`.
pub record IsSoundTelegram (i : Id) (last n : ℕ) (y : Telegram) : Type 0 where
  pub header : Matches header y.head []
  pub numbered : Numbered y.head
  pub balise : is_balise y.head ≡ true
  pub identity : identity_in y ≡ i
  pub place : value NPig 0 y.head ≡ n
  pub total : value NTotal 0 y.head ≡ last
  pub tags : Distinct same_tag y.packets
  pub packets : All (λ p. IsSpelt (version_of y) p.1) y.packets
  pub size : IsLength (length y.padding)
  pub fits : used y.packets ≤ length y.padding

abbrev pub SoundFrom : Id → ℕ → ℕ → Group → Type 0
SoundFrom i last n [] = Unit {0}
SoundFrom i last n (y ∷ ys) = IsSoundTelegram i last n y.1 × SoundFrom i last (suc n) ys

pub record IsSoundGroup (ys : Group) : Type 0 where
  pub some : 1 ≤ length ys
  pub most : length ys ≤ 8
  pub tags : Distinct eqb ys
  pub number : (identity_of ys).number ≢ reserved
  pub telegrams : SoundFrom (identity_of ys) (length ys - 1) 0 ys

-- no two groups have one identity
abbrev pub IdentitiesDiffer : Plan → Type 0
IdentitiesDiffer [] = Unit {0}
IdentitiesDiffer (y ∷ ys) = (group_named (identity_of y.1) ys ≡ None) × IdentitiesDiffer ys

pub record IsSound (plan : Plan) : Type 0 where
  pub tags : Distinct same_tag plan
  pub identities : IdentitiesDiffer plan
  pub groups : All (λ y. IsSoundGroup y.1) plan
