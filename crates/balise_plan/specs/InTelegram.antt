-- One telegram of a plan changed by a call: what the call has to keep, what is answered, and what is left.
use Rattle.std.specs.Prelude.{◌≡◌, ◌+◌, ◌&&◌, ℕ, [], ◌∷◌, cond, eqb, Some, Result, Ok, Err}
use Rattle.std.specs.BTreeSet as set
use Rattle.balise_rules.specs.declared.identity.Id.{Id}
use Rattle.balise_rules.specs.declared.tag.Tag.{Tag}
use Rattle.balise_rules.specs.declared.refusal.Refusal.{Refusal}
use Rattle.balise_rules.specs.Tagged.{each}
use Rattle.balise_rules.specs.Tags.{same_tag}
use Rattle.balise_rules.specs.Telegram.{Telegram}
use Rattle.balise_rules.specs.Plan.{IsSoundTelegram, telegram_at}
use Rattle.balise_rules.specs.Plan as rules
use Rattle.balise_rules.specs.Doing.{first_of, no_group, no_telegram}
use Rattle.balise_telegram.specs.declared.fault.TelegramFault.{TelegramFault}
use Rattle.balise_telegram.specs.Faults.{refusal_of}
use Rattle.balise_index.specs.declared.link_place.LinkPlace.{LinkPlace}
use Rattle.balise_index.specs.NameIndex.{IndexOf}
use Rattle.balise_plan.specs.Held.{IsHeld, Plan}

-- whatever place is asked of the one telegram, the other is sound there too
abbrev pub Replaces : Telegram → Telegram → Type 0
Replaces y z = (i : Id) (last n : ℕ) → IsSoundTelegram i last n y → IsSoundTelegram i last n z

-- the plan with this telegram at a place
abbrev pub with_telegram : Tag → ℕ → Telegram → rules.Plan → rules.Plan
with_telegram g t z plan = each (λ h us. each (λ u x. cond (same_tag g h && eqb t u) z x) us) plan

-- what a call does to a telegram: what it makes of one, and answers
abbrev pub Call : Type 0 → Type 1
Call A = Telegram → Result A TelegramFault → Telegram → Type 0

-- A call that leaves a telegram sound, and all indexes right. Refused, it leaves the telegram.
pub record IsHarmless {A : Type 0} (g : Tag) (t : ℕ) (plan : rules.Plan) (R : Call A) : Type 0 where
  pub sound : (y z : Telegram) (r : Result A TelegramFault) → R y r z → Replaces y z
  pub stays : (y z : Telegram) (e : TelegramFault) → R y (Err e) z → z ≡ y
  pub held : (y z : Telegram) (a : A) → telegram_at g t plan ≡ Some y → R y (Ok a) z → (ids : IndexOf Tag) (names : IndexOf (set.BTreeSet LinkPlace)) → IsHeld ids names plan → IsHeld ids names (with_telegram g t z plan)

-- The telegram's call is accepted, and what it leaves is put there; or the first refusal is answered, and all stays.
pub data InTelegram {A : Type 0} (g : Tag) (t : ℕ) (R : Call A) (plan : rules.Plan) (result : Result A Refusal) (Stays : Type 0) (Puts : Telegram → Type 0) : Type 0 where
  Missing : (e : Refusal) → first_of (no_group g plan ∷ no_telegram g t plan ∷ []) ≡ Some e → result ≡ Err e → Stays → InTelegram g t R plan result Stays Puts
  Refused : (e : TelegramFault) (y z : Telegram) → telegram_at g t plan ≡ Some y → R y (Err e) z → result ≡ Err (refusal_of e) → (z ≡ y → Stays) → InTelegram g t R plan result Stays Puts
  Made : (a : A) (y z : Telegram) → telegram_at g t plan ≡ Some y → R y (Ok a) z → result ≡ Ok a → Puts z → InTelegram g t R plan result Stays Puts

-- of a plan, whose changes are counted
abbrev pub ChangesTelegram : {A : Type 0} → Tag → ℕ → Call A → Plan → Result A Refusal → Plan → Type 0
ChangesTelegram g t R old result new = InTelegram g t R old.groups result (new ≡ old) (λ z. new ≡ record { groups = with_telegram g t z old.groups; changes = old.changes + 1 })
