-- What a group's call on one telegram says of the plan.
use Rattle.std.proofs.Common.{◌≡◌, ℕ, false, eqb, ◌&&◌, Option, Some, None, Result, Ok, Err, refl, subst, ◌+◌, sym, ap, ◌∙◌}
use Rattle.std.specs.Prelude.{is_none, option_and_then}
use Rattle.std.specs.Map.{set_value}
use Rattle.std.proofs.lemmas.Map.Steps.{set_value_same}
use Rattle.std.proofs.lemmas.Bool.{and_parts}
use Rattle.balise_rules.specs.declared.tag.Tag.{Tag}
use Rattle.balise_rules.specs.declared.refusal.Refusal.{Refusal}
use Rattle.balise_rules.specs.declared.refusal.Refusal.TheVariants.{NoSuchGroup, NoSuchTelegram}
use Rattle.balise_rules.specs.Tagged.{find, each}
use Rattle.balise_rules.specs.Tags.{same_tag}
use Rattle.balise_rules.specs.Telegram.{Telegram}
use Rattle.balise_rules.specs.Plan.{Group, Plan, IsSound, telegram_at}
use Rattle.balise_plan.specs.Held as held
use Rattle.balise_plan.specs.Held.{IsHeld}
use Rattle.balise_index.specs.declared.link_place.LinkPlace.{LinkPlace}
use Rattle.balise_index.specs.NameIndex.{IndexOf}
use Rattle.std.specs.BTreeSet as set
use Rattle.balise_rules.proofs.Tests.{split_on, tag_test, nat_test}
use Rattle.balise_rules.proofs.Cases.{unsome}
use Rattle.balise_rules.proofs.Found.{group_sound, place_is}
use Rattle.balise_telegram.specs.declared.fault.TelegramFault.{TelegramFault}
use Rattle.balise_plan.specs.InTelegram.{Call, ChangesTelegram, InTelegram, Missing, Refused, Made, IsHarmless, with_telegram}
use Rattle.balise_plan.specs.Within.{Within, Absent, Changed, Passed, passed, with_item, no_telegram}
use Rattle.balise_plan.proofs.naming.Walking.{each-same, each-found, cond-each, and-cond}
use Rattle.balise_plan.proofs.items.Places.{value-each}
use Rattle.balise_plan.proofs.fields.Levels.{same-item}
use Rattle.balise_plan.proofs.plans.Outcomes.{counted, next-plan, of-plan, same-plan}
use Rattle.balise_plan.proofs.telegrams.Edits.{misses, missing}

module _ (g : Tag) (t : ℕ) (plan : Plan) (sound : IsSound plan) (ys zs : Group) (here : find same_tag g plan ≡ Some ys) where
  pub at-group : (o : Option Telegram) → find eqb t ys ≡ o → telegram_at g t plan ≡ o
  at-group o e = ap (option_and_then (find eqb t)) here ∙ e

  pub written : (z : Telegram) → zs ≡ with_item eqb t z ys → set_value (same_tag g) plan zs ≡ with_telegram g t z plan
  written z e =
      value-each tag_test g (with_item eqb t z) plan ys zs sound.tags here e
      ∙ each-same _ _ plan (λ h us. cond-each (same_tag g h) _ us ∙ each-same _ _ us (λ u x. and-cond (same_tag g h) (eqb t u) z x))

  unwritten : zs ≡ ys → set_value (same_tag g) plan zs ≡ plan
  unwritten e = ap (set_value (same_tag g) plan) e ∙ set_value_same (same_tag g) plan ys here

  -- any answer of one telegram
  pub spoken : {B P : Type 0} (none : B) (R : Telegram → B → Telegram → Type 0) (r : B) → Within eqb t none R ys r zs → (telegram_at g t plan ≡ None → r ≡ none → set_value (same_tag g) plan zs ≡ plan → P) →
      ((x z : Telegram) → telegram_at g t plan ≡ Some x → R x r z → set_value (same_tag g) plan zs ≡ with_telegram g t z plan → (z ≡ x → set_value (same_tag g) plan zs ≡ plan) → P) → P
  spoken none R r (Absent n e s) k l = k (at-group None n) e (unwritten s)
  spoken none R r (Changed x z f c s) k l = l x z (at-group (Some x) f) c (written z s) (λ q. unwritten (s ∙ ap (λ v. with_item eqb t v ys) q ∙ same-item nat_test t x ys (group_sound plan sound g ys here).tags f))

  -- an answer that is passed on
  pub in-telegram : {A : Type 0} {R : Call A} {r : Result A Refusal} {groups : Plan} → groups ≡ set_value (same_tag g) plan zs → Within eqb t no_telegram (Passed R) ys r zs → InTelegram g t R plan r (groups ≡ plan) (λ z. groups ≡ with_telegram g t z plan)
  in-telegram {A} {R} {r} {groups} i w = spoken no_telegram (Passed R) r w (λ n q s. Missing NoSuchTelegram (missing g t plan ys here None n) q (i ∙ s)) (λ x z h c s j. by x z h c.answer c.call c.is (i ∙ s) (λ e. i ∙ j e))
    where
      by : (x z : Telegram) → telegram_at g t plan ≡ Some x → (a : Result A TelegramFault) → R x a z → r ≡ passed a → groups ≡ with_telegram g t z plan → (z ≡ x → groups ≡ plan) → InTelegram g t R plan r (groups ≡ plan) (λ z. groups ≡ with_telegram g t z plan)
      by x z h (Err e) c q s j = Refused e x z h c q j
      by x z h (Ok a) c q s j = Made a x z h c q s

-- the telegram replaced as a change of each telegram makes it
pub by-telegram : (F : Tag → ℕ → Telegram → Telegram) (g : Tag) (t : ℕ) (plan : Plan) → IsSound plan → (y z : Telegram) → telegram_at g t plan ≡ Some y → z ≡ F g t y → ((h : Tag) (u : ℕ) (x : Telegram) → (same_tag g h && eqb t u) ≡ false → F h u x ≡ x) →
    with_telegram g t z plan ≡ each (λ h us. each (F h) us) plan
by-telegram F g t plan sound y z here e other =
    each-found tag_test _ _ plan sound.tags (λ h us i. each-found nat_test _ _ us (group_sound plan sound h us i).tags (λ u x j. split_on (same_tag g h && eqb t u)
    (λ d. let k : telegram_at h u plan ≡ Some x = ap (option_and_then (find eqb u)) i ∙ j in
    let q : y ≡ x = unsome (sym here ∙ place_is g h t u plan d ∙ k) in
    let p = and_parts (same_tag g h) (eqb t u) d in
    simp d (e ∙ ap (λ r. F r t y) (tag_test.one g h p.0) ∙ ap (λ r. F h r y) (nat_test.one t u p.1) ∙ ap (F h u) q))
    (λ d. simp d (sym (other h u x d)))))

-- ---- what a plan answers of a call that keeps its indexes right

module _ {A : Type 0} {g : Tag} {t : ℕ} {R : Call A} {plan groups : Plan} {n : ℕ} {old : held.Plan} (v : counted plan n ≡ old) where
  pub no-group : groups ≡ plan → find same_tag g plan ≡ None → ChangesTelegram g t R old (Err NoSuchGroup) (counted groups n)
  no-group i e = Missing NoSuchGroup (of-plan (λ gs. misses (is_none (find same_tag g gs)) (telegram_at g t gs) ≡ Some NoSuchGroup) v (ap (λ o. misses (is_none o) (telegram_at g t plan)) e)) refl (same-plan v i)

  module _ (may : IsHarmless g t plan R) where
    pub declined : {e : Refusal} → InTelegram g t R plan (Err e) (groups ≡ plan) (λ z. groups ≡ with_telegram g t z plan) → (groups ≡ plan) × ChangesTelegram g t R old (Err e) (counted groups n)
    declined (Missing f m q s) = (s, Missing f (of-plan (λ gs. misses (is_none (find same_tag g gs)) (telegram_at g t gs) ≡ Some f) v m) q (same-plan v s))
    declined (Refused f y z h c q s) = let k = s (may.stays y z f c) in (k, Refused f y z (of-plan (λ gs. telegram_at g t gs ≡ Some y) v h) c q (λ _. same-plan v k))
    declined (Made a y z h c q s) = absurd cc

    pub accepted : {a : A} → InTelegram g t R plan (Ok a) (groups ≡ plan) (λ z. groups ≡ with_telegram g t z plan) → (ids : IndexOf Tag) (names : IndexOf (set.BTreeSet LinkPlace)) → IsHeld ids names plan → IsHeld ids names groups × ChangesTelegram g t R old (Ok a) (counted groups (n + 1))
    accepted (Missing f m q s) ids names k = absurd cc
    accepted (Refused f y z h c q s) ids names k = absurd cc
    accepted (Made a y z h c q s) ids names k = (subst (IsHeld ids names) (sym s) (may.held y z a h c ids names k), Made a y z (of-plan (λ gs. telegram_at g t gs ≡ Some y) v h) c q (next-plan (with_telegram g t z) v s))
