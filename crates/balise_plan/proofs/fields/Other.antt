-- What setting a field that isn't a number of a link leaves of the indexes.
use Rattle.std.proofs.Common.{◌≡◌, ℕ, Bool, true, false, cond, ◌+◌, eqb, ◌&&◌, Some, None, Result, Ok, Err, refl, sym, ap, subst, ◌∙◌, arith}
use Rattle.std.proofs.lemmas.Bool.{true≢false}
use Rattle.std.proofs.lemmas.Iterator.Adapters.{option_map_id}
use Rattle.balise_rules.specs.declared.tag.Tag.{Tag}
use Rattle.balise_rules.specs.declared.identity.Id.{Id}
use Rattle.balise_rules.specs.declared.refusal.Refusal.{Refusal}
use Rattle.balise_rules.specs.declared.variable.Var.{Var}
use Rattle.balise_rules.specs.declared.variable.Var.TheVariants.{NidBg, NidC}
use Rattle.balise_rules.specs.Variables.{steers}
use Rattle.balise_rules.specs.Tagged.{find}
use Rattle.balise_rules.specs.Tags.{Key, is_of, same_tag, same_var, same_key}
use Rattle.balise_rules.specs.Plan.{IsSound, country_of, telegram_at}
use Rattle.balise_rules.specs.Names.{is_real, country_at}
use Rattle.balise_rules.specs.Packet.{Packet}
use Rattle.balise_rules.specs.Accepting.{Accepted}
use Rattle.balise_rules.specs.Doing.{done, refusal}
use Rattle.balise_rules.specs.Notes.{noted}
use Rattle.balise_rules.specs.Edits.{effect, field_after, telegram_after, head_after, group_after}
use Rattle.balise_rules.specs.declared.tagged_edit.TaggedEdit.TheVariants.{SetVar, SetHead}
use Rattle.balise_rules.proofs.Tests.{split_on, var_test}
use Rattle.balise_edit_laws.proofs.Refusing.{refused_exactly}
use Rattle.balise_edit_laws.proofs.SoundKept.{groups_kept, sound_parts}
use Rattle.balise_index.specs.declared.link_place.LinkPlace.{LinkPlace}
use Rattle.balise_plan.specs.Held.{DoesAlways, IsHeld, Plan}
use Rattle.balise_plan.proofs.plans.Outcomes.{counted}
use Rattle.balise_plan.proofs.renumbering.Plans.{telegram-each}
use Rattle.balise_plan.proofs.turned.Plans.{tags-kept}
use Rattle.balise_plan.proofs.naming.Identities.{id_at, is_the, named-is, id-after}
use Rattle.balise_index.specs.NameIndex.{IndexOf}
use Rattle.balise_rules.specs.Telegram.{Telegram}
use Rattle.balise_telegram.specs.declared.fault.TelegramFault.{TelegramFault}
use Rattle.balise_telegram.specs.Setting.{SetsHead, SetsField, with_field}
use Rattle.balise_plan.specs.InTelegram.{Call, ChangesTelegram, IsHarmless, Made, Missing, Refused, with_telegram}
use Rattle.balise_plan.proofs.telegrams.Replaced.{held-kept}
use Rattle.balise_plan.proofs.telegrams.Sound.{field-set, head-set}
use Rattle.balise_plan.proofs.telegrams.Answered.{by-telegram}
use Rattle.balise_plan.proofs.telegrams.Edits.{first-more, head-at, head-other, heads, set-at, set-other, sets, standing}
use Rattle.std.specs.BTreeSet as set
use Rattle.balise_rules.specs.Plan as rules

off : (a b c d : Bool) → d ≡ false → (a && (b && (c && d))) ≡ false
off a b c d e = grind arith

module _ (plan : rules.Plan) (ids : IndexOf Tag) (names : IndexOf (set.BTreeSet LinkPlace)) (held_is : IsHeld ids names plan) (g : Tag) (t : ℕ) (p : Tag) (v : Var) (k n : ℕ) (own : Id) (ok : refusal (SetVar g t p v k n) plan ≡ None) (apart : same_var v NidBg ≡ false) where
  accepted : Accepted (SetVar g t p v k n) plan
  accepted = (refused_exactly (SetVar g t p v k n) plan held_is.sound).0 ok

  abbrev new : rules.Plan
  new = effect (0, SetVar g t p v k n) own plan

  new_sound : IsSound new
  new_sound = sound_parts (0, SetVar g t p v k n) own plan held_is.sound accepted (λ g t y h. tt)

  not_country : (key : Key) → is_of NidC key ≡ true → same_key (v, k) key ≡ false
  unfolding steers
  not_country key e = split_on (same_var v key.0)
      (λ d. absurd (let q = var_test.one v key.0 d in let r = var_test.one NidC key.0 e in
      let s : steers NidC ≡ false = ap steers (r ∙ sym q) ∙ accepted.0.0 in true≢false s))
      (λ d. ap (λ b. b && eqb k key.1) d)

  id_new : (w : LinkPlace) → id_at w new ≡ id_at w plan
  id_new w =
      id-after w (λ j. j) (λ y. head_after (SetVar g t p v k n) w.group w.telegram y.head) (λ y q x. field_after (SetVar g t p v k n) own w.group w.telegram (country_of y) q x.fields) plan new (telegram-each (telegram_after (0, SetVar g t p v k n) own) w.group w.telegram plan)
      (λ y m. refl)
      (λ y q x key m e. ap (λ b. cond b n m) (off (same_tag g w.group) (eqb t w.telegram) (same_tag p q) (same_key (v, k) key) (not_country key e)))
      (λ y q x j m. ap (λ b. one (country_of y) j x (cond b n m)) (off (same_tag g w.group) (eqb t w.telegram) (same_tag p q) (same_key (v, k) (NidBg, j)) (ap (λ b. b && eqb k j) apart)))
      ∙ option_map_id (id_at w plan)
    where
      one : ℕ → ℕ → Packet → ℕ → Id
      one c j x m = record { country = country_at c j x.fields; number = m }

  pub set_held : IsHeld ids names new
  set_held = record {
    sound = new_sound;
    tags = λ q. held_is.tags q ∙ sym (tags-kept plan new held_is.sound new_sound (group_after (0, SetVar g t p v k n) own) refl (λ h ys e. (groups_kept (0, SetVar g t p v k n) own plan held_is.sound accepted (λ g t y h. tt) h ys e).identity) q);
    named = λ q w. held_is.named q w ∙ named-is q w plan ∙ ap (λ o. is_real q && is_the q o) (sym (id_new w)) ∙ sym (named-is q w new);
  }

module _ (g : Tag) (t : ℕ) (p : Tag) (v : Var) (k n : ℕ) {R : Call ℕ} (f : (y z : Telegram) (r : Result ℕ TelegramFault) → R y r z → SetsField p v k n y r z) where
  field-after : (plan : rules.Plan) → IsSound plan → (y z : Telegram) → telegram_at g t plan ≡ Some y → z ≡ with_field p v k n y → with_telegram g t z plan ≡ done (0, SetVar g t p v k n) plan
  field-after plan sound y z s e = let own = (noted (SetVar g t p v k n) plan).own in by-telegram (telegram_after (0, SetVar g t p v k n) own) g t plan sound y z s (e ∙ set-at own g t p v k n y) (set-other own g t p v k n)

  pub field-harmless : same_var v NidBg ≡ false → (plan : rules.Plan) → IsHarmless g t plan R
  field-harmless apart plan = record {
    sound = λ y z r c. field-set p v k n r y z (f y z r c);
    stays = λ y z e c. (f y z (Err e) c).1;
    held = λ y z a s c ids names h. let d = f y z (Ok a) c in
        subst (IsHeld ids names) (sym (field-after plan h.sound y z s d.2)) (set_held plan ids names h g t p v k n (noted (SetVar g t p v k n) plan).own (standing g t plan (sets p v k n) y s ∙ d.0) apart);
  }

  pub field-does : {old new : Plan} {r : Result ℕ Refusal} → IsSound old.groups → ChangesTelegram g t R old r new → DoesAlways (SetVar g t p v k n) old r new
  field-does sound (Missing e m q w) = rw (q, w) (first-more _ _ _ e m, refl)
  field-does {old} sound (Refused e y z s c q w) = let d = f y z (Err e) c in rw (q, w d.1) (standing g t old.groups (sets p v k n) y s ∙ d.0, refl)
  field-does {old} sound (Made a y z s c q w) = let d = f y z (Ok a) c in rw (q, w) (standing g t old.groups (sets p v k n) y s ∙ d.0, ap (λ gs. counted gs (old.changes + 1)) (field-after old.groups sound y z s d.2))

-- ---- What setting a field of a header makes of a plan and of its indexes

module _ (g : Tag) (t : ℕ) (v : Var) (n : ℕ) {R : Call ℕ} (f : (y z : Telegram) (r : Result ℕ TelegramFault) → R y r z → SetsHead v n y r z) where
  pub head-harmless : (plan : rules.Plan) → IsHarmless g t plan R
  head-harmless plan = record {
    sound = λ y z r c. head-set v n r y z (f y z r c);
    stays = λ y z e c. (f y z (Err e) c).1;
    held = λ y z a s c ids names h. let d = f y z (Ok a) c in held-kept plan h.sound g t y z s (head-set v n (Ok a) y z d) ids names h (λ p. ap (λ (x : Telegram). find same_tag p x.packets) d.2);
  }

  pub head-does : {old new : Plan} {r : Result ℕ Refusal} → IsSound old.groups → ChangesTelegram g t R old r new → DoesAlways (SetHead g t v n) old r new
  head-does sound (Missing e m q w) = rw (q, w) (first-more _ _ _ e m, refl)
  head-does {old} sound (Refused e y z s c q w) = let d = f y z (Err e) c in rw (q, w d.1) (standing g t old.groups (heads v n) y s ∙ d.0, refl)
  head-does {old} sound (Made a y z s c q w) =
      let d = f y z (Ok a) c in
      let own = (noted (SetHead g t v n) old.groups).own in
      rw (q, w) (standing g t old.groups (heads v n) y s ∙ d.0, ap (λ gs. counted gs (old.changes + 1)) (by-telegram (telegram_after (0, SetHead g t v n) own) g t old.groups sound y z s (d.2 ∙ head-at own g t v n y) (head-other own g t v n)))
