-- A sound plan with one telegram replaced by another that is sound in its place.
use Rattle.std.proofs.Common.{◌≡◌, ℕ, ◌-◌, Bool, true, false, cond, eqb, ◌&&◌, length, Option, Some, refl, sym, ap, subst, ◌∙◌, arith}
use Rattle.std.specs.Prelude.{option_and_then}
use Rattle.std.specs.Option.{option_map}
use Rattle.std.proofs.lemmas.Bool.{cond_both}
use Rattle.std.specs.BTreeSet as set
use Rattle.balise_rules.specs.declared.tag.Tag.{Tag}
use Rattle.balise_rules.specs.declared.identity.Id.{Id}
use Rattle.balise_rules.specs.Tagged.{find, each}
use Rattle.balise_rules.specs.Tags.{same_tag}
use Rattle.balise_rules.specs.Packet.{Packet}
use Rattle.balise_rules.specs.Telegram.{Telegram}
use Rattle.balise_rules.specs.Plan.{Group, IsSound, IsSoundTelegram, country_of, identity_of, telegram_at}
use Rattle.balise_rules.specs.Plan as rules
use Rattle.balise_rules.specs.Names.{is_real}
use Rattle.balise_rules.specs.declared.tagged_edit.TaggedEdit.TheVariants.{TurnGroup}
use Rattle.balise_rules.proofs.Tests.{split_on, test-sym, tag_test}
use Rattle.balise_rules.proofs.Cases.{unsome}
use Rattle.balise_rules.proofs.AllItems.{all-each_found}
use Rattle.balise_rules.proofs.Distincts.{distinct-each}
use Rattle.balise_rules.proofs.Found.{group_sound, stood, place_is}
use Rattle.balise_rules.specs.Plan.{IsSoundGroup}
use Rattle.balise_edit_laws.proofs.GroupsKept.{GroupKept}
use Rattle.balise_edit_laws.proofs.Identities.{differ_apart, apart_differ, apart_each}
use Rattle.balise_index.specs.declared.link_place.LinkPlace.{LinkPlace}
use Rattle.balise_index.specs.NameIndex.{held, IndexOf}
use Rattle.balise_plan.specs.Links.{named_at, named_in_packet, named_in_telegram}
use Rattle.balise_plan.specs.PacketLinks.{is_in}
use Rattle.balise_plan.specs.Held.{IsHeld, tag_named}
use Rattle.balise_plan.specs.InTelegram.{Replaces, with_telegram}
use Rattle.balise_plan.proofs.groups.Sound.{each-kept}
use Rattle.balise_plan.proofs.renumbering.Plans.{telegram-each}
use Rattle.balise_plan.proofs.turned.Plans.{tags-kept}
use Rattle.balise_plan.proofs.naming.OfGroup.{by-cond}

map_const : {A : Type 0} (b : Bool) (y z : A) (o : Option A) → (b ≡ true → o ≡ Some y) → option_map (λ x. cond b z x) o ≡ cond b (Some z) o
map_const b y z o h = grind arith

-- at a place of a telegram: what it names afterwards, named before, put in and in the plan
one-put : (a b c after before put named : Bool) → ((a && b) ≡ true → named ≡ before) → (c ≡ true → after ≡ put) → (c ≡ false → after ≡ before) → cond (a && b) after named ≡ cond (a && (b && c)) put named
one-put a b c after before put named h k l = grind arith

module _ (plan : rules.Plan) (sound : IsSound plan) (g : Tag) (t : ℕ) (y z : Telegram) (here : telegram_at g t plan ≡ Some y) (replaces : Replaces y z) where
  abbrev group : Tag → Group → Group
  group h us = each (λ u x. cond (same_tag g h && eqb t u) z x) us

  group-kept : (h : Tag) (us : Group) → find same_tag h plan ≡ Some us → GroupKept (identity_of us) (group h us)
  group-kept h us e =
      each-kept us (group_sound plan sound h us e) (λ u x. cond (same_tag g h && eqb t u) z x)
      (λ u x f i last m w. split_on (same_tag g h && eqb t u)
      (λ d. let q : x ≡ y = unsome (sym (ap (option_and_then (find eqb u)) e ∙ f) ∙ sym (place_is g h t u plan d) ∙ here) in
      simp d (replaces i last m (subst (λ v. IsSoundTelegram i last m v) q w)))
      (λ d. simp d w))

  pub replaced-sound : IsSound (with_telegram g t z plan)
  replaced-sound =
      let u = distinct-each tag_test group plan sound.tags in
      let all = differ_apart plan sound.identities in
      record {
        tags = u;
        identities = apart_differ (each group plan) u (apart_each (TurnGroup g) group plan all (λ h us e. (group-kept h us e).identity) all);
        groups = all-each_found tag_test IsSoundGroup group plan sound.tags (λ h us e. (group-kept h us e).sound);
      }

  pub replaced-tags : (q : Id) → tag_named q (with_telegram g t z plan) ≡ tag_named q plan
  replaced-tags q = tags-kept plan (with_telegram g t z plan) sound replaced-sound group refl (λ h us e. (group-kept h us e).identity) q

  pub replaced-at : (h : Tag) (u : ℕ) → telegram_at h u (with_telegram g t z plan) ≡ cond (same_tag g h && eqb t u) (Some z) (telegram_at h u plan)
  replaced-at h u =
      telegram-each (λ h u x. cond (same_tag g h && eqb t u) z x) h u plan
      ∙ map_const (same_tag g h && eqb t u) y z (telegram_at h u plan) (λ d. sym (place_is g h t u plan d) ∙ here)

  pub same-country : country_of z ≡ country_of y
  same-country =
      let s = stood g t plan sound y here in
      let a = replaces (identity_of s.group) (length s.group - 1) s.placed.place s.placed.sound in
      ap (λ (i : Id). i.country) (a.identity ∙ sym s.placed.sound.identity)

  -- what is named at a place
  named-replaced : (q : Id) (w : LinkPlace) → named_at q w (with_telegram g t z plan) ≡ cond (same_tag g w.group && eqb t w.telegram) (is_real q && named_in_packet (country_of y) q w.element (find same_tag w.packet z.packets)) (named_at q w plan)
  named-replaced q w =
      ap (λ o. is_real q && named_in_telegram q w o) (replaced-at w.group w.telegram)
      ∙ by-cond (λ o. is_real q && named_in_telegram q w o) (same_tag g w.group && eqb t w.telegram) (Some z) (telegram_at w.group w.telegram plan)
      ∙ ap (λ c. cond (same_tag g w.group && eqb t w.telegram) (is_real q && named_in_packet c q w.element (find same_tag w.packet z.packets)) (named_at q w plan)) same-country

  -- what was named at a place of the telegram
  named-there : (q : Id) (w : LinkPlace) → (same_tag g w.group && eqb t w.telegram) ≡ true → named_at q w plan ≡ (is_real q && named_in_packet (country_of y) q w.element (find same_tag w.packet y.packets))
  named-there q w d = ap (λ o. is_real q && named_in_telegram q w o) (sym (place_is g w.group t w.telegram plan d) ∙ here)

  -- where each packet that is found stays
  pub named-kept : ((p : Tag) → find same_tag p z.packets ≡ find same_tag p y.packets) → (q : Id) (w : LinkPlace) → named_at q w (with_telegram g t z plan) ≡ named_at q w plan
  named-kept same q w =
      named-replaced q w
      ∙ cond_both (same_tag g w.group && eqb t w.telegram) _ _ (λ v. v ≡ named_at q w plan)
      (λ d. ap (λ o. is_real q && named_in_packet (country_of y) q w.element o) (same w.packet) ∙ sym (named-there q w d)) (λ _. refl)

  -- where each but one stays
  pub named-put : (p : Tag) (o : Option Packet) → find same_tag p z.packets ≡ o → ((r : Tag) → same_tag r p ≡ false → find same_tag r z.packets ≡ find same_tag r y.packets) →
      (q : Id) (w : LinkPlace) → named_at q w (with_telegram g t z plan) ≡ cond (is_in g t p w) (is_real q && named_in_packet (country_of y) q w.element o) (named_at q w plan)
  named-put p o e same q w =
      named-replaced q w
      ∙ one-put (same_tag g w.group) (eqb t w.telegram) (same_tag p w.packet) _ (there (find same_tag w.packet y.packets)) (there o) (named_at q w plan) (named-there q w)
      (λ d. ap there (ap (λ r. find same_tag r z.packets) (sym (tag_test.one p w.packet d)) ∙ e)) (λ d. ap there (same w.packet (test-sym tag_test w.packet p ∙ d)))
    where
      there : Option Packet → Bool
      there x = is_real q && named_in_packet (country_of y) q w.element x

  module _ (ids : IndexOf Tag) (names : IndexOf (set.BTreeSet LinkPlace)) (held_is : IsHeld ids names plan) where
    pub held-kept : ((p : Tag) → find same_tag p z.packets ≡ find same_tag p y.packets) → IsHeld ids names (with_telegram g t z plan)
    held-kept same = record {
      sound = replaced-sound;
      tags = λ q. held_is.tags q ∙ sym (replaced-tags q);
      named = λ q w. held_is.named q w ∙ sym (named-kept same q w);
    }

    pub held-put : (p : Tag) (o : Option Packet) → find same_tag p z.packets ≡ o → ((r : Tag) → same_tag r p ≡ false → find same_tag r z.packets ≡ find same_tag r y.packets) →
        (after : IndexOf (set.BTreeSet LinkPlace)) → ((q : Id) (w : LinkPlace) → held after q w ≡ cond (is_in g t p w) (is_real q && named_in_packet (country_of y) q w.element o) (named_at q w plan)) →
        IsHeld ids after (with_telegram g t z plan)
    held-put p o e same after index = record {
      sound = replaced-sound;
      tags = λ q. held_is.tags q ∙ sym (replaced-tags q);
      named = λ q w. index q w ∙ sym (named-put p o e same q w);
    }
