-- What setting the number of a link makes of a plan and of its indexes.
use Rattle.std.proofs.Common.{◌≡◌, ◌<◌, ◌≤◌, ◌^◌, ℕ, Bool, true, false, cond, eqb, ◌&&◌, [], ◌∷◌, Option, Some, None, refl, sym, ap, subst, ◌∙◌, arith}
use Rattle.std.specs.Map.{set_value}
use Rattle.std.specs.Prelude.{option_and_then, option_map, is_none, unwrap_or}
use Rattle.std.specs.BTreeSet as set
use Rattle.std.proofs.lemmas.Bool.{eqb-true, le-ltb, lt-ltb}
use Rattle.std.proofs.lemmas.Iterator.Adapters.{option_map_id}
use Rattle.balise_rules.specs.declared.tag.Tag.{Tag}
use Rattle.balise_rules.specs.declared.identity.Id.{Id}
use Rattle.balise_rules.specs.declared.refusal.Refusal.{Refusal}
use Rattle.balise_rules.specs.declared.refusal.Refusal.TheVariants.{NoSuchPacket, NoSuchVariable, Steering, ValueTooWide}
use Rattle.balise_rules.specs.declared.variable.Var.TheVariants.{NidBg, NidC}
use Rattle.balise_rules.specs.Variables.{steers, width_of}
use Rattle.balise_rules.specs.Tagged.{find}
use Rattle.balise_rules.specs.Tags.{Key, same_tag, same_id, same_key}
use Rattle.balise_rules.specs.Forms.{Numbered}
use Rattle.balise_rules.specs.Packet.{Packet, field_of}
use Rattle.balise_rules.specs.Telegram.{Telegram}
use Rattle.balise_rules.specs.Plan.{Group, telegram_at, country_of}
use Rattle.balise_rules.specs.Plan as rules
use Rattle.balise_rules.specs.Doing.{refusal, first_of, when, too_wide}
use Rattle.balise_rules.specs.Names.{country_at, is_it, is_real}
use Rattle.balise_rules.specs.Notes.{note_at, noted, set_note}
use Rattle.balise_rules.specs.declared.tagged_edit.TaggedEdit.TheVariants.{SetVar}
use Rattle.balise_rules.proofs.Tests.{test-sym, tag_test, key_test, nat_test}
use Rattle.balise_rules.proofs.Cases.{found, map_itself}
use Rattle.balise_rules.proofs.Found.{group_sound}
use Rattle.balise_rules.proofs.Lists.{find-each}
use Rattle.balise_rules.proofs.Keys.{other_key}
use Rattle.balise_layout.specs.Held.{with_field as with_packet_field}
use Rattle.balise_telegram.specs.Setting.{field_refusal, with_changed}
use Rattle.balise_index.specs.declared.link_place.LinkPlace.{LinkPlace}
use Rattle.balise_index.specs.NameIndex.{held, IndexOf}
use Rattle.balise_index.proofs.places.Equal.{place_is}
use Rattle.balise_plan.specs.declared.links.change.Change.TheVariants.{Name}
use Rattle.balise_plan.specs.Links.{named_at, named_in_packet}
use Rattle.balise_plan.specs.ElementIn.{ElementIn, NoElement, element_refusal, link_refusal}
use Rattle.balise_plan.specs.PacketLinks.{is_in}
use Rattle.balise_plan.specs.Relinking.{AddsReal, ForgetsOther}
use Rattle.balise_plan.specs.Walks.{changed, in_group}
use Rattle.balise_plan.specs.Held.{IsHeld}
use Rattle.balise_plan.specs.InTelegram.{with_telegram}
use Rattle.balise_plan.proofs.fields.Levels.{set-is}
use Rattle.balise_plan.proofs.items.Places.{value-each}
use Rattle.balise_plan.proofs.naming.Identities.{country-each, id_in_packet, id-parts}
use Rattle.balise_plan.proofs.naming.LinksAt.{Linking, linking, links-at}
use Rattle.balise_plan.proofs.naming.OfPacket.{named-inside, numbered}
use Rattle.balise_plan.proofs.naming.Relinked.{relinked}
use Rattle.balise_plan.proofs.naming.Walking.{place}
use Rattle.balise_plan.proofs.plans.Outcomes.{Outcome}
use Rattle.balise_plan.proofs.telegrams.Answered.{at-group, written}
use Rattle.balise_plan.proofs.telegrams.Replaced.{held-put}
use Rattle.balise_plan.proofs.telegrams.Sound.{element-changed}
use Rattle.balise_plan.proofs.telegrams.Edits.{set-refused}

-- the number of an element that stands, and its country
module _ (p : Tag) (k : ℕ) (y : Telegram) (from : Id) (l : Linking p k y from) where
  linked-number : (field_of NidBg k l.packet.fields ≡ Some from.number) × (from.country ≡ country_at (country_of y) k l.packet.fields)
  linked-number = let n = id-parts (country_at (country_of y) k l.packet.fields) from (field_of NidBg k l.packet.fields) l.names in (n.0, sym n.1)

-- ---- the packet with the new number

module _ (k n : ℕ) (x : Packet) where
  abbrev change : Key → ℕ → ℕ
  change key old = cond (same_key (NidBg, k) key) n old

  same-countries : (c j : ℕ) → country_at c j (with_packet_field NidBg k n x).fields ≡ country_at c j x.fields
  same-countries c j = country-each change (λ key m e. ap (λ b. cond b n m) (other_key NidC NidBg k key refl e)) c j x.fields

  new-number : (was : ℕ) → field_of NidBg k x.fields ≡ Some was → field_of NidBg k (with_packet_field NidBg k n x).fields ≡ Some n
  new-number was e = find-each key_test change (NidBg, k) x.fields ∙ ap (option_map (change (NidBg, k))) e ∙ ap (λ b. Some (cond b n was)) (key_test.itself (NidBg, k))

  old-number : (j : ℕ) → eqb k j ≡ false → field_of NidBg j (with_packet_field NidBg k n x).fields ≡ field_of NidBg j x.fields
  old-number j e = find-each key_test change (NidBg, j) x.fields ∙ sym (map_itself (change (NidBg, j)) (λ m. ap (λ b. cond b n m) e) (field_of NidBg j x.fields))

  pub named-new : (c was : ℕ) (q : Id) → field_of NidBg k x.fields ≡ Some was → named_in_packet c q k (Some (with_packet_field NidBg k n x)) ≡ same_id (record { country = country_at c k x.fields; number = n }) q
  named-new c was q e = ap (λ d. is_it d q (field_of NidBg k (with_packet_field NidBg k n x).fields)) (same-countries c k) ∙ ap (is_it (country_at c k x.fields) q) (new-number was e)

  pub named-old : (c j : ℕ) (q : Id) → eqb k j ≡ false → named_in_packet c q j (Some (with_packet_field NidBg k n x)) ≡ named_in_packet c q j (Some x)
  named-old c j q e = ap (λ d. is_it d q (field_of NidBg j (with_packet_field NidBg k n x).fields)) (same-countries c j) ∙ ap (is_it (country_at c j x.fields) q) (old-number j e)

parted : (a b d e : Bool) (x y z : Bool) → ((a && (b && d)) ≡ true → e ≡ true → x ≡ y) → ((a && (b && d)) ≡ true → e ≡ false → z ≡ y) → cond (a && (b && (d && e))) x z ≡ cond (a && (b && d)) y z
parted a b d e x y z h k = grind arith

-- ---- refusals, by the packet and by its field

module _ (k n : ℕ) where
  abbrev by_field : Option ℕ → Option Refusal
  by_field o = first_of (when (is_none o) NoSuchVariable ∷ when (steers NidBg) Steering ∷ too_wide NidBg n ∷ [])

  abbrev by_packet : Option Packet → Option Refusal
  by_packet o = first_of (when (is_none o) NoSuchPacket ∷ when (is_none (option_and_then (λ (x : Packet). field_of NidBg k x.fields) o)) NoSuchVariable ∷ when (steers NidBg) Steering ∷ too_wide NidBg n ∷ [])

  abbrev by_link : Option Id → Option Refusal
  by_link o = first_of (when (is_none o) NoSuchVariable ∷ [])

  fits-well : (v : ℕ) → n < 2 ^ 14 → by_field (Some v) ≡ None
  unfolding steers width_of
  fits-well v h = let b = lt-ltb n 16384 h in simp b

  too-wide : (v : ℕ) → 2 ^ 14 ≤ n → by_field (Some v) ≡ Some ValueTooWide
  unfolding steers width_of
  too-wide v h = let b = le-ltb n 16384 h in simp b

  lacking : (p : Tag) (y : Telegram) (e : Refusal) → ((x : Packet) → find same_tag p y.packets ≡ Some x → Numbered x.fields) → element_refusal p k (Some y) ≡ Some e → field_refusal p NidBg k n y ≡ Some e
  lacking p y e u h =
      found (find same_tag p y.packets)
      (λ a. ap by_packet a ∙ sym (ap (link_refusal (country_of y) k) a) ∙ h)
      (λ x a.
      let l = links-at (country_of y) k x (u x a) in
      let r : by_link (id_in_packet (country_of y) k x) ≡ Some e = sym (ap by_link l) ∙ sym (ap (link_refusal (country_of y) k) a) ∙ h in
      found (field_of NidBg k x.fields)
      (λ f. ap by_packet a ∙ ap by_field f ∙ sym (ap (λ o. by_link (option_map (λ (v : ℕ). record { country = country_at (country_of y) k x.fields; number = v }) o)) f) ∙ r)
      (λ v f. absurd (let q = sym (ap (λ o. by_link (option_map (λ (v : ℕ). record { country = country_at (country_of y) k x.fields; number = v }) o)) f) ∙ r in cc)))

-- ---- what the code knows

module _ (plan : rules.Plan) (ids : IndexOf Tag) (names : IndexOf (set.BTreeSet LinkPlace)) (held_is : IsHeld ids names plan) (g : Tag) (t : ℕ) (p : Tag) (k : ℕ) (ys : Group) (here : find same_tag g plan ≡ Some ys) where
  at-telegram : (y : Telegram) → find eqb t ys ≡ Some y → telegram_at g t plan ≡ Some y
  at-telegram y e = at-group g t plan held_is.sound ys ys here (Some y) e

  -- no such element
  pub untold : (n : ℕ) (e : Refusal) → NoElement t p k ys e → refusal (SetVar g t p NidBg k n) plan ≡ Some e
  untold n e h =
      found (find eqb t ys)
      (λ a. set-refused g t plan ys here p NidBg k n None (at-group g t plan held_is.sound ys ys here None a) ∙ sym (ap (element_refusal p k) a) ∙ h)
      (λ y a. set-refused g t plan ys here p NidBg k n (Some y) (at-telegram y a) ∙ lacking k n p y e (numbered g t plan held_is.sound y (at-telegram y a) p) (sym (ap (element_refusal p k) a) ∙ h))

  module _ (from : Id) (element : ElementIn t p k ys from) where
    abbrev y : Telegram
    y = element.0

    stands : telegram_at g t plan ≡ Some y
    stands = at-telegram y element.1

    link : Linking p k y from
    link = linking p k y from (numbered g t plan held_is.sound y stands p) element.2

    number : field_of NidBg k link.packet.fields ≡ Some from.number
    number = (linked-number p k y from link).0

    -- by the number alone
    told : (n : ℕ) → refusal (SetVar g t p NidBg k n) plan ≡ by_field k n (Some from.number)
    told n = set-refused g t plan ys here p NidBg k n (Some y) stands ∙ ap (by_packet k n) link.there ∙ ap (by_field k n) number

    pub wide-refused : (n : ℕ) → 2 ^ 14 ≤ n → refusal (SetVar g t p NidBg k n) plan ≡ Some ValueTooWide
    wide-refused n h = told n ∙ too-wide k n from.number h

    pub none-refused : (n : ℕ) → n < 2 ^ 14 → refusal (SetVar g t p NidBg k n) plan ≡ None
    none-refused n h = told n ∙ fits-well k n from.number h

    -- its old number
    pub old-number_is : (n : ℕ) → from.number ≡ (noted (SetVar g t p NidBg k n) plan).old
    old-number_is n = sym (ap (λ o. (note_at (SetVar g t p NidBg k n) o).old) stands ∙ ap (λ o. (set_note NidBg k n (country_of y) o).old) link.there ∙ ap (λ o. unwrap_or o 0) number)

    module _ (n : ℕ) (fits : n < 2 ^ 14) where
      abbrev to : Id
      to = record { country = from.country; number = n }

      abbrev next : Telegram
      next = with_changed p (with_packet_field NidBg k n) y

      abbrev changed_packet : Packet
      changed_packet = with_packet_field NidBg k n link.packet

      to_is : to ≡ record { country = country_at (country_of y) k link.packet.fields; number = n }
      to_is = ap (λ (c : ℕ). record { country = c; number = n }) (linked-number p k y from link).1

      body : (r : Tag) → find same_tag r next.packets ≡ option_map (λ z. cond (same_tag p r) (with_packet_field NidBg k n z) z) (find same_tag r y.packets)
      body r = find-each tag_test (λ q z. cond (same_tag p q) (with_packet_field NidBg k n z) z) r y.packets

      itself : find same_tag p next.packets ≡ Some changed_packet
      itself = body p ∙ ap (option_map (λ z. cond (same_tag p p) (with_packet_field NidBg k n z) z)) link.there ∙ ap (λ b. Some (cond b changed_packet link.packet)) (tag_test.itself p)

      other : (r : Tag) → same_tag r p ≡ false → find same_tag r next.packets ≡ find same_tag r y.packets
      other r d = body r ∙ ap (λ b. option_map (λ z. cond b (with_packet_field NidBg k n z) z) (find same_tag r y.packets)) (test-sym tag_test p r ∙ d) ∙ option_map_id (find same_tag r y.packets)

      module _ (mid after : IndexOf (set.BTreeSet LinkPlace)) (adds : AddsReal names mid to (place g t p k)) (forgets : ForgetsOther mid after to from (place g t p k)) where
        index : (q : Id) (w : LinkPlace) → held after q w ≡ cond (is_in g t p w) (is_real q && named_in_packet (country_of y) q w.element (Some changed_packet)) (named_at q w plan)
        index q w =
            relinked g t p k plan held_is.sound y stands names held_is.named from link to mid after adds forgets q w
            ∙ ap (λ b. cond b (is_real q && same_id to q) (held names q w)) (place_is (place g t p k) w)
            ∙ ap (cond (same_tag g w.group && (eqb t w.telegram && (same_tag p w.packet && eqb k w.element))) (is_real q && same_id to q)) (held_is.named q w)
            ∙ parted (same_tag g w.group) (eqb t w.telegram) (same_tag p w.packet) (eqb k w.element) _ (is_real q && named_in_packet (country_of y) q w.element (Some changed_packet)) (named_at q w plan)
            (λ d m. ap (λ b. is_real q && b) (ap (λ j. same_id j q) to_is ∙ sym (named-new k n link.packet (country_of y) from.number q number) ∙ ap (λ j. named_in_packet (country_of y) q j (Some changed_packet)) (eqb-true k w.element m)))
            (λ d m. named-inside g t plan held_is.sound y stands p q w d ∙ ap (λ o. is_real q && named_in_packet (country_of y) q w.element o) link.there
            ∙ ap (λ b. is_real q && b) (sym (named-old k n link.packet (country_of y) w.element q m)))

        -- set
        pub link-set : (zs : Group) → zs ≡ in_group t p (changed (Name n) k) ys → Outcome (SetVar g t p NidBg k n) ids after plan (set_value (same_tag g) plan zs)
        link-set zs e =
            let f = with_changed p (with_packet_field NidBg k n) in
            let set = λ (h : Telegram → Telegram) (q : next ≡ h y). value-each nat_test t h ys y next (group_sound plan held_is.sound g ys here).tags element.1 q in
            let w : set_value (same_tag g) plan zs ≡ with_telegram g t next plan = written g t plan held_is.sound ys zs here next (e ∙ sym (set f refl) ∙ set (λ _. next) refl) in
            record {
              accepted = none-refused n fits;
              is = value-each tag_test g _ plan ys zs held_is.sound.tags here e ∙ set-is 0 (noted (SetVar g t p NidBg k n) plan).own g t p NidBg k n plan;
              held = subst (IsHeld ids after) (sym w) (held-put plan held_is.sound g t y next stands (element-changed p (Name n) k fits y next refl) ids names held_is p (Some changed_packet) itself other after index);
            }
