-- What taking a packet out makes of a plan and of its indexes.
use Rattle.std.proofs.Common.{◌≡◌, ◌⊎◌, inl, inr, ℕ, eqb, Option, Some, None, Ok, Err, refl, ◌+◌, sym, ap, subst, ◌∙◌, true, false, cond, ◌&&◌, Result, arith, [], ◌∷◌}
use Rattle.std.specs.Map.{set_value}
use Rattle.std.specs.Prelude.{is_none, option_map, option_and_then, unwrap_or}
use Rattle.balise_rules.specs.declared.tag.Tag.{Tag}
use Rattle.balise_rules.specs.declared.refusal.Refusal.{Refusal}
use Rattle.balise_rules.specs.Tagged.{find, put_before, without, move}
use Rattle.balise_rules.specs.Tags.{same_tag}
use Rattle.balise_rules.specs.Packet.{Packet, IsSpelt}
use Rattle.balise_rules.specs.Telegram.{Telegram, version_of}
use Rattle.balise_rules.specs.Plan.{Group, IsSound, telegram_at, country_of}
use Rattle.balise_rules.specs.Doing.{refusal, when, first_of, no_group, no_telegram as lacks}
use Rattle.balise_rules.specs.Notes.{noted}
use Rattle.balise_rules.specs.Edits.{telegram_after}
use Rattle.balise_rules.specs.declared.tagged_edit.TaggedEdit.TheVariants.{DeletePacket, MovePacket}
use Rattle.balise_rules.proofs.Tests.{tag_test, split_keys}
use Rattle.balise_rules.proofs.Cases.{unsome, found}
use Rattle.balise_rules.proofs.Lists.{find-without, find-without_same}
use Rattle.balise_telegram.specs.Faults.{refusal_of}
use Rattle.balise_telegram.specs.Changes.{OrWants, InsertsOrWants}
use Rattle.balise_telegram.specs.Moving.{TakesOut, insert_refusal, moved_before}
use Rattle.balise_rules.specs.Names.{links_of}
use Rattle.balise_index.specs.declared.link_place.LinkPlace.{LinkPlace}
use Rattle.balise_index.specs.NameIndex.{held, IndexOf, Keeps}
use Rattle.balise_plan.specs.GroupLinks.{links_from, listed, KeepsOthers, SetsAll}
use Rattle.balise_plan.specs.Within.{Within}
use Rattle.balise_plan.specs.Held.{IsHeld, Plan}
use Rattle.balise_plan.specs.InTelegram.{Call, ChangesTelegram, InTelegram, IsHarmless, Made, Missing, Refused, with_telegram}
use Rattle.balise_plan.proofs.telegrams.Replaced.{held-put, held-kept}
use Rattle.balise_plan.proofs.telegrams.Answered.{by-telegram, at-group, spoken}
use Rattle.balise_plan.proofs.plans.Outcomes.{counted, Outcome, Failed, to-groups}
use Rattle.balise_plan.proofs.telegrams.Edits.{delete-at, delete-other, deletes, first-more, here, missing, put-refused, move-at, move-other, moves, moves-before, standing}
use Rattle.balise_plan.proofs.telegrams.Sound.{packet-taken, fits-in, packet-put, Movable, movable, packet-moved, rebuilt, stands-other}
use Rattle.balise_plan.proofs.naming.OfPacket.{forgotten, added, none-noted}
use Rattle.balise_rules.specs.declared.identity.Id.{Id}
use Rattle.balise_rules.specs.Back.{in_packets, with_packets}
use Rattle.balise_telegram.specs.declared.fault.TelegramFault.{TelegramFault}
use Rattle.balise_telegram.specs.declared.fault.TelegramFault.TheVariants.{OutOfMemory as WantsMemory}
use Rattle.balise_rules.specs.declared.tag.Tag.TheVariants.{Base}
use Rattle.balise_index.specs.declared.spot.Spot.{Spot}
use Rattle.balise_plan.proofs.naming.GroupLists.{taken_back}
use Rattle.balise_plan.specs.PutsIn.{MayStand, PutsIn, no_telegram as no_telegram_for, passed, ShiftsIn}
use Rattle.balise_index.specs.AtSpot.{put_in, spot_stands}
use Rattle.balise_plan.specs.Spots.{put_refusal, shift_refusal, shifted, ShiftsPacket}
use Rattle.balise_plan.proofs.items.Inserted.{put-between, between-other, between-itself}
use Rattle.balise_rules.specs.Accepting.{Accepted, AcceptedAt, AcceptedIn}
use Rattle.balise_rules.proofs.Moved.{find-move}
use Rattle.balise_rules.proofs.Anchors.{find-move_same}
use Rattle.balise_edit_laws.proofs.Refusing.{refused_exactly}
use Rattle.balise_index.specs.declared.spot.Spot.TheVariants.{After, Before}
use Rattle.std.specs.BTreeSet as set
use Rattle.balise_rules.specs.declared.refusal.Refusal.TheVariants as refusals
use Rattle.balise_rules.specs.Plan as rules

module _ (plan : rules.Plan) (ids : IndexOf Tag) (names : IndexOf (set.BTreeSet LinkPlace)) (held_is : IsHeld ids names plan) (g : Tag) (t : ℕ) (p : Tag) (ys : Group) (here : find same_tag g plan ≡ Some ys) where
  -- no telegram stands there
  pub untold : None ≡ option_map country_of (find eqb t ys) → refusal (DeletePacket g t p) plan ≡ Some refusals.NoSuchTelegram
  untold e = first-more _ _ _ _ (missing g t plan ys here None (at-group g t plan held_is.sound ys ys here None (let none : find eqb t ys ≡ None = grind arith in none)))

  module _ {R : Call (Packet × Option Tag)} (f : (y z : Telegram) (r : Result (Packet × Option Tag) TelegramFault) → R y r z → OrWants (TakesOut p) y r z) {groups : rules.Plan} where
    pub untaken : {e : Refusal} → InTelegram g t R plan (Err e) (groups ≡ plan) (λ z. groups ≡ with_telegram g t z plan) → Failed (DeletePacket g t p) plan groups e
    untaken {e} (Missing m c q s) = let d : e ≡ m = cc in record { why = inr (first-more _ _ _ _ c ∙ ap Some (sym d)); is = s }
    untaken {e} (Refused m y z h c q s) = let d : e ≡ refusal_of m = cc in rw d (by (f y z (Err m) c))
      where
        by : ((m ≡ WantsMemory) × (z ≡ y)) ⊎ TakesOut p y (Err m) z → Failed (DeletePacket g t p) plan groups (refusal_of m)
        by (inl k) = record { why = inl (ap refusal_of k.0); is = s k.1 }
        by (inr k) = record { why = inr (standing g t plan (deletes p) y h ∙ ap (λ (o : Option Packet). first_of (when (is_none o) refusals.NoSuchPacket ∷ [])) k.0 ∙ ap (λ l. Some (refusal_of l)) (sym k.1)); is = s k.2 }
    untaken (Made a y z h c q s) = absurd cc

    pub taken : {a : Packet × Option Tag} (c : ℕ) → Some c ≡ option_map country_of (find eqb t ys) → InTelegram g t R plan (Ok a) (groups ≡ plan) (λ z. groups ≡ with_telegram g t z plan) →
        (x : Packet) → x ≡ a.0 → (after : IndexOf (set.BTreeSet LinkPlace)) → SetsAll false (links_from g t p 0 (links_of c x)) names after → Outcome (DeletePacket g t p) ids after plan groups
    taken c told (Missing m d q s) x lent after n = absurd cc
    taken c told (Refused m y z h d q s) x lent after n = absurd cc
    taken {a} c told (Made b y z h d q s) x lent after n =
        let k = f y z (Ok b) d in
        let own = (noted (DeletePacket g t p) plan).own in
        let is : x ≡ b.0 = let same : a ≡ b = cc in lent ∙ ap (λ (w : Packet × Option Tag). w.0) same in
        let country : c ≡ country_of y = unsome (told ∙ ap (option_map country_of) (sym (ap (option_and_then (find eqb t)) here) ∙ h)) in
        let gone : find same_tag p z.packets ≡ None = ap (λ (u : Telegram). find same_tag p u.packets) k.2 ∙ find-without_same same_tag p y.packets in
        record {
          accepted = standing g t plan (deletes p) y h ∙ ap (λ (o : Option Packet). first_of (when (is_none o) refusals.NoSuchPacket ∷ [])) k.0;
          is = s ∙ by-telegram (telegram_after (0, DeletePacket g t p) own) g t plan held_is.sound y z h (k.2 ∙ delete-at own g t p y) (delete-other own g t p);
          held = subst (IsHeld ids after) (sym s) (held-put plan held_is.sound g t y z h (packet-taken p (Ok b) y z k) ids names held_is p None gone
              (λ r d. ap (λ (u : Telegram). find same_tag r u.packets) k.2 ∙ find-without tag_test r p d y.packets) after
              (forgotten g t p plan held_is.sound y h names after held_is.named b.0 k.0 (subst (λ (d : ℕ). SetsAll false (links_from g t p 0 (links_of d b.0)) names after) country (subst (λ (w : Packet). SetsAll false (links_from g t p 0 (links_of c w)) names after) is n))));
        }

-- ---- What putting a packet in makes of a plan and of its indexes

pub held-keeps : (ids : IndexOf Tag) (names after : IndexOf (set.BTreeSet LinkPlace)) (plan : rules.Plan) → IsHeld ids names plan → Keeps names after → IsHeld ids after plan
held-keeps ids names after plan h k = record { sound = h.sound; tags = h.tags; named = λ q w. k q w ∙ h.named q w }

-- what a refusal says
refused-or : (o : Option Refusal) (r : Refusal) → r ≡ unwrap_or o refusals.OutOfMemory → (r ≡ refusals.OutOfMemory) ⊎ (o ≡ Some r)
refused-or o r e = grind arith

-- A packet put in, and the indexes for what this makes.
pub record PutOutcome (g : Tag) (t : ℕ) (s : Spot Tag) (p : Tag) (x : Packet) (ids : IndexOf Tag) (names : IndexOf (set.BTreeSet LinkPlace)) (plan new : rules.Plan) : Type 0 where
  pub accepted : put_refusal g t s x plan ≡ None
  pub is : new ≡ in_packets g t (put_in s (p, x)) plan
  pub held : IsHeld ids names new

-- A packet not put in.
pub record PutFailed (g : Tag) (t : ℕ) (s : Spot Tag) (x : Packet) (plan new : rules.Plan) (e : Refusal × Packet) : Type 0 where
  pub why : (e.0 ≡ refusals.OutOfMemory) ⊎ (put_refusal g t s x plan ≡ Some e.0)
  pub back : e.1 ≡ x
  pub is : new ≡ plan

-- the packet may stand where the telegram does
abbrev pub MayPut : Tag → ℕ → Tag → Packet → rules.Plan → Type 0
MayPut g t p x plan = (y : Telegram) → telegram_at g t plan ≡ Some y → MayStand p x y

pub may-put : (g : Tag) (t : ℕ) (p : Tag) (x : Packet) {plan : rules.Plan} {n : ℕ} {old : Plan} → counted plan n ≡ old →
    ((y : Telegram) → telegram_at g t old.groups ≡ Some y → find same_tag p y.packets ≡ None) → ((y : Telegram) → telegram_at g t old.groups ≡ Some y → IsSpelt (version_of y) x) → MayPut g t p x plan
may-put g t p x v fresh spelt = to-groups (MayPut g t p x) v (λ y h. record { fresh = fresh y h; spelt = spelt y h })

module _ (plan : rules.Plan) (ids : IndexOf Tag) (names : IndexOf (set.BTreeSet LinkPlace)) (held_is : IsHeld ids names plan) (g : Tag) (t : ℕ) (s : Spot Tag) (p : Tag) (x : Packet) (ys : Group) (group : find same_tag g plan ≡ Some ys)
    (may : MayPut g t p x plan) where
  at : (o : Option Telegram) → find eqb t ys ≡ o → telegram_at g t plan ≡ o
  at o e = ap (option_and_then (find eqb t)) group ∙ e

  pub lacking : None ≡ option_map country_of (find eqb t ys) → put_refusal g t s x plan ≡ Some refusals.NoSuchTelegram
  lacking e = put-refused g t plan ys group s x None (at None (let none : find eqb t ys ≡ None = grind arith in none))

  -- the telegram stands whose country was told
  module _ (c : ℕ) (told : Some c ≡ option_map country_of (find eqb t ys)) where
    there : (y : Telegram) × (telegram_at g t plan ≡ Some y) × (c ≡ country_of y)
    there =
        found (find eqb t ys) (λ n. absurd (let q : Some c ≡ None = told ∙ ap (option_map country_of) n in cc))
        (λ y h. (y, at (Some y) h, unsome (told ∙ ap (option_map country_of) h)))

    -- none of its links is noted
    none-put : (q : Id) (w : LinkPlace) → listed q w (links_from g t p 0 (links_of c x)) ≡ true → held names q w ≡ false
    none-put = subst (λ (d : ℕ). (q : Id) (w : LinkPlace) → listed q w (links_from g t p 0 (links_of d x)) ≡ true → held names q w ≡ false) (sym there.2)
        (let can = may there.0 there.1 in none-noted g t p plan held_is.sound there.0 there.1 names names held_is.named x can.fresh can.spelt.numbered)

    -- what was noted of them, in part or all, and forgotten again
    pub kept-put : (a b : Packet) → a ≡ x → b ≡ x → (mid after : IndexOf (set.BTreeSet LinkPlace)) → KeepsOthers (links_from g t p 0 (links_of c a)) names mid → SetsAll false (links_from g t p 0 (links_of c b)) mid after → Keeps names after
    kept-put a b d e mid after o f =
        taken_back (links_from g t p 0 (links_of c x)) names mid after none-put
        (subst (λ (z : Packet). KeepsOthers (links_from g t p 0 (links_of c z)) names mid) d o)
        (subst (λ (z : Packet). SetsAll false (links_from g t p 0 (links_of c z)) mid after) e f)

    module _ (zs : Group) where
      pub put-failed : (e : Refusal × Packet) → Within eqb t (no_telegram_for x) (PutsIn s p x) ys (Err e) zs → PutFailed g t s x plan (set_value (same_tag g) plan zs) e
      put-failed e w =
          spoken g t plan held_is.sound ys zs group (no_telegram_for x) (PutsIn s p x) (Err e) w
          (λ n r i. let q : e ≡ (refusals.NoSuchTelegram, x) = cc in record { why = inr (put-refused g t plan ys group s x None n ∙ ap (λ z. Some z.0) (sym q)); back = ap (λ z. z.1) q; is = i })
          (λ y z h c i j. by y z h c.answer c.call c.is j)
        where
          by : (y z : Telegram) → telegram_at g t plan ≡ Some y → (a : Result Unit (TelegramFault × Packet)) → InsertsOrWants (spot_stands s y.packets) x (put_in s (p, x) y.packets) y a z → Err e ≡ passed a → (z ≡ y → set_value (same_tag g) plan zs ≡ plan) → PutFailed g t s x plan (set_value (same_tag g) plan zs) e
          by y z h (Ok u) k i j = absurd cc
          by y z h (Err f) (inl k) i j = let q : e ≡ (refusal_of f.0, f.1) = cc in record { why = inl (ap (λ z. z.0) q ∙ ap refusal_of k.0); back = ap (λ z. z.1) q ∙ k.1; is = j k.2 }
          by y z h (Err f) (inr k) i j =
              let q : e ≡ (refusal_of f.0, f.1) = cc in
              record { why = or (refused-or (insert_refusal (spot_stands s y.packets) x y) e.0 (ap (λ z. z.0) q ∙ k.0)); back = ap (λ z. z.1) q ∙ k.1; is = j k.2 }
            where
              or : (e.0 ≡ refusals.OutOfMemory) ⊎ (insert_refusal (spot_stands s y.packets) x y ≡ Some e.0) → (e.0 ≡ refusals.OutOfMemory) ⊎ (put_refusal g t s x plan ≡ Some e.0)
              or (inl m) = inl m
              or (inr m) = inr (put-refused g t plan ys group s x (Some y) h ∙ m)

      pub put-done : (u : Unit) → Within eqb t (no_telegram_for x) (PutsIn s p x) ys (Ok u) zs → (lent : Packet) → lent ≡ x → (after : IndexOf (set.BTreeSet LinkPlace)) → SetsAll true (links_from g t p 0 (links_of c lent)) names after →
          PutOutcome g t s p x ids after plan (set_value (same_tag g) plan zs)
      put-done u w lent is_lent after notes =
          spoken g t plan held_is.sound ys zs group (no_telegram_for x) (PutsIn s p x) (Ok u) w
          (λ n r i. absurd cc)
          (λ y z h r i j. by y z h r r.answer r.call r.is i)
        where
          adds : SetsAll true (links_from g t p 0 (links_of c x)) names after
          adds = subst (λ (z : Packet). SetsAll true (links_from g t p 0 (links_of c z)) names after) is_lent notes

          by : (y z : Telegram) → telegram_at g t plan ≡ Some y → PutsIn s p x y (Ok u) z → (a : Result Unit (TelegramFault × Packet)) → InsertsOrWants (spot_stands s y.packets) x (put_in s (p, x) y.packets) y a z → Ok u ≡ passed a → set_value (same_tag g) plan zs ≡ with_telegram g t z plan → PutOutcome g t s p x ids after plan (set_value (same_tag g) plan zs)
          by y z h r (Err f) k i j = absurd cc
          by y z h r (Ok v) k i j =
              let f = fits-in (spot_stands s y.packets) x y k.0 in
              let inside = put-between s (p, x) y.packets f.0 in
              let can = may y h in
              let country : c ≡ country_of y = there.2 ∙ ap country_of (unsome (sym there.1 ∙ h)) in
              let body : (r : Tag) → find same_tag r z.packets ≡ find same_tag r (put_in s (p, x) y.packets) = λ r. ap (λ (b : Telegram). find same_tag r b.packets) k.1 in
              record {
                accepted = put-refused g t plan ys group s x (Some y) h ∙ k.0;
                is = j ∙ by-telegram (λ a b d. cond (same_tag g a && eqb t b) (with_packets d (put_in s (p, x) d.packets)) d) g t plan held_is.sound y z h
                    (k.1 ∙ ap (λ b. cond b (with_packets y (put_in s (p, x) y.packets)) y) (sym (here g t)))
                    (λ a b d n. ap (λ b. cond b (with_packets d (put_in s (p, x) d.packets)) d) n);
                held = subst (IsHeld ids after) (sym j) (held-put plan held_is.sound g t y z h (packet-put s p x (Ok u) y z can r) ids names held_is p (Some x)
                    (body p ∙ between-itself inside can.fresh)
                    (λ r d. body r ∙ between-other inside r d) after
                    (added g t p plan held_is.sound y h names after held_is.named x can.fresh can.spelt.numbered (subst (λ (d : ℕ). SetsAll true (links_from g t p 0 (links_of d x)) names after) country adds)));
              }

-- ---- What moving a packet to a spot makes of a plan and of its indexes

-- ---- before a neighbour, in one telegram

same-before : (p : Tag) (n : Option Tag) (y : Telegram) → Movable p n y → (r : Tag) → find same_tag r (moved_before p n y.packets) ≡ find same_tag r y.packets
same-before p n y w r =
    let ps = y.packets in
    let b = put-between (Before n) (p, w.packet) (without same_tag p ps) (stands-other p n ps w.there w.other) in
    ap (find same_tag r) (rebuilt p n w.packet ps w.found)
    ∙ split_keys tag_test r p
    (λ d q. ap (λ u. find same_tag u (put_before same_tag n (p, w.packet) (without same_tag p ps))) q ∙ between-itself b (find-without_same same_tag p ps) ∙ sym (ap (λ u. find same_tag u ps) q ∙ w.found))
    (λ d. between-other b r d ∙ find-without tag_test r p d ps)

-- and after an anchor
same-after : (p : Tag) (b : Option Tag) (y : Telegram) → AcceptedIn (MovePacket (Base 0) 0 p b) y → (r : Tag) → find same_tag r (move same_tag p b y.packets) ≡ find same_tag r y.packets
same-after p b y w r =
    split_keys tag_test r p
    (λ d q. ap (λ u. find same_tag u (move same_tag p b y.packets)) q ∙ find-move_same p b w.0.0 y.packets w.0.1 w.1 w.2 ∙ sym (ap (λ u. find same_tag u y.packets) q ∙ w.0.1))
    (λ d. find-move tag_test r p b d y.packets)

-- ---- in the plan

module _ (g : Tag) (t : ℕ) (p : Tag) where
  -- refused, it leaves the telegram
  left : (s : Spot Tag) (y z : Telegram) (e : TelegramFault) → OrWants (ShiftsIn s p) y (Err e) z → z ≡ y
  left s y z e (inl c) = c.1
  left (After b) y z e (inr c) = c.1
  left (Before n) y z e (inr c) = c.1

  -- each packet that is found stays
  same : (s : Spot Tag) (plan : rules.Plan) → IsSound plan → (y z : Telegram) (a : Option Tag) → telegram_at g t plan ≡ Some y → OrWants (ShiftsIn s p) y (Ok a) z → (r : Tag) → find same_tag r z.packets ≡ find same_tag r y.packets
  same (After b) plan sound y z a h c r =
      let accepted : Accepted (MovePacket g t p b) plan = (refused_exactly (MovePacket g t p b) plan sound).0 (standing g t plan (moves p b) y h ∙ c.0) in
      ap (λ (x : Telegram). find same_tag r x.packets) c.2 ∙ same-after p b y (subst (AcceptedAt (MovePacket g t p b)) h accepted.1) r
  same (Before n) plan sound y z a h c r = ap (λ (x : Telegram). find same_tag r x.packets) c.2 ∙ same-before p n y (movable p n y c.0) r

  -- why it is refused
  missed : (s : Spot Tag) (plan : rules.Plan) (e : Refusal) → first_of (no_group g plan ∷ lacks g t plan ∷ []) ≡ Some e → shift_refusal g t p s plan ≡ Some e
  missed (After b) plan e m = first-more _ _ _ e m
  missed (Before n) plan e m = first-more _ _ _ e m

  refused : (s : Spot Tag) (plan : rules.Plan) (y z : Telegram) (e : TelegramFault) → telegram_at g t plan ≡ Some y → OrWants (ShiftsIn s p) y (Err e) z → (refusal_of e ≡ refusals.OutOfMemory) ⊎ (shift_refusal g t p s plan ≡ Some (refusal_of e))
  refused s plan y z e h (inl c) = inl (ap refusal_of c.0)
  refused (After b) plan y z e h (inr c) = inr (standing g t plan (moves p b) y h ∙ c.0)
  refused (Before n) plan y z e h (inr c) = inr (standing g t plan (moves-before p n) y h ∙ c.0)

  -- and what it makes
  made : (s : Spot Tag) (plan : rules.Plan) → IsSound plan → (y z : Telegram) (a : Option Tag) → telegram_at g t plan ≡ Some y → OrWants (ShiftsIn s p) y (Ok a) z → (shift_refusal g t p s plan ≡ None) × (with_telegram g t z plan ≡ shifted g t p s plan)
  made (After b) plan sound y z a h c =
      let own = (noted (MovePacket g t p b) plan).own in
      (standing g t plan (moves p b) y h ∙ c.0, by-telegram (telegram_after (0, MovePacket g t p b) own) g t plan sound y z h (c.2 ∙ move-at own g t p b y) (move-other own g t p b))
  made (Before n) plan sound y z a h c = (
    standing g t plan (moves-before p n) y h ∙ c.0,
    by-telegram (λ g' u d. cond (same_tag g g' && eqb t u) (with_packets d (moved_before p n d.packets)) d) g t plan sound y z h
        (c.2 ∙ ap (λ b. cond b (with_packets y (moved_before p n y.packets)) y) (sym (here g t))) (λ g' u d e. ap (λ b. cond b (with_packets d (moved_before p n d.packets)) d) e),
  )

  module _ (s : Spot Tag) {R : Call (Option Tag)} (f : (y z : Telegram) (r : Result (Option Tag) TelegramFault) → R y r z → OrWants (ShiftsIn s p) y r z) where
    pub shift-harmless : (plan : rules.Plan) → IsHarmless g t plan R
    shift-harmless plan = record {
      sound = λ y z r c. packet-moved s p r y z (f y z r c);
      stays = λ y z e c. left s y z e (f y z (Err e) c);
      held = λ y z a h c ids names k. let d = f y z (Ok a) c in held-kept plan k.sound g t y z h (packet-moved s p (Ok a) y z d) ids names k (same s plan k.sound y z a h d);
    }

    pub shift-does : {old new : Plan} {r : Result (Option Tag) Refusal} → IsSound old.groups → ChangesTelegram g t R old r new → ShiftsPacket g t p s old r new
    shift-does {old} sound (Missing e m q w) = rw (q, w) (inr (missed s old.groups e m), refl)
    shift-does {old} sound (Refused e y z h c q w) = let d = f y z (Err e) c in rw (q, w (left s y z e d)) (refused s old.groups y z e h d, refl)
    shift-does {old} sound (Made a y z h c q w) = let k = made s old.groups sound y z a h (f y z (Ok a) c) in rw (q, w) (k.0, ap (λ gs. counted gs (old.changes + 1)) k.1)
