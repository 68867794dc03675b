-- A telegram stays sound in its place, whatever a call changes in it.
use Rattle.std.proofs.Common.{◌≡◌, inl, inr, ◌≤◌, ◌-◌, ◌||◌, not, nat_lt, ℕ, Bool, true, false, cond, List, [], ◌∷◌, All, length, Option, Some, None, Result, Ok, Err, refl, sym, ap, subst, ◌∙◌, arith}
use Rattle.std.specs.Prelude.{IsTrue, is_none, is_some}
use Rattle.std.proofs.lemmas.Bool.{le-ltb, lt-ltb, cond_both}
use borrow.Author.Tests.{ltb-false}
use Rattle.balise_rules.specs.declared.tag.Tag.{Tag}
use Rattle.balise_rules.specs.declared.tag.Tag.TheVariants.{Base}
use Rattle.balise_rules.specs.declared.identity.Id.{Id}
use Rattle.balise_rules.specs.declared.variable.Var.{Var}
use Rattle.balise_rules.specs.declared.variable.Var.TheVariants.{NidBg, QLinkorientation}
use Rattle.balise_rules.specs.declared.refusal.Refusal.{Refusal}
use Rattle.balise_rules.specs.declared.refusal.Refusal.TheVariants as refusals
use Rattle.balise_rules.specs.Variables.{width_of, steers, is_free_in_header}
use Rattle.balise_rules.specs.Bits.{fits}
use Rattle.balise_rules.specs.Tagged.{Distinct, find, each, stands, same_spot, put_before, without}
use Rattle.balise_rules.specs.Tags.{same_tag, same_key}
use Rattle.balise_rules.specs.Packet.{Packet, IsSpelt, field_of, value, width}
use Rattle.balise_rules.specs.Telegram.{Telegram, room, used, version_of}
use Rattle.balise_rules.specs.Plan.{IsSoundTelegram}
use Rattle.balise_rules.specs.Accepting.{Lawful}
use Rattle.balise_rules.specs.Back.{with_packets, put_back}
use Rattle.balise_rules.specs.Doing.{first_of, when}
use Rattle.balise_rules.specs.declared.tagged_edit.TaggedEdit.TheVariants.{SetVar, SetHead, DeletePacket, MovePacket}
use Rattle.balise_rules.proofs.Tests.{tag_test}
use Rattle.balise_rules.proofs.AllItems.{all-each, all_found}
use Rattle.balise_rules.proofs.Distincts.{distinct-each}
use Rattle.balise_rules.proofs.Lists.{find-without, find-without_same}
use Rattle.balise_rules.proofs.Used.{used-each, used-without_there, width-each}
use Rattle.balise_edit_laws.proofs.FieldsKept.{packet_kept}
use Rattle.balise_edit_laws.proofs.GroupsKept.{telegram_kept}
use Rattle.balise_layout.specs.Held.{with_field as with_packet_field}
use Rattle.balise_telegram.specs.declared.fault.TelegramFault.{TelegramFault}
use Rattle.balise_telegram.specs.Changes.{OrWants, InsertsOrWants}
use Rattle.balise_telegram.specs.Moving.{TakesOut, Shifts, ShiftsBefore, insert_refusal, shift_before_refusal, moved_before}
use Rattle.balise_telegram.specs.Setting.{SetsField, SetsHead, field_refusal, fields_refusal, with_changed}
use Rattle.balise_index.specs.declared.spot.Spot.{Spot}
use Rattle.balise_index.specs.declared.spot.Spot.TheVariants.{After, Before}
use Rattle.balise_index.specs.AtSpot.{put_in, spot_stands}
use Rattle.balise_plan.specs.declared.links.change.Change.{Change}
use Rattle.balise_plan.specs.declared.links.change.Change.TheVariants.{Name, Flip}
use Rattle.balise_plan.specs.InTelegram.{Replaces}
use Rattle.balise_plan.specs.PutsIn.{MayStand, PutsIn, ShiftsIn}
use Rattle.balise_plan.specs.Walks.{changed, FitsName}
use Rattle.balise_plan.proofs.items.Inserted.{put-between, between-distinct, between-all, between-used}
use Rattle.balise_plan.proofs.telegrams.Edits.{head-at, set-at, delete-at, move-at}

pub stays : (y z : Telegram) → z ≡ y → Replaces y z
stays y z e i last n s = subst (IsSoundTelegram i last n) (sym e) s

-- other packets in the same telegram
other-packets : {i : Id} {last n : ℕ} (y : Telegram) (ps : List (Tag × Packet)) → IsSoundTelegram i last n y → Distinct same_tag ps → All (λ q. IsSpelt (version_of y) q.1) ps → used ps ≤ length y.padding → IsSoundTelegram i last n (with_packets y ps)
other-packets y ps s tags packets room = record {
  header = s.header;
  numbered = s.numbered;
  balise = s.balise;
  identity = s.identity;
  place = s.place;
  total = s.total;
  tags = tags;
  packets = packets;
  size = s.size;
  fits = room;
}

-- ---- a field set

-- what no refusal says
pub head-lawful : (g : Tag) (t : ℕ) (v : Var) (n : ℕ) (y : Telegram) → fields_refusal v n y.head ≡ None → Lawful (SetHead g t v n)
head-lawful g t v n y e = by (is_none (field_of v 0 y.head)) (is_free_in_header v) (fits (width_of v) n) e
  where
    by : (a b c : Bool) → first_of (when a refusals.NoSuchVariable ∷ when (not b) refusals.Steering ∷ when (not c) refusals.ValueTooWide ∷ []) ≡ None → IsTrue b × IsTrue c
    by a b c h = grind arith

pub set-lawful : (g : Tag) (t : ℕ) (p : Tag) (v : Var) (k n : ℕ) (y : Telegram) → field_refusal p v k n y ≡ None → Lawful (SetVar g t p v k n)
set-lawful g t p v k n y e = by (is_none (find same_tag p y.packets)) _ (steers v) (fits (width_of v) n) e
  where
    by : (a b c d : Bool) → first_of (when a refusals.NoSuchPacket ∷ when b refusals.NoSuchVariable ∷ when c refusals.Steering ∷ when (not d) refusals.ValueTooWide ∷ []) ≡ None → (c ≡ false) × IsTrue d
    by a b c d h = grind arith

pub head-set : (v : Var) (n : ℕ) (r : Result ℕ TelegramFault) (y z : Telegram) → SetsHead v n y r z → Replaces y z
head-set v n (Err e) y z c = stays y z c.1
head-set v n (Ok was) y z c =
    λ i last m s. subst (IsSoundTelegram i last m) (sym (c.2 ∙ head-at i (Base 0) 0 v n y)) (telegram_kept (0, SetHead (Base 0) 0 v n) (head-lawful (Base 0) 0 v n y c.0) i i last m (Base 0) 0 y s tt)

pub field-set : (p : Tag) (v : Var) (k n : ℕ) (r : Result ℕ TelegramFault) (y z : Telegram) → SetsField p v k n y r z → Replaces y z
field-set p v k n (Err e) y z c = stays y z c.1
field-set p v k n (Ok was) y z c =
    λ i last m s. subst (IsSoundTelegram i last m) (sym (c.2 ∙ set-at i (Base 0) 0 p v k n y)) (telegram_kept (0, SetVar (Base 0) 0 p v k n) (set-lawful (Base 0) 0 p v k n y c.0) i i last m (Base 0) 0 y s tt)

-- ---- an element changed

-- each packet changed, spelt as before and as wide
packets-changed : (f : Tag → Packet → Packet) → ((version : ℕ) (q : Tag) (x : Packet) → IsSpelt version x → IsSpelt version (f q x)) → ((q : Tag) (x : Packet) → width (f q x) ≡ width x) → (y : Telegram) → Replaces y (with_packets y (each f y.packets))
packets-changed f spelt wide y i last m s =
    let used = used-each f wide y.packets in
    let room = s.fits in
    other-packets y (each f y.packets) s (distinct-each tag_test f y.packets s.tags) (all-each (IsSpelt (version_of y)) (IsSpelt (version_of y)) f (spelt (version_of y)) y.packets s.packets) (omega (arith, used, room))

set-spelt : (v : Var) (k n version : ℕ) (x : Packet) → Lawful (SetVar (Base 0) 0 (Base 0) v k n) → IsSpelt version x → IsSpelt version (with_packet_field v k n x)
set-spelt v k n version x l s = packet_kept (SetVar (Base 0) 0 (Base 0) v k n) l (record { country = 0; number = 0 }) (Base 0) 0 0 (Base 0) version x s

change-spelt : (c : Change) (k version : ℕ) (x : Packet) → FitsName c → IsSpelt version x → IsSpelt version (changed c k x)
unfolding steers width_of
change-spelt (Name n) k version x h s = set-spelt NidBg k n version x (refl, lt-ltb n 16384 h) s
change-spelt Flip k version x h s = let n = 1 - value QLinkorientation k x.fields in set-spelt QLinkorientation k n version x (refl, lt-ltb n 2 (omega arith)) s

change-width : (c : Change) (k : ℕ) (x : Packet) → width (changed c k x) ≡ width x
change-width (Name n) k x = width-each (λ key old. cond (same_key (NidBg, k) key) n old) x
change-width Flip k x = width-each (λ key old. cond (same_key (QLinkorientation, k) key) (1 - value QLinkorientation k x.fields) old) x

pub element-changed : (p : Tag) (c : Change) (k : ℕ) → FitsName c → (y z : Telegram) → z ≡ with_changed p (changed c k) y → Replaces y z
element-changed p c k h y z e i last m s =
    subst (IsSoundTelegram i last m) (sym e) (packets-changed (λ q x. cond (same_tag p q) (changed c k x) x)
    (λ version q x w. cond_both (same_tag p q) (changed c k x) x (IsSpelt version) (λ _. change-spelt c k version x h w) (λ _. w))
    (λ q x. cond_both (same_tag p q) (changed c k x) x (λ a. width a ≡ width x) (λ _. change-width c k x) (λ _. refl)) y i last m s)

-- ---- a packet put in

-- what no refusal says
pub fits-in : (there : Bool) (x : Packet) (y : Telegram) → insert_refusal there x y ≡ None → (there ≡ true) × (nat_lt (room y) (width x) ≡ false)
fits-in there x y e = by there (nat_lt (room y) (width x)) e
  where
    by : (a b : Bool) → first_of (when (not a) refusals.NoSuchPacket ∷ when b refusals.NoRoom ∷ []) ≡ None → (a ≡ true) × (b ≡ false)
    by a b h = grind arith

-- a telegram with one packet more
kept : (s : Spot Tag) (p : Tag) (x : Packet) (o : Id) (last m : ℕ) (y : Telegram) → IsSoundTelegram o last m y → spot_stands s y.packets ≡ true → nat_lt (room y) (width x) ≡ false → find same_tag p y.packets ≡ None → IsSpelt (version_of y) x →
    IsSoundTelegram o last m (with_packets y (put_in s (p, x) y.packets))
kept s p x o last m y d there roomy absent word =
    let r = ltb-false (room y) (width x) roomy in
    let f = d.fits in
    let b = put-between s (p, x) y.packets there in
    other-packets y (put_in s (p, x) y.packets) d (between-distinct b absent d.tags) (between-all b (IsSpelt (version_of y)) word d.packets) (omega (arith, r, f, between-used b))

pub packet-put : (s : Spot Tag) (p : Tag) (x : Packet) (r : Result Unit (Refusal × Packet)) (y z : Telegram) → MayStand p x y → PutsIn s p x y r z → Replaces y z
packet-put s p x r y z may c = by c.answer c.call
  where
    by : (a : Result Unit (TelegramFault × Packet)) → InsertsOrWants (spot_stands s y.packets) x (put_in s (p, x) y.packets) y a z → Replaces y z
    by (Err f) (inl k) = stays y z k.2
    by (Err f) (inr k) = stays y z k.2
    by (Ok u) k =
        let f = fits-in (spot_stands s y.packets) x y k.0 in
        λ o last m d. subst (IsSoundTelegram o last m) (sym k.1) (kept s p x o last m y d f.0 f.1 may.fresh may.spelt)

-- ---- a packet taken out

pub packet-taken : (p : Tag) (r : Result (Packet × Option Tag) TelegramFault) (y z : Telegram) → OrWants (TakesOut p) y r z → Replaces y z
packet-taken p (Err e) y z (inl c) = stays y z c.1
packet-taken p (Err e) y z (inr c) = stays y z c.2
packet-taken p (Ok a) y z c =
    λ i last m s. subst (IsSoundTelegram i last m) (sym (c.2 ∙ delete-at i (Base 0) 0 p y)) (telegram_kept (0, DeletePacket (Base 0) 0 p) tt i i last m (Base 0) 0 y s tt)

-- ---- a packet moved

-- what no refusal of a move before a neighbour says
pub record Movable (p : Tag) (n : Option Tag) (y : Telegram) : Type 0 where
  pub packet : Packet
  pub found : find same_tag p y.packets ≡ Some packet
  pub there : stands same_tag n y.packets ≡ true
  pub other : same_spot same_tag n (Some p) ≡ false

pub movable : (p : Tag) (n : Option Tag) (y : Telegram) → shift_before_refusal p n y ≡ None → Movable p n y
movable p n y e =
    let m = by (find same_tag p y.packets) (stands same_tag n y.packets) (same_spot same_tag n (Some p)) _ e in
    record { packet = m.0; found = m.1; there = m.2; other = m.3 }
  where
    by : (o : Option Packet) (a b c : Bool) → first_of (when (is_none o) refusals.NoSuchPacket ∷ when (not a) refusals.NoSuchPacket ∷ when (b || c) refusals.SamePlace ∷ []) ≡ None →
        (x : Packet) × (o ≡ Some x) × (a ≡ true) × (b ≡ false)
    by None a b c h = absurd cc
    by (Some x) a b c h = (x, refl, grind arith, grind arith)

-- the neighbour stands without the packet
pub stands-other : (p : Tag) (n : Option Tag) (ps : List (Tag × Packet)) → stands same_tag n ps ≡ true → same_spot same_tag n (Some p) ≡ false → stands same_tag n (without same_tag p ps) ≡ true
stands-other p None ps s d = refl
stands-other p (Some b) ps s d = ap is_some (find-without tag_test b p d ps) ∙ s

-- the telegram without the packet
abbrev taken_out : Tag → Telegram → Telegram
taken_out p y = with_packets y (without same_tag p y.packets)

room-made : (p : Tag) (x : Packet) (y : Telegram) (i : Id) (last m : ℕ) → IsSoundTelegram i last m y → find same_tag p y.packets ≡ Some x → nat_lt (room (taken_out p y)) (width x) ≡ false
room-made p x y i last m d f =
    let u = used-without_there p x y.packets d.tags f in
    let l = d.fits in
    le-ltb (room (taken_out p y)) (width x) (omega (arith, u, l))

-- what is moved before a neighbour is taken out and put before it
pub rebuilt : (p : Tag) (n : Option Tag) (x : Packet) (ps : List (Tag × Packet)) → find same_tag p ps ≡ Some x → moved_before p n ps ≡ put_before same_tag n (p, x) (without same_tag p ps)
rebuilt p n x ps f = ap (λ (o : Option Packet). put_back p n o (without same_tag p ps)) f

sound-before : (p : Tag) (n : Option Tag) (y : Telegram) → Movable p n y → Replaces y (with_packets y (moved_before p n y.packets))
sound-before p n y w i last m d =
    let out : IsSoundTelegram i last m (taken_out p y) = subst (IsSoundTelegram i last m) (sym (delete-at i (Base 0) 0 p y)) (telegram_kept (0, DeletePacket (Base 0) 0 p) tt i i last m (Base 0) 0 y d tt) in
    subst (λ (qs : List (Tag × Packet)). IsSoundTelegram i last m (with_packets y qs)) (sym (rebuilt p n w.packet y.packets w.found))
    (kept (Before n) p w.packet i last m (taken_out p y) out (stands-other p n y.packets w.there w.other) (room-made p w.packet y i last m d w.found) (find-without_same same_tag p y.packets)
    (all_found (IsSpelt (version_of y)) same_tag y.packets d.packets p w.packet w.found))

pub moved-after : (p : Tag) (a : Option Tag) (r : Result (Option Tag) TelegramFault) (y z : Telegram) → OrWants (Shifts p a) y r z → Replaces y z
moved-after p a (Err e) y z (inl c) = stays y z c.1
moved-after p a (Err e) y z (inr c) = stays y z c.1
moved-after p a (Ok was) y z c =
    λ i last m s. subst (IsSoundTelegram i last m) (sym (c.2 ∙ move-at i (Base 0) 0 p a y)) (telegram_kept (0, MovePacket (Base 0) 0 p a) tt i i last m (Base 0) 0 y s tt)

pub moved-before : (p : Tag) (n : Option Tag) (r : Result (Option Tag) TelegramFault) (y z : Telegram) → OrWants (ShiftsBefore p n) y r z → Replaces y z
moved-before p n (Err e) y z (inl c) = stays y z c.1
moved-before p n (Err e) y z (inr c) = stays y z c.1
moved-before p n (Ok was) y z c = λ i last m s. subst (IsSoundTelegram i last m) (sym c.2) (sound-before p n y (movable p n y c.0) i last m s)

pub packet-moved : (s : Spot Tag) (p : Tag) (r : Result (Option Tag) TelegramFault) (y z : Telegram) → OrWants (ShiftsIn s p) y r z → Replaces y z
packet-moved (After a) p r y z c = moved-after p a r y z c
packet-moved (Before n) p r y z c = moved-before p n r y z c
