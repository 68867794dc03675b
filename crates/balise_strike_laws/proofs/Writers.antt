-- What an edit leaves of the packets of a telegram, by the places that it doesn't change.
-- Proves, for each kind of edit as a writer, that its change of a list leaves alone what comes after a clear place, and that a packet that it spares is found again, changed field by field.
-- From the places that each kind changes, one kind at a time.
use Rattle.std.proofs.Common.{◌≡◌, ℕ, Bool, true, false, cond, ◌&&◌, eqb, List, [], ◌∷◌, Option, Some, None, refl, sym, ap, ◌∙◌}
use Rattle.std.specs.Option.{option_map}
use Rattle.balise_rules.specs.declared.tag.Tag.{Tag}
use Rattle.balise_rules.specs.declared.tag.Tag.TheVariants.{Fresh}
use Rattle.balise_rules.specs.declared.identity.Id.{Id}
use Rattle.balise_rules.specs.Tagged.{same_spot, find, put, without, each, move, Change, Each, Put, Take, Move, changed}
use Rattle.balise_rules.specs.Tags.{same_tag}
use Rattle.balise_rules.specs.Packet.{Packet}
use Rattle.balise_rules.specs.Telegram.{Telegram}
use Rattle.balise_rules.specs.Plan.{country_of}
use Rattle.balise_rules.specs.Edits.{Item, telegram_after, packet_after, packets_change}
use Rattle.balise_rules.specs.declared.tagged_edit.TaggedEdit.TheVariants.{InsertPacket, DeletePacket, MovePacket}
use Rattle.balise_rules.specs.Notes.{Note}
use Rattle.balise_rules.specs.Paths.{At, Nth, After, Front, Path, same_part, anchor, neighbour}
use Rattle.balise_rules.proofs.Tests.{split_keys, flip_no, flip_spot, tag_test}
use Rattle.balise_rules.proofs.Lists.{find-put, find-without, find-each, find-without_same}
use Rattle.balise_rules.proofs.Cases.{map_itself}
use Rattle.balise_rules.proofs.Each.{each-id}
use Rattle.balise_rules.proofs.Anchors.{find-put_same, stands-without}
use Rattle.balise_rules.proofs.Moved.{find-move}
use Rattle.balise_strike_laws.proofs.Cases.{drop1}
use Rattle.balise_strike_laws.proofs.Neighbours.{Accepts, Free, takes}
use Rattle.balise_strike_laws.proofs.Levels.{keep, here}
use Rattle.balise_strike_laws.proofs.Places.{first_of, later_of, Clear, side_apart, front_apart}

pub flip_side : (a c : Option Tag) → (same_part (anchor a) (anchor c) && true) ≡ false → same_spot same_tag c a ≡ false
flip_side a c h = flip_spot tag_test a c (side_apart a c h)

pub clear-free : (f : Item) → (m : Note) → (j : Id) → (g : Tag) → (t : ℕ) → (c0 : ℕ) → (c : Option Tag) → Clear (f, m) (At g ∷ Nth t ∷ anchor c ∷ After ∷ []) →
    Free (packets_change f j g t c0) c
clear-free (s, InsertPacket g1 t1 a x) m j g t c0 c k =
    here (λ y. Free y c) (same_tag g1 g) (eqb t1 t) (Put a (Fresh s, x)) tt
    (λ e d. (flip_side a c (simp (e, d) at (k (At g1 ∷ Nth t1 ∷ anchor a ∷ After ∷ []) (later_of first_of))), flip_spot tag_test (Some (Fresh s)) c (side_apart (Some (Fresh s)) c (simp (e, d) at (k (At g1 ∷ Nth t1 ∷ At (Fresh s) ∷ []) first_of)))))
clear-free (serial1, DeletePacket g1 t1 p) m j g t c0 c k =
    here (λ y. Free y c) (same_tag g1 g) (eqb t1 t) (Take p) tt
    (λ e d. flip_side (Some p) c (simp (e, d) at (k (At g1 ∷ Nth t1 ∷ At p ∷ []) first_of)))
clear-free (serial1, MovePacket g1 t1 p a) m j g t c0 c k =
    here (λ y. Free y c) (same_tag g1 g) (eqb t1 t) (Move p a) tt
    (λ e d. (flip_side (Some p) c (simp (e, d) at (k (At g1 ∷ Nth t1 ∷ At p ∷ After ∷ []) (later_of first_of))), flip_side a c (simp (e, d) at (k (At g1 ∷ Nth t1 ∷ anchor a ∷ After ∷ []) (later_of (later_of (later_of first_of)))))))
clear-free f m j g t c0 c k = tt

pub clear-takes : (f : Item) → (m : Note) → (j : Id) → (g : Tag) → (t : ℕ) → (c0 : ℕ) → (b : Option Tag) → Clear (f, m) (At g ∷ Nth t ∷ neighbour b ∷ Front ∷ []) →
    takes (packets_change f j g t c0) b ≡ false
clear-takes (s, InsertPacket g1 t1 a x) m j g t c0 b k = here (λ y. takes y b ≡ false) (same_tag g1 g) (eqb t1 t) (Put a (Fresh s, x)) refl (λ e d. refl)
clear-takes (serial1, DeletePacket g1 t1 p) m j g t c0 b k =
    here (λ y. takes y b ≡ false) (same_tag g1 g) (eqb t1 t) (Take p) refl
    (λ e d. front_apart (Some p) b (simp (e, d) at (k (At g1 ∷ Nth t1 ∷ At p ∷ []) first_of)))
clear-takes (serial1, MovePacket g1 t1 p a) m j g t c0 b k =
    here (λ y. takes y b ≡ false) (same_tag g1 g) (eqb t1 t) (Move p a) refl
    (λ e d. front_apart (Some p) b (simp (e, d) at (k (At g1 ∷ Nth t1 ∷ At p ∷ Front ∷ []) first_of)))
clear-takes f m j g t c0 b k = refl

-- a change spares an item: neither puts it in nor takes it out
abbrev pub Spares : {A : Type 0} → Change Tag A → Tag → Type 0
Spares (Put a z) p = same_tag p z.0 ≡ false
Spares (Take q) p = same_tag p q ≡ false
Spares x p = Unit {0}

abbrev pub by_change : {A : Type 0} → Change Tag A → Tag → Option A → Option A
by_change (Each f) p o = option_map (f p) o
by_change x p o = o

pub find-change : {A : Type 0} → (x : Change Tag A) → (p : Tag) → (xs : List (Tag × A)) → Accepts x xs → Spares x p →
    find same_tag p (changed same_tag x xs) ≡ by_change x p (find same_tag p xs)
find-change (Each f) p xs s n = find-each tag_test f p xs
find-change (Put a z) p xs s n = find-put same_tag p a z n xs
find-change (Take q) p xs s n = find-without tag_test p q n xs
find-change (Move q a) p xs s n =
    split_keys tag_test p q
    (λ e r. let h : find same_tag q xs ≡ Some s.0.0 = s.0.1 in
    let m : move same_tag q a xs ≡ put same_tag a (q, s.0.0) (without same_tag q xs) = simp h in
    ap (λ u. find same_tag u (move same_tag q a xs)) r ∙ ap (λ l. find same_tag q l) m ∙ find-put_same a (q, s.0.0) (without same_tag q xs) (stands-without a q xs s.2 s.1) (find-without_same same_tag q xs) ∙ sym h ∙ ap (λ u. find same_tag u xs) (sym r))
    (λ e. find-move tag_test p q a e xs)

pub clear-spares : (f : Item) → (m : Note) → (j : Id) → (g : Tag) → (t : ℕ) → (c0 : ℕ) → (p : Tag) → (r : Path) → Clear (f, m) (At g ∷ Nth t ∷ At p ∷ r) →
    Spares (packets_change f j g t c0) p
clear-spares (s, InsertPacket g1 t1 a x) m j g t c0 p r k =
    here (λ y. Spares y p) (same_tag g1 g) (eqb t1 t) (Put a (Fresh s, x)) tt
    (λ e d. flip_no tag_test (Fresh s) p (drop1 (same_tag (Fresh s) p) (simp (e, d) at (k (At g1 ∷ Nth t1 ∷ At (Fresh s) ∷ []) first_of))))
clear-spares (serial1, DeletePacket g1 t1 q) m j g t c0 p r k =
    here (λ y. Spares y p) (same_tag g1 g) (eqb t1 t) (Take q) tt (λ e d. flip_no tag_test q p (drop1 (same_tag q p) (simp (e, d) at (k (At g1 ∷ Nth t1 ∷ At q ∷ []) first_of))))
clear-spares (serial1, MovePacket g1 t1 q a) m j g t c0 p r k = here (λ y. Spares y p) (same_tag g1 g) (eqb t1 t) (Move q a) tt (λ e d. tt)
clear-spares f m j g t c0 p r k = tt

pub packet-id : (z : Packet) → ◌≡◌ {A = Packet} (record { fields = each (λ key v. v) z.fields; rest = z.rest }) z
packet-id z = ap (λ fs. record z { fields = fs }) (each-id z.fields)

-- a change of the list alone leaves each packet
list-alone : (b : Bool) → (x : Change Tag Packet) → (p : Tag) → ((o : Option Packet) → by_change x p o ≡ o) → (h : Packet → Packet) → ((z : Packet) → h z ≡ z) → (o : Option Packet) →
    by_change (cond b x keep) p o ≡ option_map h o
list-alone true x p k h i o = k o ∙ map_itself h i o
list-alone false x p k h i None = refl
list-alone false x p k h i (Some z) = ap Some (sym (i z))

pub by-packets : (f : Item) → (j : Id) → (g : Tag) → (t : ℕ) → (c : ℕ) → (p : Tag) → (o : Option Packet) →
    by_change (packets_change f j g t c) p o ≡ option_map (packet_after f.1 j g t c p) o
by-packets (s, InsertPacket g1 t1 a x) j g t c p o = list-alone (same_tag g1 g && eqb t1 t) (Put a (Fresh s, x)) p (λ _. refl) (packet_after (InsertPacket g1 t1 a x) j g t c p) packet-id o
by-packets (serial1, DeletePacket g1 t1 q) j g t c p o = list-alone (same_tag g1 g && eqb t1 t) (Take q) p (λ _. refl) (packet_after (DeletePacket g1 t1 q) j g t c p) packet-id o
by-packets (serial1, MovePacket g1 t1 q a) j g t c p o = list-alone (same_tag g1 g && eqb t1 t) (Move q a) p (λ _. refl) (packet_after (MovePacket g1 t1 q a) j g t c p) packet-id o
by-packets f j g t c p o = refl

-- a packet that is spared is found, changed field by field
pub packet-found : (f : Item) → (m : Note) → (j : Id) → (g : Tag) → (t : ℕ) → (p : Tag) → (r : Path) → (y : Telegram) →
    Accepts (packets_change f j g t (country_of y)) y.packets → Clear (f, m) (At g ∷ Nth t ∷ At p ∷ r) →
    find same_tag p (telegram_after f j g t y).packets ≡ option_map (packet_after f.1 j g t (country_of y) p) (find same_tag p y.packets)
packet-found f m j g t p r y s k =
    find-change (packets_change f j g t (country_of y)) p y.packets s (clear-spares f m j g t (country_of y) p r k) ∙ by-packets f j g t (country_of y) p (find same_tag p y.packets)
