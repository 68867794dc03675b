-- Room: how many bits the packets of a telegram take after each change, and when an insertion has room in the other order.
-- Proves that no change but a deletion makes room, and that an insertion whose bits fit after another edit fits before it, and the other way round.
-- From the clause of independence that keeps insertions apart from deletions, and the widths of fields.
use Rattle.std.proofs.Common.{◌≡◌, ℕ, ◌+◌, ◌≤◌, Bool, true, false, ◌&&◌, eqb, List, length, Option, Some, refl, ap, subst, ◌∙◌, arith}
use Rattle.std.proofs.lemmas.Bool.{and_left, and_right, true≢false, not-true}
use Rattle.std.specs.Option.{option_map}
use Rattle.balise_rules.specs.declared.tag.Tag.{Tag}
use Rattle.balise_rules.specs.declared.tag.Tag.TheVariants.{Fresh}
use Rattle.balise_rules.specs.declared.identity.Id.{Id}
use Rattle.balise_rules.specs.Tagged.{put, without, each, Distinct, move, Change, Each, Put, Take, Move, changed}
use Rattle.balise_rules.specs.Tags.{same_tag}
use Rattle.balise_rules.specs.Packet.{Packet, width}
use Rattle.balise_rules.specs.Telegram.{Telegram, used}
use Rattle.balise_rules.specs.Plan.{Plan, country_of, telegram_at}
use Rattle.balise_rules.specs.Edits.{Edit, Item, effect, telegram_after, packet_after, packets_change}
use Rattle.balise_rules.specs.declared.tagged_edit.TaggedEdit.TheVariants.{InsertPacket, DeletePacket, MovePacket}
use Rattle.balise_rules.specs.Accepting.{AcceptedIn, AcceptedAt, Asks}
use Rattle.balise_rules.specs.Paths.{room_apart}
use Rattle.balise_rules.proofs.Tests.{split_on, flip_no, tag_test, nat_test}
use Rattle.balise_strike_laws.proofs.Neighbours.{Accepts}
use Rattle.balise_strike_laws.proofs.Levels.{here}
use Rattle.balise_rules.proofs.Moved.{move_is}
use Rattle.balise_rules.proofs.Anchors.{stands-without}
use Rattle.balise_rules.proofs.Used.{used-each, width_kept, used-put_there, used-without_there}
use Rattle.balise_rules.proofs.Found.{place_is}
use Rattle.balise_strike_laws.proofs.Facts.{Facts}
use Rattle.balise_strike_laws.proofs.Readers.{Local, home, Room}
use Rattle.balise_strike_laws.proofs.Locals.{accepts-there, telegram-done}

pub used-move : (p : Tag) → (a : Option Tag) → (xs : List (Tag × Packet)) → Distinct same_tag xs → Accepts (Move p a) xs → used (move same_tag p a xs) ≡ used xs
used-move p a xs u s =
    let k = ap used (move_is same_tag p a s.0.0 xs s.0.1) in
    let b = used-put_there a (p, s.0.0) (without same_tag p xs) (stands-without a p xs s.2 s.1) in
    let d = used-without_there p s.0.0 xs u s.0.1 in omega arith

-- a change that takes nothing out of the telegram does not make room
abbrev pub is_take : {A : Type 0} → Change Tag A → Bool
is_take (Take q) = true
is_take x = false

abbrev pub more : Change Tag Packet → ℕ
more (Put a z) = width z.1
more x = 0

abbrev pub WidthKept : Change Tag Packet → Type 0
WidthKept (Each f) = (p : Tag) → (z : Packet) → width (f p z) ≡ width z
WidthKept x = Unit {0}

pub used-change : (x : Change Tag Packet) → (xs : List (Tag × Packet)) → WidthKept x → Distinct same_tag xs → Accepts x xs → is_take x ≡ false →
    used (changed same_tag x xs) ≡ used xs + more x
used-change (Each f) xs w u s n = let a = used-each f w xs in omega arith
used-change (Put a z) xs w u s n = used-put_there a z xs s
used-change (Take q) xs w u s n = absurd (true≢false n)
used-change (Move q a) xs w u s n = let b = used-move q a xs u s in omega arith

pub width-kept : (f : Item) → (j : Id) → (g : Tag) → (t : ℕ) → (c : ℕ) → WidthKept (packets_change f j g t c)
width-kept (s0, InsertPacket g1 t1 b x) j g t c = here WidthKept (same_tag g1 g) (eqb t1 t) (Put b (Fresh s0, x)) (λ p z. refl) (λ e d. tt)
width-kept (serial1, DeletePacket g1 t1 p) j g t c = here WidthKept (same_tag g1 g) (eqb t1 t) (Take p) (λ p z. refl) (λ e d. tt)
width-kept (serial1, MovePacket g1 t1 p a) j g t c = here WidthKept (same_tag g1 g) (eqb t1 t) (Move p a) (λ p z. refl) (λ e d. tt)
width-kept e j g t c = width_kept e.1 j g t c

other_place : (g g1 : Tag) → (t t1 : ℕ) → (same_tag g g1 && eqb t t1) ≡ false → (same_tag g1 g && eqb t1 t) ≡ false
other_place g g1 t t1 h = split_on (same_tag g g1)
    (λ e. let k : eqb t t1 ≡ false = simp e at h in and_right (same_tag g1 g) (eqb t1 t) (flip_no nat_test t t1 k))
    (λ e. and_left (same_tag g1 g) (eqb t1 t) (flip_no tag_test g g1 e))

-- the clause for room: no deletion where an insertion is
pub no-take : (s0 : ℕ) → (g : Tag) → (t : ℕ) → (b : Option Tag) → (x : Packet) → (f : Item) → room_apart (InsertPacket g t b x) f.1 ≡ true → (j : Id) → (c : ℕ) →
    is_take (packets_change f j g t c) ≡ false
no-take s0 g t b x (s1, InsertPacket g1 t1 b1 x1) h j c = split_on (same_tag g1 g && eqb t1 t) (λ e. simp e) (λ e. simp e)
no-take s0 g t b x (serial1, DeletePacket g1 t1 p) h j c = let k = other_place g g1 t t1 (not-true (same_tag g g1 && eqb t t1) h) in simp k
no-take s0 g t b x (serial1, MovePacket g1 t1 p a) h j c = split_on (same_tag g1 g && eqb t1 t) (λ e. simp e) (λ e. simp e)
no-take s0 g t b x f h j c = refl

pub room-sym : (e f : Edit) → room_apart e f ≡ true → room_apart f e ≡ true
room-sym (InsertPacket g0 t0 b0 x0) (DeletePacket g1 t1 p1) h = h
room-sym (DeletePacket g0 t0 p0) (InsertPacket g1 t1 b1 x1) h = h
room-sym e (InsertPacket g1 t1 b1 x1) h = refl
room-sym e (DeletePacket g1 t1 p1) h = refl
room-sym e f h = refl

-- what the packets of a telegram take after an edit that takes none out
used-there : (f : Item) → (j : Id) → (g : Tag) → (t : ℕ) → (plan : Plan) → Facts plan → Asks f.1 plan → (y : Telegram) → telegram_at g t plan ≡ Some y →
    is_take (packets_change f j g t (country_of y)) ≡ false → used (telegram_after f j g t y).packets ≡ used y.packets + more (packets_change f j g t (country_of y))
used-there f j g t plan s a y q n =
    used-change (packets_change f j g t (country_of y)) y.packets (width-kept f j g t (country_of y)) (s.heads g t y q).1 (accepts-there f j g t (country_of y) plan a y q) n

-- an insertion has its room before f, if after
pub room-back : (e : Item) → Local e.1 → (f : Item) → room_apart e.1 f.1 ≡ true → (plan : Plan) → Facts plan → Asks f.1 plan → (j : Id) → (y : Telegram) →
    telegram_at (home e.1).0 (home e.1).1 plan ≡ Some y → AcceptedIn e.1 (telegram_after f j (home e.1).0 (home e.1).1 y) → Room e y
room-back (s0, InsertPacket g t b x) h f n plan s a j y q k =
    let r = used-there f j g t plan s a y q (no-take s0 g t b x f n j (country_of y)) in
    let l = k.1 in omega arith
room-back e h f n plan s a j y q k = tt

-- and after f: f fitted after e
pub room-forward : (e : Item) → Local e.1 → (f : Item) → room_apart e.1 f.1 ≡ true → (plan : Plan) → Facts plan → Asks e.1 plan → Asks f.1 plan → (i j : Id) →
    Asks f.1 (effect e i plan) →
    (y : Telegram) → telegram_at (home e.1).0 (home e.1).1 plan ≡ Some y → AcceptedIn e.1 y → Room e (telegram_after f j (home e.1).0 (home e.1).1 y)
room-forward (s0, InsertPacket g t b x) h (s1, InsertPacket g1 t1 b1 x1) n plan s ae a i j fits y q k =
    split_on (same_tag g1 g && eqb t1 t)
    (λ d. let r : used (put same_tag b1 (Fresh s1, x1) y.packets) ≡ used y.packets + width x1 = simp d at r0 in
    let gs = tag_test.itself g in let ts = nat_test.itself t in
    let here = subst (AcceptedAt (InsertPacket g1 t1 b1 x1)) (place_is g1 g t1 t (effect (s0, InsertPacket g t b x) i plan) d
    ∙ telegram-done (s0, InsertPacket g t b x) i g t plan s tt ∙ ap (option_map (telegram_after (s0, InsertPacket g t b x) i g t)) q) fits in
    let l : used (put same_tag b (Fresh s0, x) y.packets) + width x1 ≤ length y.padding = simp (gs, ts) at here.1 in
    let o = used-put_there b (Fresh s0, x) y.packets k.0 in
    simp d (omega arith))
    (λ d. let r : used (each (λ q z. z) y.packets) ≡ used y.packets + 0 = simp d at r0 in simp d (let l = k.1 in omega arith))
  where
    r0 : used (changed same_tag (packets_change (s1, InsertPacket g1 t1 b1 x1) j g t (country_of y)) y.packets) ≡ used y.packets + more (packets_change (s1, InsertPacket g1 t1 b1 x1) j g t (country_of y))
    r0 = used-there (s1, InsertPacket g1 t1 b1 x1) j g t plan s a y q (no-take s0 g t b x (s1, InsertPacket g1 t1 b1 x1) n j (country_of y))
room-forward (s0, InsertPacket g t b x) h (serial1, DeletePacket g1 t1 p1) n plan s ae a i j fits y q k =
    let r = used-there (serial1, DeletePacket g1 t1 p1) j g t plan s a y q (no-take s0 g t b x (serial1, DeletePacket g1 t1 p1) n j (country_of y)) in
    let m = here (λ y. more y ≡ 0) (same_tag g1 g) (eqb t1 t) (Take p1) refl (λ d e. refl) in let l = k.1 in omega arith
room-forward (s0, InsertPacket g t b x) h (serial1, MovePacket g1 t1 p1 a1) n plan s ae a i j fits y q k =
    let r = used-there (serial1, MovePacket g1 t1 p1 a1) j g t plan s a y q (no-take s0 g t b x (serial1, MovePacket g1 t1 p1 a1) n j (country_of y)) in
    let m = here (λ y. more y ≡ 0) (same_tag g1 g) (eqb t1 t) (Move p1 a1) refl (λ d e. refl) in let l = k.1 in omega arith
room-forward (s0, InsertPacket g t b x) h f n plan s ae a i j fits y q k =
    let r = used-each (packet_after f.1 j g t (country_of y)) (width_kept f.1 j g t (country_of y)) y.packets in let l = k.1 in omega arith
room-forward e h f n plan s ae a i j fits y q k = tt
