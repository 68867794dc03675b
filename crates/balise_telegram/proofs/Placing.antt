-- What taking a packet out at its place, and putting one in at a place, makes of the packets.
use Rattle.std.proofs.Common.{◌≡◌, ◌∙◌, ℕ, zero, suc, ◌+◌, ◌<◌, ◌≤◌, Bool, false, List, [], ◌∷◌, length, get_or, Option, Some, None, is_some, refl, sym, ap, arith}
use Rattle.std.specs.List.{insert, remove, position, slice_get}
use Rattle.std.specs.Option.{option_map}
use Rattle.std.proofs.lemmas.List.Quantifiers.{position-Some}
use Rattle.balise_rules.specs.declared.tag.Tag.{Tag}
use Rattle.balise_rules.specs.Tagged.{find, has, first, behind, put_behind, put_in_front, without, Distinct}
use Rattle.balise_rules.specs.Tags.{same_tag}
use Rattle.balise_rules.specs.Packet.{Packet, width}
use Rattle.balise_rules.specs.Telegram.{used}
use Rattle.balise_rules.proofs.Tests.{split_on, flip_no, tag_test}
use Rattle.balise_rules.proofs.Lists.{without-absent}
use Rattle.balise_rules.proofs.Distincts.{distinct-without}
use Rattle.balise_rules.proofs.Used.{used-without}
use Rattle.balise_telegram.specs.Reading.{IsHeld}
use Rattle.balise_telegram.specs.Moving.{inserted}
use Rattle.balise_telegram.proofs.Tagging.{Packets, is_tagged, none_here, StandsAt, stands_at, stands_behind, found, not_found}

-- the packet taken out at its place is the packet taken out under its tag
pub removed : (tag : Tag) (ps : Packets) (i : ℕ) (x : Tag × Packet) → Distinct same_tag ps → StandsAt tag ps i x → without same_tag tag ps ≡ remove ps i
removed tag [] i x u s = absurd (omega (arith, s.within))
removed tag (y ∷ ys) zero x u s =
    let e = s.tagged in
    let gone : find same_tag tag ys ≡ None = ap (λ (t : Tag). find same_tag t ys) (tag_test.one tag y.0 e) ∙ u.0 in
    simp e (without-absent same_tag tag ys gone)
removed tag (y ∷ ys) (suc i) x u s =
    let e : same_tag tag y.0 ≡ false = s.first zero (omega arith) in
    simp e (ap (λ l. y ∷ l) (removed tag ys i x u.1 (stands_behind tag y ys i x s)))

pub first_got : (ps : Packets) → first ps ≡ option_map (λ (q : Tag × Packet). q.0) (slice_get ps 0)
first_got [] = refl
first_got (y ∷ ys) = refl

-- the next neighbour stands at the next place
pub neighbour : (tag : Tag) (ps : Packets) (i : ℕ) (x : Tag × Packet) → StandsAt tag ps i x → behind same_tag tag ps ≡ option_map (λ (q : Tag × Packet). q.0) (slice_get ps (suc i))
neighbour tag [] i x s = absurd (omega (arith, s.within))
neighbour tag (y ∷ ys) zero x s = let e = s.tagged in simp e (first_got ys)
neighbour tag (y ∷ ys) (suc i) x s = let e : same_tag tag y.0 ≡ false = s.first zero (omega arith) in simp e (neighbour tag ys i x (stands_behind tag y ys i x s))

-- directly after the packet at a place
pub put_after_place : (tag : Tag) (ps : Packets) (i : ℕ) (x z : Tag × Packet) → StandsAt tag ps i x → insert ps (suc i) z ≡ put_behind same_tag tag z ps
put_after_place tag [] i x z s = absurd (omega (arith, s.within))
put_after_place tag (y ∷ ys) zero x z s = let e = s.tagged in simp e
put_after_place tag (y ∷ ys) (suc i) x z s =
    let e : same_tag tag y.0 ≡ false = s.first zero (omega arith) in
    simp e (ap (λ l. y ∷ l) (put_after_place tag ys i x z (stands_behind tag y ys i x s)))

-- directly before the packet at a place
pub put_at_place : (tag : Tag) (ps : Packets) (i : ℕ) (x z : Tag × Packet) → StandsAt tag ps i x → insert ps i z ≡ put_in_front same_tag tag z ps
put_at_place tag [] i x z s = absurd (omega (arith, s.within))
put_at_place tag (y ∷ ys) zero x z s = let e = s.tagged in simp e
put_at_place tag (y ∷ ys) (suc i) x z s =
    let e : same_tag tag y.0 ≡ false = s.first zero (omega arith) in
    simp e (ap (λ l. y ∷ l) (put_at_place tag ys i x z (stands_behind tag y ys i x s)))

-- beside a tag that isn't there nothing is put
pub none_after : (tag : Tag) (z : Tag × Packet) (ps : Packets) → find same_tag tag ps ≡ None → ps ≡ put_behind same_tag tag z ps
none_after tag z [] n = refl
none_after tag z (y ∷ ys) n = let h = none_here tag y ys n in let e = h.0 in simp e (ap (λ l. y ∷ l) (none_after tag z ys h.1))

pub none_before : (tag : Tag) (z : Tag × Packet) (ps : Packets) → find same_tag tag ps ≡ None → ps ≡ put_in_front same_tag tag z ps
none_before tag z [] n = refl
none_before tag z (y ∷ ys) n = let h = none_here tag y ys n in let e = h.0 in simp e (ap (λ l. y ∷ l) (none_before tag z ys h.1))

-- ---- what a telegram keeps

pub held_without : (tag : Tag) (ps : Packets) (padding : List Bool) → IsHeld ps padding → IsHeld (without same_tag tag ps) padding
held_without tag ps padding h = let u = used-without tag ps in record { tags = distinct-without same_tag tag ps h.tags; size = h.size; fits = omega (arith, u, h.fits) }

pub used-insert : (ps : Packets) (i : ℕ) (z : Tag × Packet) → used (insert ps i z) ≡ used ps + width z.1
used-insert [] zero z = omega arith
used-insert [] (suc i) z = omega arith
used-insert (y ∷ ys) zero z = omega arith
used-insert (y ∷ ys) (suc i) z = let ih = used-insert ys i z in omega (arith, ih)

find-insert : (k : Tag) (ps : Packets) (i : ℕ) (z : Tag × Packet) → same_tag k z.0 ≡ false → find same_tag k (insert ps i z) ≡ find same_tag k ps
find-insert k [] zero z n = simp n
find-insert k [] (suc i) z n = simp n
find-insert k (y ∷ ys) zero z n = simp n
find-insert k (y ∷ ys) (suc i) z n = let ih = find-insert k ys i z n in split_on (same_tag k y.0) (λ e. simp e) (λ e. simp e ih)

distinct-insert : (ps : Packets) (i : ℕ) (z : Tag × Packet) → Distinct same_tag ps → find same_tag z.0 ps ≡ None → Distinct same_tag (insert ps i z)
distinct-insert [] zero z u n = (refl, tt)
distinct-insert [] (suc i) z u n = (refl, tt)
distinct-insert (y ∷ ys) zero z u n = (n, u)
distinct-insert (y ∷ ys) (suc i) z u n =
    let h = none_here z.0 y ys n in (find-insert y.0 ys i z (flip_no tag_test z.0 y.0 h.0) ∙ u.0, distinct-insert ys i z u.1 h.1)

pub held_insert : (ps : Packets) (padding : List Bool) (i : ℕ) (z : Tag × Packet) → IsHeld ps padding → find same_tag z.0 ps ≡ None → used ps + width z.1 ≤ length padding → IsHeld (insert ps i z) padding
held_insert ps padding i z h n fits = let u = used-insert ps i z in record { tags = distinct-insert ps i z h.tags n; size = h.size; fits = omega (arith, u, fits) }

-- ---- the telegram

abbrev pub Place : Type 0
Place = Option ℕ

-- which packet stands at a place
standing : (ps : Packets) (i : ℕ) → i < length ps → (x : Tag × Packet) × (x ≡ get_or ps i x)
standing [] i h = absurd (omega (arith, h))
standing (y ∷ ys) zero h = (y, refl)
standing (y ∷ ys) (suc i) h = standing ys i (omega (arith, h))

-- a place that was looked for is the packet's
pub looked : (tag : Tag) (ps : Packets) (i : ℕ) → Some i ≡ position (is_tagged tag) ps → (x : Tag × Packet) × StandsAt tag ps i x
looked tag [] i e = absurd (let k : Some i ≡ None = e in cc)
looked tag (y ∷ ys) i e =
    let p = position-Some (is_tagged tag) (y ∷ ys) i y (sym e) in
    let q = standing (y ∷ ys) i p.0 in (q.0, stands_at tag (y ∷ ys) i q.0 e q.1)

pub there_from : (tag : Tag) (ps : Packets) (o : Place) → o ≡ position (is_tagged tag) ps → is_some o ≡ has same_tag tag ps
there_from tag ps None e = sym (ap is_some (not_found tag ps e))
there_from tag ps (Some i) e = let q = looked tag ps i e in sym (ap is_some (found tag ps i q.0 q.1))

pub put_before_from : (tag : Tag) (ps : Packets) (o : Place) → o ≡ position (is_tagged tag) ps → (z : Tag × Packet) → inserted o z ps ≡ put_in_front same_tag tag z ps
put_before_from tag ps None e z = none_before tag z ps (not_found tag ps e)
put_before_from tag ps (Some i) e z = let q = looked tag ps i e in put_at_place tag ps i q.0 z q.1

pub put_after_from : (tag : Tag) (ps : Packets) (i : ℕ) → Some i ≡ position (is_tagged tag) ps → (z : Tag × Packet) → insert ps (suc i) z ≡ put_behind same_tag tag z ps
put_after_from tag ps i e z = let q = looked tag ps i e in put_after_place tag ps i q.0 z q.1
