-- Edits of different telegrams are apart, and those of a telegram and of another group where no identity is named.
use Rattle.std.proofs.Common.{◌≡◌, ◌∙◌, ◌%◌, ℕ, refl, sym, ap, Bool, true, false, cond, ◌&&◌, ◌||◌, not, List, [], ◌∷◌, ◌++◌, eqb, length, Option, Some, None, arith}
use Rattle.std.proofs.lemmas.Bool.{and_left, and_parts, and_right, eqb-true, not-false, not-true, true≢false}
use Rattle.balise_rules.specs.declared.variable.Var.TheVariants.{NidBg, QLinkorientation, QDir, MDup}
use Rattle.balise_rules.specs.declared.identity.Id.{Id}
use Rattle.balise_rules.specs.declared.tag.Tag.{Tag}
use Rattle.balise_rules.specs.Tags.{same_tag, same_var}
use Rattle.balise_rules.specs.Edits.{Edit}
use Rattle.balise_rules.specs.declared.tagged_edit.TaggedEdit.TheVariants.{SetVar, SetHead, InsertPacket, DeletePacket, MovePacket, AddGroup, DropGroup, Renumber, TurnGroup}
use Rattle.balise_rules.specs.Paths.{Path, Entry, At, Nth, Turn, After, Front, Whose, anchor, neighbour, changes, needs, ids, meet, meets_any, any_meets, room_apart, apart}
use Rattle.balise_rules.specs.Behind.{anchored}
use Rattle.balise_rules.proofs.Tests.{equal_yes, flip_no, split_keys, test-sym, tag_test, nat_test}
use Rattle.balise_strike_laws.proofs.Symmetry.{symmetric}
use Rattle.balise_edits.specs.Homes.{Lying, OfTelegram, OfGroup, lying, home_lying, home_at, home_of, are_named, elsewhere, low}

-- by whole tags
abbrev far : Lying → Lying → Bool
far (OfTelegram g t m) (OfTelegram h u n) = not (same_tag g h && eqb t u)
far (OfTelegram g t m) (OfGroup h) = not m && not (same_tag g h)
far (OfGroup h) (OfTelegram g t m) = not m && not (same_tag g h)
far (OfGroup g) (OfGroup h) = false

abbrev Each : (Path → Type 0) → List Path → Type 0
Each P [] = Unit {0}
Each P (p ∷ ps) = P p × Each P ps

-- a place in a telegram
data Inside (g : Tag) (t : ℕ) : Path → Type 0 where
  inside : (r : Path) → Inside g t (At g ∷ Nth t ∷ r)

-- what an edit of a telegram needs: places in it, its group's orientation, identities
data Beside (g : Tag) (t : ℕ) : Path → Type 0 where
  within : (r : Path) → Beside g t (At g ∷ Nth t ∷ r)
  turned : Beside g t (At g ∷ Turn ∷ [])
  named : (i : Id) → Beside g t (Whose i ∷ [])

and-more : (a b c : Bool) → (a && b) ≡ false → (a && (b && c)) ≡ false
and-more true true c h = absurd (cc)
and-more true false c h = refl
and-more false b c h = refl

and-no : (a : Bool) → (a && false) ≡ false
and-no a = and_right a false refl

far-inside : {g g1 : Tag} → {t t1 : ℕ} → (same_tag g g1 && eqb t t1) ≡ false → (p q : Path) → Inside g t p → Beside g1 t1 q → meet p q ≡ false
far-inside {g} {g1} {t} {t1} d p q (inside r) (within r1) = and-more (same_tag g g1) (eqb t t1) (meet r r1) d
far-inside {g} {g1} d p q (inside r) turned = and-no (same_tag g g1)
far-inside d p q (inside r) (named i) = refl

far-beside : {g g1 : Tag} → {t t1 : ℕ} → (same_tag g g1 && eqb t t1) ≡ false → (p q : Path) → Beside g t p → Inside g1 t1 q → meet p q ≡ false
far-beside {g} {g1} {t} {t1} d p q (within r) (inside r1) = and-more (same_tag g g1) (eqb t t1) (meet r r1) d
far-beside {g} {g1} d p q turned (inside r1) = and-no (same_tag g g1)
far-beside d p q (named i) (inside r1) = refl

none-meets : {P Q : Path → Type 0} → ((p q : Path) → P p → Q q → meet p q ≡ false) → (p : Path) → P p → (qs : List Path) → Each Q qs → meets_any p qs ≡ false
none-meets far p a [] b = refl
none-meets far p a (q ∷ qs) b = ap (λ x. x || meets_any p qs) (far p q a b.0) ∙ none-meets far p a qs b.1

none-meet : {P Q : Path → Type 0} → ((p q : Path) → P p → Q q → meet p q ≡ false) → (ps qs : List Path) → Each P ps → Each Q qs → any_meets ps qs ≡ false
none-meet far [] qs a b = refl
none-meet far (p ∷ ps) qs a b = ap (λ x. x || any_meets ps qs) (none-meets far p a.0 qs b) ∙ none-meet far ps qs a.1 b

each-both : (Q : Path → Type 0) → (ps qs : List Path) → Each Q ps → Each Q qs → Each Q (ps ++ qs)
each-both Q [] qs a b = b
each-both Q (p ∷ ps) qs a b = (a.0, each-both Q ps qs a.1 b)

each-as : {P Q : Path → Type 0} → ((p : Path) → P p → Q p) → (ps : List Path) → Each P ps → Each Q ps
each-as f [] a = tt
each-as f (p ∷ ps) a = (f p a.0, each-as f ps a.1)

beside : {g : Tag} → {t : ℕ} → (p : Path) → Inside g t p → Beside g t p
beside p (inside r) = within r

each-id : (Q : Path → Type 0) → ((i : Id) → Q (Whose i ∷ [])) → (is : List Id) → Each Q (ids is)
each-id Q f [] = tt
each-id Q f (i ∷ is) = (f i, each-id Q f is)

-- what a setting in a packet, or in a header, needs by its variable
each-var : (Q : Path → Type 0) → (p q : Path) → (is : List Id) → Q p → Q q → Each Q (ids is) → (a b c : Bool) → Each Q (cond a (p ∷ []) (cond b (q ∷ ids is) (cond c (ids is) [])))
each-var Q p q is x y z true b c = (x, tt)
each-var Q p q is x y z false true c = (y, z)
each-var Q p q is x y z false false true = z
each-var Q p q is x y z false false false = tt

each-head : (Q : Path → Type 0) → (p : Path) → Q p → (a : Bool) → Each Q (cond a (p ∷ []) [])
each-head Q p x true = (x, tt)
each-head Q p x false = tt

-- ---- the same without identities, beside another group

-- what an edit of a telegram needs where no identity is named
data Alone (g : Tag) (t : ℕ) : Path → Type 0 where
  alone : (r : Path) → Alone g t (At g ∷ Nth t ∷ r)
  turn : Alone g t (At g ∷ Turn ∷ [])

-- what an edit at a group changes or needs: places in the group, sides of groups, identities
data Round (h : Tag) : Path → Type 0 where
  in_it : (r : Path) → Round h (At h ∷ r)
  behind : (a : Option Tag) → Round h (anchor a ∷ After ∷ [])
  in_front : (b : Option Tag) → Round h (neighbour b ∷ Front ∷ [])
  whose : (i : Id) → Round h (Whose i ∷ [])

far-alone : {g h : Tag} → {t : ℕ} → same_tag g h ≡ false → (p q : Path) → Alone g t p → Round h q → meet p q ≡ false
far-alone {g} {h} {t} d p q (alone r) (in_it k) = and_left (same_tag g h) (meet (Nth t ∷ r) k) d
far-alone {g} d p q (alone r) (behind None) = refl
far-alone {g} d p q (alone r) (behind (Some a)) = and-no (same_tag g a)
far-alone {g} d p q (alone r) (in_front None) = refl
far-alone {g} d p q (alone r) (in_front (Some b)) = and-no (same_tag g b)
far-alone d p q (alone r) (whose i) = refl
far-alone {g} {h} d p q turn (in_it k) = and_left (same_tag g h) (meet (Turn ∷ []) k) d
far-alone {g} d p q turn (behind None) = refl
far-alone {g} d p q turn (behind (Some a)) = and-no (same_tag g a)
far-alone {g} d p q turn (in_front None) = refl
far-alone {g} d p q turn (in_front (Some b)) = and-no (same_tag g b)
far-alone d p q turn (whose i) = refl

lone : {g : Tag} → {t : ℕ} → (p : Path) → Inside g t p → Alone g t p
lone p (inside r) = alone r

none-named : (g : Tag) → (t : ℕ) → (is : List Id) → are_named is ≡ false → Each (Alone g t) (ids is)
none-named g t [] e = tt
none-named g t (i ∷ is) e = absurd (let w = eqb-true (length (i ∷ is)) 0 (not-false (eqb (length (i ∷ is)) 0) e) in omega (arith, w))

-- where the places of an entry lie
abbrev Lies : Lying → Entry → Type 0
Lies (OfTelegram g t n) e = Each (Inside g t) (changes e) × Each (Beside g t) (needs e) × (n ≡ false → Each (Alone g t) (needs e))
Lies (OfGroup h) e = Each (Round h) (changes e) × Each (Round h) (needs e)

abbrev lies_at : Entry → Lying
lies_at e = lying e.0.0 e.0.1 e.1.names

lies : (e : Entry) → Lies (lies_at e) e
lies ((s, SetVar g t p v k n), m) =
    let a = same_var QDir v in let b = same_var QLinkorientation v in let c = same_var NidBg v in
    ((inside _, tt), each-var (Beside g t) _ _ m.names turned (within _) (each-id (Beside g t) named m.names) a b c, λ e. each-var (Alone g t) _ _ m.names turn (alone _) (none-named g t m.names e) a b c)
lies ((s, SetHead g t v n), m) = ((inside _, tt), each-head (Beside g t) _ turned (same_var MDup v), λ e. each-head (Alone g t) _ turn (same_var MDup v))
lies ((s, InsertPacket g t a x), m) = ((inside _, (inside _, tt)), (turned, each-id (Beside g t) named m.names), λ e. (turn, none-named g t m.names e))
lies ((s, DeletePacket g t p), m) = ((inside _, (inside _, tt)), (turned, each-id (Beside g t) named m.names), λ e. (turn, none-named g t m.names e))
lies ((s, MovePacket g t p a), m) = ((inside _, (inside _, (inside _, (inside _, tt)))), tt, λ e. tt)
lies ((s, AddGroup a bs), m) = ((in_it _, (behind a, (whose _, tt))), each-id (Round _) whose m.names)
lies ((s, DropGroup g), m) = ((in_it _, (in_front m.before, (whose _, tt))), each-id (Round _) whose m.names)
lies ((s, Renumber g n), m) = ((in_it _, (whose _, (whose _, tt))), tt)
lies ((s, TurnGroup g), m) = ((in_it _, (whose _, tt)), tt)

other-way : (g g1 : Tag) → (t t1 : ℕ) → (same_tag g1 g && eqb t1 t) ≡ (same_tag g g1 && eqb t t1)
other-way g g1 t t1 = ap (λ b. b && eqb t1 t) (test-sym tag_test g1 g) ∙ ap (λ b. same_tag g g1 && b) (test-sym nat_test t1 t)

neither : (a b : Bool) → (not a && not b) ≡ true → (a ≡ false) × (b ≡ false)
neither a b h = let w = and_parts (not a) (not b) h in (not-true a w.0, not-true b w.1)

room-elsewhere : (s r : ℕ) → (e f : Edit) → (is js : List Id) → far (lying s e is) (lying r f js) ≡ true → room_apart e f ≡ true
room-elsewhere s r (InsertPacket g t a x) (DeletePacket g1 t1 p) is js h = h
room-elsewhere s r (DeletePacket g1 t1 p) (InsertPacket g t a x) is js h = ap not (other-way g1 g t1 t) ∙ h
room-elsewhere s r e f is js h = refl

-- two tests that don't hold, and the clause for room
clears : (e f : Entry) → any_meets (changes e) (changes f ++ needs f) ≡ false → any_meets (needs e) (changes f) ≡ false → room_apart e.0.1 f.0.1 ≡ true → apart e f ≡ true
clears e f a b r =
    ap (λ x. not x && (not (any_meets (needs e) (changes f)) && room_apart e.0.1 f.0.1)) a
    ∙ ap (λ x. not x && room_apart e.0.1 f.0.1) b ∙ r

beside-group : (g h : Tag) → (t : ℕ) → (n : Bool) → (e f : Entry) → Lies (OfTelegram g t n) e → Lies (OfGroup h) f → n ≡ false → same_tag g h ≡ false → room_apart e.0.1 f.0.1 ≡ true → apart e f ≡ true
beside-group g h t n e f a b none other r = clears e f
    (none-meet (far-alone other) (changes e) (changes f ++ needs f) (each-as lone (changes e) a.0) (each-both (Round h) (changes f) (needs f) b.0 b.1))
    (none-meet (far-alone other) (needs e) (changes f) (a.2 none) b.0) r

from-lies : (h k : Lying) → (e f : Entry) → Lies h e → Lies k f → far h k ≡ true → room_apart e.0.1 f.0.1 ≡ true → room_apart f.0.1 e.0.1 ≡ true → apart e f ≡ true
from-lies (OfTelegram g t m) (OfTelegram g1 t1 n) e f a b d r q =
    let no : (same_tag g g1 && eqb t t1) ≡ false = not-true _ d in
    clears e f
    (none-meet (far-inside no) (changes e) (changes f ++ needs f) a.0 (each-both (Beside g1 t1) (changes f) (needs f) (each-as beside (changes f) b.0) b.1))
    (none-meet (far-beside no) (needs e) (changes f) a.1 b.0) r
from-lies (OfTelegram g t m) (OfGroup h) e f a b d r q = let w = neither m (same_tag g h) d in beside-group g h t m e f a b w.0 w.1 r
from-lies (OfGroup h) (OfTelegram g t m) e f a b d r q = let w = neither m (same_tag g h) d in symmetric e f ∙ beside-group g h t m f e b a w.0 w.1 q
from-lies (OfGroup g) (OfGroup h) e f a b d r q = absurd (cc)

turned-round : (h k : Lying) → far h k ≡ true → far k h ≡ true
turned-round (OfTelegram g t m) (OfTelegram g1 t1 n) d = ap not (other-way g g1 t t1) ∙ d
turned-round (OfTelegram g t m) (OfGroup h) d = d
turned-round (OfGroup h) (OfTelegram g t m) d = d
turned-round (OfGroup g) (OfGroup h) d = d

apart-far : (e f : Entry) → far (lies_at e) (lies_at f) ≡ true → apart e f ≡ true
apart-far e f d = from-lies (lies_at e) (lies_at f) e f (lies e) (lies f) d
    (room-elsewhere e.0.0 f.0.0 e.0.1 f.0.1 e.1.names f.1.names d)
    (room-elsewhere f.0.0 e.0.0 f.0.1 e.0.1 f.1.names e.1.names (turned-round (lies_at e) (lies_at f) d))

-- ---- the same by homes, which have less of the tags

-- two tags that are one have one number
low-same : (g h : Tag) → eqb (low g) (low h) ≡ false → same_tag g h ≡ false
low-same g h n = split_keys tag_test g h (λ _ q. absurd (true≢false (sym (equal_yes nat_test (low g) (low h) (ap low q)) ∙ n))) (λ e. e)

last-same : (t u : ℕ) → eqb (t % 256) (u % 256) ≡ false → eqb t u ≡ false
last-same t u n = split_keys nat_test t u (λ _ q. absurd (true≢false (sym (equal_yes nat_test (t % 256) (u % 256) (ap (λ (k : ℕ). k % 256) q)) ∙ n))) (λ e. e)

both-same : (a b c d : Bool) → (a ≡ false → c ≡ false) → (b ≡ false → d ≡ false) → not (a && b) ≡ true → not (c && d) ≡ true
both-same true true c d f g h = absurd (cc)
both-same true false c d f g h = ap (λ x. not (c && x)) (g refl) ∙ ap not (and-no c)
both-same false b c d f g h = ap (λ x. not (x && d)) (f refl)

one-same : (a c : Bool) → (a ≡ false → c ≡ false) → not a ≡ true → not c ≡ true
one-same a c f h = ap not (f (not-true a h))

far-lying : (h k : Lying) → elsewhere (home_lying h) (home_lying k) ≡ true → far h k ≡ true
far-lying (OfTelegram g t true) (OfTelegram g1 t1 true) d = both-same (eqb (low g) (low g1)) (eqb (t % 256) (t1 % 256)) (same_tag g g1) (eqb t t1) (low-same g g1) (last-same t t1) d
far-lying (OfTelegram g t true) (OfTelegram g1 t1 false) d = both-same (eqb (low g) (low g1)) (eqb (t % 256) (t1 % 256)) (same_tag g g1) (eqb t t1) (low-same g g1) (last-same t t1) d
far-lying (OfTelegram g t false) (OfTelegram g1 t1 true) d = both-same (eqb (low g) (low g1)) (eqb (t % 256) (t1 % 256)) (same_tag g g1) (eqb t t1) (low-same g g1) (last-same t t1) d
far-lying (OfTelegram g t false) (OfTelegram g1 t1 false) d = both-same (eqb (low g) (low g1)) (eqb (t % 256) (t1 % 256)) (same_tag g g1) (eqb t t1) (low-same g g1) (last-same t t1) d
far-lying (OfTelegram g t true) (OfGroup h) d = absurd (cc)
far-lying (OfTelegram g t false) (OfGroup h) d = one-same (eqb (low g) (low h)) (same_tag g h) (low-same g h) d
far-lying (OfGroup h) (OfTelegram g t true) d = absurd (cc)
far-lying (OfGroup h) (OfTelegram g t false) d = one-same (eqb (low h) (low g)) (same_tag g h) (λ n. low-same g h (flip_no nat_test (low h) (low g) n)) d
far-lying (OfGroup g) (OfGroup h) d = absurd (cc)

pub apart_elsewhere : (e f : Entry) → elsewhere (home_at e) (home_at f) ≡ true → apart e f ≡ true
apart_elsewhere e f d = apart-far e f (far-lying (lies_at e) (lies_at f) d)

-- another anchor leaves an edit where it lies
pub home_anchored : (s : ℕ) → (a : Option Tag) → (e : Edit) → (is : List Id) → home_of s (anchored a e) is ≡ home_of s e is
home_anchored s a (InsertPacket g t b x) is = refl
home_anchored s a e is = refl
