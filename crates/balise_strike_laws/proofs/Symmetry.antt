-- Whether two entries are independent is the same from both sides.
-- Proves that the test is symmetric, so that the converse of the commuting law holds too.
-- From what the test says of each pair of places, and the symmetry of 'meet' and of the clause for room.
use Rattle.std.proofs.Common.{◌≡◌, true, false, List, [], ◌∷◌, ◌++◌, refl, sym, ◌∙◌}
use Rattle.std.proofs.lemmas.Bool.{both_ways}
use Rattle.balise_rules.specs.Paths.{Path, Entry, meet, meets_any, any_meets, changes, needs, apart}
use Rattle.balise_rules.proofs.Tests.{split_on}
use Rattle.balise_strike_laws.specs.Laws.{IsSymmetric}
use Rattle.balise_strike_laws.proofs.Places.{In, first_of, later_of, in-right, apart_sides, meet-sym}
use Rattle.balise_strike_laws.proofs.Rooms.{room-sym}

meets_any-from : (p : Path) → (qs : List Path) → ((q : Path) → In q qs → meet p q ≡ false) → meets_any p qs ≡ false
meets_any-from p [] h = refl
meets_any-from p (q ∷ qs) h = let a = h q first_of in simp a (meets_any-from p qs (λ r i. h r (later_of i)))

any_meets-from : (ps qs : List Path) → ((p q : Path) → In p ps → In q qs → meet p q ≡ false) → any_meets ps qs ≡ false
any_meets-from [] qs h = refl
any_meets-from (p ∷ ps) qs h = let a = meets_any-from p qs (λ q i. h p q first_of i) in simp a (any_meets-from ps qs (λ r q i j. h r q (later_of i) j))

other-way : (e f : Entry) → apart e f ≡ true → apart f e ≡ true
other-way e f h =
    let w = apart_sides e f h in
    let a : any_meets (changes f) (changes e ++ needs e) ≡ false = any_meets-from (changes f) (changes e ++ needs e) (λ p q i j. w.first q j p i) in
    let b : any_meets (needs f) (changes e) ≡ false = any_meets-from (needs f) (changes e) (λ p q i j. meet-sym p q ∙ w.second p (in-right p (changes f) (needs f) i) q j) in
    let c = room-sym e.0.1 f.0.1 w.room in
    simp (a, b, c)

pub symmetric : IsSymmetric
symmetric e f = split_on (apart e f)
    (λ h. h ∙ sym (other-way e f h))
    (λ h. h ∙ sym (split_on (apart f e) (λ k. absurd (both_ways (apart e f) h (other-way f e k))) (λ k. k)))
