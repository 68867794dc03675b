-- Numbers of homes: those below a limit and of another group are of entries that are apart.
use Rattle.std.proofs.Common.{◌≡◌, ◌∙◌, ◌<◌, ◌+◌, ◌*◌, ◌%◌, ℕ, zero, suc, Bool, true, false, ◌&&◌, not, eqb, nat_lt, List, [], ◌∷◌, All, map, take, sym, ap, subst, arith}
use Rattle.std.proofs.lemmas.Bool.{and_parts, ltb-true, not-true, not_from_false}
use Rattle.std.proofs.lemmas.List.Elements.{All-nil, All-cons, All-head, All-tail}
use Rattle.balise_rules.specs.declared.tag.Tag.{Tag}
use Rattle.balise_rules.specs.declared.tag.Tag.TheVariants.{Base, Fresh}
use Rattle.balise_rules.specs.Paths.{Entry, apart}
use Rattle.balise_rules.proofs.Tests.{test-sym, nat_test}
use Rattle.balise_edits.specs.declared.home.Home.{Home}
use Rattle.balise_edits.specs.declared.home.Extent.{Extent}
use Rattle.balise_edits.specs.declared.home.Extent.TheVariants.{Unnamed, Named, Group}
use Rattle.balise_edits.specs.Homes.{Lying, OfTelegram, OfGroup, lying, home_lying, home_number, number_at, elsewhere, apart_by, code, low, limit, count_far, home_at, is_far, AllApart}
use Rattle.balise_edits.proofs.Passing.{passing}
use Rattle.balise_edits.proofs.Elsewhere.{apart_elsewhere}

low-fits : (g : Tag) → low g < 16384
low-fits (Base n) = omega arith
low-fits (Fresh n) = omega arith

-- the last bits of a home's group
group-fits : (l : Lying) → (home_lying l).group < 16384
group-fits (OfTelegram g t m) = low-fits g
group-fits (OfGroup g) = low-fits g

not-and : (b c : Bool) → b ≡ false → not (b && c) ≡ true
not-and b c e = ap (λ x. not (x && c)) e

-- two extents and two telegrams, where the groups differ and the second home is below the limit of the first
by-extents : (x y : Extent) (g t : Bool) (r : ℕ) → g ≡ false → r < 16384 → code y * 16384 + r < limit x → apart_by x y g t ≡ true
by-extents Group Group g t r d s m = absurd (omega (arith, m))
by-extents Group Unnamed g t r d s m = not_from_false g d
by-extents Unnamed Group g t r d s m = not_from_false g d
by-extents Group Named g t r d s m = absurd (omega (arith, m))
by-extents Named Group g t r d s m = absurd (omega (arith, m))
by-extents Unnamed Unnamed g t r d s m = not-and g t d
by-extents Unnamed Named g t r d s m = not-and g t d
by-extents Named Unnamed g t r d s m = not-and g t d
by-extents Named Named g t r d s m = not-and g t d

far-elsewhere : (h k : Home) → k.group < 16384 → is_far h.group (limit h.extent) (home_number k) ≡ true → elsewhere h k ≡ true
far-elsewhere h k f e =
    let b = and_parts (not (eqb (home_number k % 16384) h.group)) (nat_lt (home_number k) (limit h.extent)) e in
    let same : home_number k % 16384 ≡ k.group = omega (arith, f) in
    let other : eqb h.group k.group ≡ false = test-sym nat_test h.group k.group ∙ sym (ap (λ (n : ℕ). eqb n h.group) same) ∙ not-true (eqb (home_number k % 16384) h.group) b.0 in
    let below : code k.extent * 16384 + k.group < limit h.extent = omega (arith, f, ltb-true (home_number k) (limit h.extent) b.1) in
    by-extents h.extent k.extent (eqb h.group k.group) (eqb h.telegram k.telegram) k.group other f below

-- an entry whose number is far is apart
far-apart : (e f : Entry) → is_far (home_at e).group (limit (home_at e).extent) (number_at f) ≡ true → apart e f ≡ true
far-apart e f d = apart_elsewhere e f (far-elsewhere (home_at e) (home_at f) (group-fits (lying f.0.0 f.0.1 f.1.names)) d)

all-apart : (e : Entry) (n : ℕ) (fs : List Entry) → All (λ n. is_far (home_at e).group (limit (home_at e).extent) n ≡ true) (take n (map number_at fs)) → AllApart e (take n fs)
all-apart e zero fs all = All-nil (λ f. apart e f ≡ true)
all-apart e (suc n) [] all = All-nil (λ f. apart e f ≡ true)
all-apart e (suc n) (f ∷ fs) all =
    let P : ℕ → Type 0 = λ n. is_far (home_at e).group (limit (home_at e).extent) n ≡ true in
    All-cons (λ f. apart e f ≡ true) f (take n fs) (far-apart e f (All-head P (number_at f) (take n (map number_at fs)) all)) (all-apart e n fs (All-tail P (number_at f) (take n (map number_at fs)) all))

-- the numbers that were counted
pub counted-apart : (e : Entry) (n : ℕ) (ns : List ℕ) (fs : List Entry) → n ≡ count_far e ns → ns ≡ map number_at fs → AllApart e (take n fs)
counted-apart e n ns fs c is =
    let p = is_far (home_at e).group (limit (home_at e).extent) in
    all-apart e n fs (subst (λ (ms : List ℕ). All (λ m. p m ≡ true) (take n ms)) is (subst (λ (k : ℕ). All (λ m. p m ≡ true) (take k ns)) (sym c) (passing p ns)))
