-- The index after one link was added and another forgotten, at one place.
use Rattle.std.proofs.Common.{◌≡◌, ℕ, Bool, true, false, not, cond, ◌&&◌, Some, refl, sym, ap, ◌∙◌}
use Rattle.std.specs.Prelude.{option_and_then}
use Rattle.std.specs.BTreeSet as set
use Rattle.std.proofs.Math.Bool.{and-false, and-true}
use Rattle.std.proofs.lemmas.Bool.{true≢false}
use Rattle.balise_rules.specs.declared.tag.Tag.{Tag}
use Rattle.balise_rules.specs.declared.identity.Id.{Id}
use Rattle.balise_rules.specs.Tagged.{find}
use Rattle.balise_rules.specs.Tags.{same_tag, same_id}
use Rattle.balise_rules.specs.Telegram.{Telegram}
use Rattle.balise_rules.specs.Plan.{Plan, IsSound, country_of, telegram_at}
use Rattle.balise_rules.specs.Names.{is_real}
use Rattle.balise_rules.proofs.Tests.{tag_test, nat_test, id_test}
use Rattle.balise_index.specs.declared.link_place.LinkPlace.{LinkPlace}
use Rattle.balise_index.specs.NameIndex.{held, IndexOf}
use Rattle.balise_index.specs.Identities.{is_id}
use Rattle.balise_index.specs.Places.{is_place}
use Rattle.balise_plan.specs.Links.{named_at}
use Rattle.balise_plan.specs.PacketLinks.{is_in}
use Rattle.balise_plan.specs.Relinking.{AddsReal, ForgetsOther}
use Rattle.balise_index.proofs.identities.Equal.{id_is}
use Rattle.balise_index.proofs.places.Equal.{place_one}
use Rattle.balise_plan.proofs.naming.Identities.{id_in_packet, is_the, in-packet}
use Rattle.balise_plan.proofs.naming.LinksAt.{Linking}
use Rattle.balise_plan.proofs.naming.OfPacket.{named-inside}
use Rattle.balise_plan.proofs.naming.Walking.{place}

-- ---- by cases: a, whether the two identities are one; b, c, whether the old or the new is this one; s, whether the new can be named; r, whether this one can

swapped : (a b c s r : Bool) → (c ≡ true → r ≡ s) → (a ≡ true → b ≡ c) → (b ≡ true → c ≡ true → a ≡ true) → cond (not a && b) false (cond (s && c) true (r && b)) ≡ (r && c)
swapped true true true true true h i j = refl
swapped true true true true false h i j = absurd (true≢false (sym (h refl)))
swapped true true true false r h i j = refl
swapped false true true s r h i j = absurd (true≢false (sym (j refl refl)))
swapped true true false s r h i j = absurd (true≢false (i refl))
swapped false true false s true h i j = refl
swapped false true false s false h i j = refl
swapped true false true s r h i j = absurd (true≢false (sym (i refl)))
swapped false false true true true h i j = refl
swapped false false true true false h i j = absurd (true≢false (sym (h refl)))
swapped false false true false true h i j = absurd (true≢false (h refl))
swapped false false true false false h i j = refl
swapped true false false true r h i j = refl
swapped true false false false r h i j = refl
swapped false false false true r h i j = refl
swapped false false false false r h i j = refl

-- with the test of the place
elsewhere : (a b s c d : Bool) (o : Bool) → cond (a && (b && false)) false (cond (s && (c && false)) true o) ≡ o
elsewhere a b true c d o = simp and-false
elsewhere a b false c d o = simp and-false

module _ (g : Tag) (t : ℕ) (p : Tag) (k : ℕ) (plan : Plan) (sound : IsSound plan) (y : Telegram) (stands : telegram_at g t plan ≡ Some y) (names : IndexOf (set.BTreeSet LinkPlace)) (index : (q : Id) (w : LinkPlace) → held names q w ≡ named_at q w plan) (from : Id) (link : Linking p k y from) where
  here : (r : Id) → held names r (place g t p k) ≡ (is_real r && same_id from r)
  here r =
      index r (place g t p k) ∙ named-inside g t plan sound y stands p r (place g t p k) inside
      ∙ ap (λ b. is_real r && b) (in-packet (country_of y) k r (find same_tag p y.packets) ∙ ap (is_the r) (ap (option_and_then (id_in_packet (country_of y) k)) link.there ∙ link.names))
    where
      inside : is_in g t p (place g t p k) ≡ true
      inside = let a = tag_test.itself g in let b = nat_test.itself t in let c = tag_test.itself p in simp (a, b, c)

  module _ (to : Id) (mid after : IndexOf (set.BTreeSet LinkPlace)) (adds : AddsReal names mid to (place g t p k)) where
    -- this place or another
    by-place : (r : Id) (v : LinkPlace) (a c : Bool) (i j : Id) (x z : Bool) → (is_place (place g t p k) v ≡ true → cond (a && is_id i r) false (cond (c && is_id j r) true (is_real r && same_id from r)) ≡ x) → (is_place (place g t p k) v ≡ false → held names r v ≡ z) →
        cond (a && (is_id i r && is_place (place g t p k) v)) false (cond (c && (is_id j r && is_place (place g t p k) v)) true (held names r v)) ≡ cond (is_place (place g t p k) v) x z
    by-place r v a c i j x z m n = by (is_place (place g t p k) v) refl
      where
        by : (b : Bool) → is_place (place g t p k) v ≡ b → cond (a && (is_id i r && b)) false (cond (c && (is_id j r && b)) true (held names r v)) ≡ cond b x z
        by true e =
            ap (λ b. cond (a && b) false (cond (c && (is_id j r && true)) true (held names r v))) (and-true (is_id i r))
            ∙ ap (λ b. cond (a && is_id i r) false (cond (c && b) true (held names r v))) (and-true (is_id j r))
            ∙ ap (λ b. cond (a && is_id i r) false (cond (c && is_id j r) true b)) (ap (held names r) (sym (place_one (place g t p k) v e)) ∙ here r)
            ∙ m e
        by false e = elsewhere a (is_id i r) c (is_id j r) false (held names r v) ∙ n e

    same-real : (r : Id) → same_id to r ≡ true → is_real r ≡ is_real to
    same-real r e = ap is_real (sym (id_test.one to r e))

    same-both : (r : Id) → same_id to from ≡ true → same_id from r ≡ same_id to r
    same-both r e = ap (λ i. same_id i r) (sym (id_test.one to from e))

    same-two : (r : Id) → same_id from r ≡ true → same_id to r ≡ true → same_id to from ≡ true
    same-two r e d = ap (same_id to) (id_test.one from r e) ∙ d

    pub relinked : ForgetsOther mid after to from (place g t p k) → (r : Id) (v : LinkPlace) → held after r v ≡ cond (is_place (place g t p k) v) (is_real r && same_id to r) (held names r v)
    relinked f r v =
        f r v ∙ ap (cond (not (same_id to from) && (is_id from r && is_place (place g t p k) v)) false) (adds r v)
        ∙ by-place r v (not (same_id to from)) (is_real to) from to (is_real r && same_id to r) (held names r v)
        (λ e. ap (λ b. cond (not (same_id to from) && b) false (cond (is_real to && is_id to r) true (is_real r && same_id from r))) (id_is from r)
        ∙ ap (λ b. cond (not (same_id to from) && same_id from r) false (cond (is_real to && b) true (is_real r && same_id from r))) (id_is to r)
        ∙ swapped (same_id to from) (same_id from r) (same_id to r) (is_real to) (is_real r) (same-real r) (same-both r) (same-two r))
        (λ e. refl)
