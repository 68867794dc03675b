-- Places that compare equal are one.
use Rattle.std.proofs.Common.{◌≡◌, ℕ, true, ◌&&◌, eqb, sym, ap, ◌∙◌}
use Rattle.std.proofs.lemmas.Bool.{and_parts, eqb-true}
use Rattle.std.specs.Cmp.{IsEquivalence}
use Rattle.std.proofs.lemmas.Cmp.{eq_by_cmp_equiv}
use Rattle.balise_rules.specs.declared.tag.Tag.{Tag}
use Rattle.balise_rules.specs.Tags.{same_tag}
use Rattle.balise_rules.proofs.Tests.{tag_test}
use Rattle.balise_index.specs.declared.link_place.LinkPlace.{LinkPlace}
use Rattle.balise_index.specs.contracts.link_place.LinkPlaceOrd.TheImpl.Laws as place
use Rattle.balise_index.specs.Places.{is_place, same_place}

pub place_is : (a b : LinkPlace) → is_place a b ≡ same_place a b
place_is a b = sym (place.matches_eq-law a b)

place_parts : (a b : LinkPlace) → same_place a b ≡ true → (same_tag a.group b.group ≡ true) × (eqb a.telegram b.telegram ≡ true) × (same_tag a.packet b.packet ≡ true) × (eqb a.element b.element ≡ true)
place_parts a b e =
    let h = and_parts (same_tag a.group b.group) (eqb a.telegram b.telegram && (same_tag a.packet b.packet && eqb a.element b.element)) e in
    let i = and_parts (eqb a.telegram b.telegram) (same_tag a.packet b.packet && eqb a.element b.element) h.1 in
    let j = and_parts (same_tag a.packet b.packet) (eqb a.element b.element) i.1 in
    (h.0, i.0, j.0, j.1)

pub place_one : (a b : LinkPlace) → is_place a b ≡ true → a ≡ b
place_one a b e =
    let h = place_parts a b (sym (place_is a b) ∙ e) in
    ap (λ (x : Tag). record { group = x; telegram = a.telegram; packet = a.packet; element = a.element }) (tag_test.one a.group b.group h.0)
    ∙ ap (λ (x : ℕ). record { group = b.group; telegram = x; packet = a.packet; element = a.element }) (eqb-true a.telegram b.telegram h.1)
    ∙ ap (λ (x : Tag). record { group = b.group; telegram = b.telegram; packet = x; element = a.element }) (tag_test.one a.packet b.packet h.2)
    ∙ ap (λ (x : ℕ). record { group = b.group; telegram = b.telegram; packet = b.packet; element = x }) (eqb-true a.element b.element h.3)

pub places : IsEquivalence is_place
places = eq_by_cmp_equiv place.total-law
