-- What putting a group in makes of a plan and of its indexes.
use Rattle.std.proofs.Common.{◌≡◌, ℕ, Bool, true, false, cond, eqb, ◌&&◌, ◌||◌, Option, Some, None, insert, take, drop, refl, sym, ap, ◌∙◌, arith}
use Rattle.std.specs.Prelude.{option_and_then}
use Rattle.std.specs.BTreeSet as set
use Rattle.std.proofs.lemmas.Bool.{true≢false}
use Rattle.std.proofs.lemmas.List.{take-append-drop}
use Rattle.std.proofs.Math.Bool.{and-false}
use Rattle.balise_rules.specs.declared.tag.Tag.{Tag}
use Rattle.balise_rules.specs.declared.identity.Id.{Id}
use Rattle.balise_rules.specs.Tagged.{find}
use Rattle.balise_rules.specs.Tags.{same_tag, same_id}
use Rattle.balise_rules.specs.Plan.{Group, IsSound, IsSoundGroup, identity_of, group_named}
use Rattle.balise_rules.specs.Plan as rules
use Rattle.balise_rules.specs.Names.{is_real}
use Rattle.balise_rules.proofs.Tests.{split_on, split_keys, flip_no, test-sym, equal_yes, tag_test, id_test}
use Rattle.balise_rules.proofs.Cases.{unsome, parts3}
use Rattle.balise_edit_laws.proofs.Naming.{no_group_from}
use Rattle.balise_edit_laws.proofs.Identities.{AllApart, differ_apart, apart_differ}
use Rattle.balise_index.specs.declared.link_place.LinkPlace.{LinkPlace}
use Rattle.balise_index.specs.NameIndex.{held, indexed, IndexOf}
use Rattle.balise_index.specs.Identities.{is_id}
use Rattle.balise_plan.specs.Links.{named_at, named_in_telegram}
use Rattle.balise_plan.specs.GroupLinks.{listed, links_in_group, SetsAll}
use Rattle.balise_plan.specs.Held.{IsHeld, tag_named}
use Rattle.balise_index.proofs.identities.Equal.{id_is}
use Rattle.balise_plan.proofs.naming.GroupLists.{noted_or}
use Rattle.balise_plan.proofs.naming.OfGroup.{listed-names}
use Rattle.balise_plan.proofs.naming.Identities.{tag-named}
use Rattle.balise_plan.proofs.items.Inserted.{Between, between-other, between-itself, between-distinct, between-all}
use Rattle.balise_plan.proofs.turned.Plans.{tags-same}

insert-between : (z : Tag × Group) (xs : rules.Plan) (i : ℕ) → Between z xs (insert xs i z)
insert-between z xs i = record { left = take i xs; right = drop i xs; before = sym (take-append-drop i xs); after = refl }

module _ (plan : rules.Plan) (ids : IndexOf Tag) (names : IndexOf (set.BTreeSet LinkPlace)) (held_is : IsHeld ids names plan) (g : Tag) (ys : Group) (absent : find same_tag g plan ≡ None) (good : IsSoundGroup ys) where
  abbrev named : LinkPlace → Id → Option Group → Bool
  named w q o = is_real q && named_in_telegram q w (option_and_then (find eqb w.telegram) o)

  -- none of its links is noted
  pub none-noted : (q : Id) (w : LinkPlace) → listed q w (links_in_group g ys) ≡ true → held names q w ≡ false
  none-noted q w e =
      let h = parts3 (is_real q) (same_tag g w.group) (named_in_telegram q w (find eqb w.telegram ys)) (sym (listed-names g ys good q w) ∙ e) in
      held_is.named q w ∙ ap (named w q) (ap (λ u. find same_tag u plan) (sym (tag_test.one g w.group h.1)) ∙ absent) ∙ and-false (is_real q)

  module _ (free : group_named (identity_of ys) plan ≡ None) (new : rules.Plan) (b : Between (g, ys) plan new) where
    itself : find same_tag g new ≡ Some ys
    itself = between-itself b absent

    -- what is found afterwards is the group, or was found
    was : {P : Type 0} (h : Tag) (zs : Group) → find same_tag h new ≡ Some zs → (h ≡ g → ys ≡ zs → P) → (same_tag h g ≡ false → find same_tag h plan ≡ Some zs → P) → P
    was h zs e k l =
        split_keys tag_test h g
        (λ d q. k q (unsome (sym itself ∙ ap (λ u. find same_tag u new) (sym q) ∙ e)))
        (λ d. l d (sym (between-other b h d) ∙ e))

    apart : AllApart new
    apart h k us vs e f n =
        was h us e
        (λ p u. was k vs f
        (λ r v. absurd (true≢false (sym (equal_yes tag_test h k (p ∙ sym r)) ∙ n)))
        (λ d v. ap (λ x. same_id (identity_of x) (identity_of vs)) (sym u) ∙ flip_no id_test (identity_of vs) (identity_of ys) (no_group_from (identity_of ys) plan free k vs v)))
        (λ d u. was k vs f
        (λ r v. ap (λ x. same_id (identity_of us) (identity_of x)) (sym v) ∙ no_group_from (identity_of ys) plan free h us u)
        (λ r v. differ_apart plan held_is.sound.identities h k us vs u v n))

    put-sound : IsSound new
    put-sound =
        let u = between-distinct b absent held_is.sound.tags in
        record { tags = u; identities = apart_differ new u apart; groups = between-all b IsSoundGroup good held_is.sound.groups }

    tags-put : (q : Id) → tag_named q new ≡ cond (same_id (identity_of ys) q) (Some g) (tag_named q plan)
    tags-put q =
        split_on (same_id (identity_of ys) q)
        (λ a. simp a (tag-named q new put-sound g ys itself a))
        (λ a. simp a (tags-same plan new held_is.sound put-sound q
        (λ h zs e m.
        let d : same_tag h g ≡ false = split_keys tag_test h g (λ d k. absurd (let w : None ≡ Some zs = sym absent ∙ ap (λ u. find same_tag u plan) (sym k) ∙ e in cc)) (λ d. d) in
        (zs, between-other b h d ∙ e, m))
        (λ h zs e m. was h zs e (λ p u. absurd (true≢false (sym m ∙ ap (λ x. same_id (identity_of x) q) (sym u) ∙ a))) (λ d u. (zs, u, m)))))

    names-put : (after : IndexOf (set.BTreeSet LinkPlace)) → SetsAll true (links_in_group g ys) names after → (q : Id) (w : LinkPlace) → held after q w ≡ named_at q w new
    names-put after f q w =
        noted_or (links_in_group g ys) names after f q w ∙ ap (λ x. x || held names q w) (listed-names g ys good q w) ∙ ap (λ x. (is_real q && (same_tag g w.group && there)) || x) (held_is.named q w)
        ∙ joined (is_real q) (same_tag g w.group) there (named_at q w plan) (named_at q w new)
        (λ d. ap (named w q) (ap (λ u. find same_tag u plan) (sym (tag_test.one g w.group d)) ∙ absent))
        (λ d. ap (named w q) (ap (λ u. find same_tag u new) (sym (tag_test.one g w.group d)) ∙ itself))
        (λ d. ap (named w q) (between-other b w.group (test-sym tag_test w.group g ∙ d)))
      where
        there : Bool
        there = named_in_telegram q w (find eqb w.telegram ys)

        joined : (r s x old new : Bool) → (s ≡ true → old ≡ (r && false)) → (s ≡ true → new ≡ (r && x)) → (s ≡ false → new ≡ old) → ((r && (s && x)) || old) ≡ new
        joined r s x old new h k l = grind arith

  module _ (free : group_named (identity_of ys) plan ≡ None) (after : IndexOf (set.BTreeSet LinkPlace)) (adds : SetsAll true (links_in_group g ys) names after) (i : Id) (is_own : i ≡ identity_of ys) (left : IndexOf Tag) (put : (q : Id) → indexed left q ≡ cond (is_id i q) (Some g) (indexed ids q)) where
    pub held-inserted : (n : ℕ) → IsHeld left after (insert plan n (g, ys))
    held-inserted n =
        let new = insert plan n (g, ys) in
        let b = insert-between (g, ys) plan n in
        record {
          sound = put-sound free new b;
          tags = λ q. put q ∙ ap (λ j. cond (is_id j q) (Some g) (indexed ids q)) is_own ∙ ap (λ x. cond x (Some g) (indexed ids q)) (id_is (identity_of ys) q)
              ∙ ap (cond (same_id (identity_of ys) q) (Some g)) (held_is.tags q) ∙ sym (tags-put free new b q);
          named = names-put free new b after adds;
        }
