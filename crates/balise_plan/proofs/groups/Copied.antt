-- Groups of a sound plan copied one after another: each is new among those before it.
use Rattle.std.proofs.Common.{◌≡◌, ◌∙◌, ℕ, zero, suc, ◌+◌, ◌<◌, ◌≤◌, Bool, false, List, [], ◌∷◌, Some, None, length, insert, take, slice_get, refl, sym, ap, subst, arith, length-take}
use Rattle.std.specs.BTreeSet as set
use Rattle.std.proofs.lemmas.List.{take_all}
use Rattle.std.proofs.lemmas.Option.{slice_get_cases}
use Rattle.balise_rules.specs.declared.tag.Tag.{Tag}
use Rattle.balise_rules.specs.Tagged.{find, Distinct}
use Rattle.balise_rules.specs.Tags.{same_tag, same_id}
use Rattle.balise_rules.specs.Plan.{Group, Plan, IdentitiesDiffer, IsSound, group_named, identity_of}
use Rattle.balise_rules.proofs.Cases.{unsome}
use Rattle.balise_rules.proofs.Tests.{IsTest, split_keys, flip_no, tag_test, id_test}
use Rattle.balise_edit_laws.proofs.Naming.{no_group_from}
use Rattle.balise_plan.specs.Held.{IsHeld}
use Rattle.balise_index.specs.NameIndex.{IndexOf}
use Rattle.balise_index.specs.declared.link_place.LinkPlace.{LinkPlace}
use Rattle.balise_plan.proofs.naming.GroupLists.{found_at}

-- no tag stands twice
tag-new : {K A : Type 0} {same : K → K → Bool} → IsTest same → (xs : List (K × A)) (i : ℕ) (k : K) (x : A) → Distinct same xs → slice_get xs i ≡ Some (k, x) → find same k (take i xs) ≡ None
tag-new t [] i k x u e = absurd cc
tag-new t (y ∷ ys) zero k x u e = refl
tag-new {same = same} t (y ∷ ys) (suc i) k x u e =
    let later = found_at t ys i k x u.1 e in
    split_keys t k y.0
    (λ d q. absurd (let gone : find same k ys ≡ None = ap (λ q. find same q ys) q ∙ u.0 in let no : None ≡ Some x = sym gone ∙ later in cc))
    (λ d. simp d (tag-new t ys i k x u.1 e))

-- no identity stands twice
identity-new : (plan : Plan) (i : ℕ) (g : Tag) (ys : Group) → Distinct same_tag plan → IdentitiesDiffer plan → slice_get plan i ≡ Some (g, ys) → group_named (identity_of ys) (take i plan) ≡ None
identity-new [] i g ys u d e = absurd cc
identity-new (z ∷ zs) zero g ys u d e = refl
identity-new (z ∷ zs) (suc i) g ys u d e =
    let other : same_id (identity_of z.1) (identity_of ys) ≡ false = flip_no id_test (identity_of ys) (identity_of z.1) (no_group_from (identity_of z.1) zs d.0 g ys (found_at tag_test zs i g ys u.1 e)) in
    simp other (identity-new zs i g ys u.1 d.1 e)

insert-next : {A : Type 0} (xs : List A) (i : ℕ) (x : A) → slice_get xs i ≡ Some x → insert (take i xs) i x ≡ take (i + 1) xs
insert-next [] i x e = absurd cc
insert-next (y ∷ ys) zero x e = ap (λ z. z ∷ []) (sym (unsome e))
insert-next (y ∷ ys) (suc i) x e = ap (λ l. y ∷ l) (insert-next ys i x e) ∙ ap (λ k. take k (y ∷ ys)) (let k : suc (i + 1) ≡ suc i + 1 = omega arith in k)

-- the first groups are copied, and the indexes say what a walk over them does
pub record Copied (plan : Plan) (i : ℕ) (ids : IndexOf Tag) (names : IndexOf (set.BTreeSet LinkPlace)) (groups : Plan) : Type 0 where
  pub first : groups ≡ take i plan
  pub held : IsHeld ids names groups

-- the next group may be put in at the end
pub record IsNext (plan : Plan) (i : ℕ) (g : Tag) (ys : Group) (groups : Plan) : Type 0 where
  pub within : i ≤ length groups
  pub new : find same_tag g groups ≡ None
  pub free : group_named (identity_of ys) groups ≡ None
  pub more : insert groups i (g, ys) ≡ take (i + 1) plan

pub is-next : (plan : Plan) (i : ℕ) (g : Tag) (ys zs : Group) (ids : IndexOf Tag) (names : IndexOf (set.BTreeSet LinkPlace)) (groups : Plan) → IsSound plan → Copied plan i ids names groups → i < length plan → slice_get plan i ≡ Some (g, ys) → zs ≡ ys → IsNext plan i g zs groups
is-next plan i g ys zs ids names groups s c l e same = subst (IsNext plan i g zs) (sym c.first) (subst (λ (x : Group). IsNext plan i g x (take i plan)) (sym same) (record {
  within = omega (arith, length-take i plan, l);
  new = tag-new tag_test plan i g ys s.tags e;
  free = identity-new plan i g ys s.tags s.identities e;
  more = insert-next plan i (g, ys) e;
}))

pub no-more : {A : Type 0} (xs : List A) (i : ℕ) → slice_get xs i ≡ None → length xs ≤ i
no-more xs i e = grind (arith, slice_get_cases)

pub all-copied : (plan : Plan) (i : ℕ) (ids : IndexOf Tag) (names : IndexOf (set.BTreeSet LinkPlace)) (groups : Plan) → Copied plan i ids names groups → length plan ≤ i → groups ≡ plan
all-copied plan i ids names groups c l = c.first ∙ take_all i plan l
