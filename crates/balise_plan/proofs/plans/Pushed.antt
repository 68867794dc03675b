-- Tags of places: of a plan that was read, and after its changes, which are counted. Groups that are pushed.
use Rattle.std.proofs.Common.{◌≡◌, ◌≢◌, ◌⊎◌, inl, inr, ℕ, ◌+◌, Bool, List, [], ◌∷◌, length, insert, map, Result, Ok, Err, OnOk, refl, sym, ap, subst, ◌∙◌, arith, suc, ◌++◌, false, None}
use Rattle.balise_rules.specs.declared.tag.Tag.{Tag}
use Rattle.balise_rules.specs.declared.tag.Tag.TheVariants.{Base}
use Rattle.balise_rules.specs.declared.refusal.Refusal.{Refusal}
use Rattle.balise_rules.specs.declared.refusal.Refusal.TheVariants.{OutOfMemory}
use Rattle.balise_rules.specs.Plan.{Group, Plan, pushed, pushed_all, read_group, read_plan, with_group}
use Rattle.balise_plan.specs.GroupReading.{PushesGroup}
use Rattle.balise_index.specs.declared.link_place.LinkPlace.{LinkPlace}
use Rattle.balise_plan.specs.Held.{IsKept, IsBased, IsHeld}
use Rattle.balise_plan.specs.Spots.{Pushes}
use Rattle.balise_index.specs.NameIndex.{IndexOf}
use Rattle.std.proofs.lemmas.Bool.{ne_eqb}
use Rattle.std.proofs.lemmas.List.Edits.{insert_end}
use Rattle.balise_rules.specs.Tagged.{find}
use Rattle.balise_rules.specs.Tags.{same_tag}
use Rattle.std.specs.BTreeSet as set
use Rattle.balise_plan.specs.Held as held

-- where the tags of the groups are the same
pub with_tags : {ids new : IndexOf Tag} {names : IndexOf (set.BTreeSet LinkPlace)} {groups : Plan} → new ≡ ids → IsHeld ids names groups → IsHeld new names groups
with_tags {names = names} {groups = groups} e h = subst (λ t. IsHeld t names groups) (sym e) h

pub changed : {ids : IndexOf Tag} {names : IndexOf (set.BTreeSet LinkPlace)} {groups : Plan} (n : ℕ) → IsHeld ids names groups → IsKept ids names groups (n + 1)
changed n h = record { held = h; based = λ e. absurd (omega (arith, e)) }

-- the groups are as before
pub kept-as : {ids after_ids : IndexOf Tag} {names after : IndexOf (set.BTreeSet LinkPlace)} {plan groups : Plan} {n : ℕ} → IsKept ids names plan n → groups ≡ plan → IsHeld after_ids after groups → IsKept after_ids after groups n
kept-as {n = n} k e h = record { held = h; based = subst (λ gs. n ≡ 0 → IsBased 0 gs) (sym e) k.based }

-- the groups stay, whatever the indexes are
pub kept-by : {ids after_ids : IndexOf Tag} {names after : IndexOf (set.BTreeSet LinkPlace)} {plan groups : Plan} {n : ℕ} → IsKept ids names plan n → groups ≡ plan → IsHeld after_ids after plan → IsKept after_ids after groups n
kept-by {after_ids = ids} {after = names} k e h = kept-as k e (subst (IsHeld ids names) (sym e) h)

-- a change is counted, and the groups are what it makes
pub changed-to : {ids : IndexOf Tag} {names : IndexOf (set.BTreeSet LinkPlace)} {new groups : Plan} (n : ℕ) → groups ≡ new → IsHeld ids names new → IsKept ids names groups (n + 1)
changed-to {ids = ids} {names = names} n e h = changed n (subst (IsHeld ids names) (sym e) h)

-- the tag of a later place is new
pub later-new : (n m : ℕ) (plan : Plan) → IsBased n plan → n + length plan ≡ m → find same_tag (Base m) plan ≡ None
later-new n m [] b e = refl
later-new n m (y ∷ ys) b e =
    let d : same_tag (Base m) y.0 ≡ false = ap (same_tag (Base m)) b.0 ∙ ne_eqb m n (λ q. omega (arith, q, e)) in
    simp d (later-new (suc n) m ys b.1 (omega (arith, e)))

-- one more group at the end
pub based-more : (n m : ℕ) (plan : Plan) (ys : Group) → IsBased n plan → n + length plan ≡ m → IsBased n (plan ++ (Base m, ys) ∷ [])
based-more n m [] ys b e = (ap Base (let k : m ≡ n = omega (arith, e) in k), tt)
based-more n m (y ∷ rest) ys b e = (b.0, based-more (suc n) m rest ys b.1 (omega (arith, e)))

-- ---- one group more

-- one more group is tagged by its place
pub kept-more : {ids left : IndexOf Tag} {names after : IndexOf (set.BTreeSet LinkPlace)} {plan groups : Plan} {changes : ℕ} → IsKept ids names plan changes → (ys : Group) (n : ℕ) → n ≡ length plan → groups ≡ insert plan n (Base n, ys) → IsHeld left after groups → IsKept left after groups changes
kept-more {plan = plan} {groups = groups} k ys n q e h = record {
  held = h;
  based = λ z. subst (IsBased 0) (sym (e ∙ ap (λ m. insert plan m (Base n, ys)) q ∙ insert_end plan (Base n, ys))) (let at : 0 + length plan ≡ n = omega (arith, q) in based-more 0 n plan ys (k.based z) at);
}

-- ---- all groups

module _ {V : Type 0} (items : V → List (List Bool)) where
  -- what is left to be read on
  pub record PushedTo (all rest : List V) (plan : held.Plan) : Type 0 where
    pub so_far : read_plan (map items all) ≡ pushed_all (Ok plan.groups) (map items rest)
    pub unchanged : plan.changes ≡ 0

  module _ (all rest more : List V) (v : V) (old new : held.Plan) (p : PushedTo all rest old) (e : rest ≡ v ∷ more) where
    pub pushes-ill : (f : Refusal) → Pushes (items v) old (Err f) new → f ≢ OutOfMemory → read_plan (map items all) ≡ Err f
    pushes-ill f r n = by r.0
      where
        stuck : (gs : List (List (List Bool))) → pushed_all (Err f) gs ≡ Err f
        stuck [] = refl
        stuck (g ∷ gs) = refl

        by : (f ≡ OutOfMemory) ⊎ (pushed old.groups (items v) ≡ Err f) → read_plan (map items all) ≡ Err f
        by (inl q) = absurd (n q)
        by (inr q) = p.so_far ∙ ap (λ gs. pushed_all (Ok old.groups) (map items gs)) e ∙ ap (λ x. pushed_all x (map items more)) q ∙ stuck (map items more)

-- a group that was read is pushed as what it was read of
pub pushes-read : {A : Type 0} (old new : held.Plan) (ys : Group) (r : Result A Refusal) → ((bs : List (List Bool)) × (read_group bs ≡ Ok ys)) → PushesGroup ys old r new → OnOk r ((bs : List (List Bool)) × (pushed old.groups bs ≡ Ok new.groups))
pushes-read old new ys (Ok u) read p = (read.0, ap (with_group old.groups) read.1 ∙ p.0)
pushes-read old new ys (Err e) read p = tt
