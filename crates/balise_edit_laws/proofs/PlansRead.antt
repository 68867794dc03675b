-- The law that a plan that is read is sound, and that no serial tags anything in it.
-- From the groups, each of which is sound as it is read, put at the end one after another under the tags of their places.
-- A group is refused where one of its identity stands.
use Rattle.std.proofs.Common.{◌≡◌, ℕ, ◌≤◌, Bool, false, eqb, List, [], ◌∷◌, ◌++◌, length, Some, None, Result, Ok, Err, option_and_then, refl, sym, ap, subst, ◌∙◌, arith, length-append}
use Rattle.std.proofs.lemmas.Bool.{ne_eqb}
use Rattle.std.proofs.lemmas.List.Elements.{All-nil, All-push}
use Rattle.balise_rules.specs.declared.tag.Tag.{Tag}
use Rattle.balise_rules.specs.declared.tag.Tag.TheVariants.{Base, Fresh}
use Rattle.balise_rules.specs.declared.identity.Id.{Id}
use Rattle.balise_rules.specs.declared.refusal.Refusal.{Refusal}
use Rattle.balise_rules.specs.Tagged.{find}
use Rattle.balise_rules.specs.Tags.{same_tag, same_id}
use Rattle.balise_rules.specs.Telegram.{Telegram}
use Rattle.balise_rules.specs.Plan.{Plan, Group, identity_of, telegram_at, group_named, read_group, read_plan, pushed, pushed_all, with_group, IsSoundGroup, IdentitiesDiffer, IsSound}
use Rattle.balise_rules.specs.Accepting.{Unused}
use Rattle.balise_rules.proofs.Tests.{split_on, flip_no, tag_test, id_test}
use Rattle.balise_rules.proofs.Cases.{unsome, found, unok}
use Rattle.balise_rules.proofs.Reversed.{find-append, find-append_some, distinct_last}
use Rattle.balise_rules.proofs.Found.{in_group}
use Rattle.balise_edit_laws.proofs.GroupsRead.{group_read, GroupRead}

-- what is known of a plan while it is read
record PlanRead (plan : Plan) : Type 0 where
  sound : IsSound plan
  places : (m : ℕ) → length plan ≤ m → find same_tag (Base m) plan ≡ None
  unused : (s : ℕ) → Unused s plan

absent_last : (k : Tag) → (plan : Plan) → (z : Tag × Group) → find same_tag k plan ≡ None → same_tag k z.0 ≡ false → find same_tag k (plan ++ z ∷ []) ≡ None
absent_last k plan z n e = let l : find same_tag k (z ∷ []) ≡ None = simp e in find-append same_tag k plan (z ∷ []) n ∙ l

unnamed_last : (i : Id) → (plan : Plan) → (z : Tag × Group) → group_named i plan ≡ None → same_id (identity_of z.1) i ≡ false → group_named i (plan ++ z ∷ []) ≡ None
unnamed_last i [] z n e = simp e
unnamed_last i (y ∷ ys) z n e =
    split_on (same_id (identity_of y.1) i)
    (λ d. absurd (let w = simp d at n in cc))
    (λ d. let w : group_named i ys ≡ None = simp d at n in simp d (unnamed_last i ys z w e))

differ_last : (plan : Plan) → (z : Tag × Group) → IdentitiesDiffer plan → group_named (identity_of z.1) plan ≡ None → IdentitiesDiffer (plan ++ z ∷ [])
differ_last [] z d n = (refl, tt)
differ_last (y ∷ ys) z d n =
    split_on (same_id (identity_of y.1) (identity_of z.1))
    (λ e. absurd (let w = simp e at n in cc))
    (λ e. let w : group_named (identity_of z.1) ys ≡ None = simp e at n in
    (unnamed_last (identity_of y.1) ys z d.0 (flip_no id_test (identity_of y.1) (identity_of z.1) e), differ_last ys z d.1 w))

-- one more group
one_more : (plan : Plan) → (ys : Group) → PlanRead plan → GroupRead ys → group_named (identity_of ys) plan ≡ None → PlanRead (plan ++ (Base (length plan), ys) ∷ [])
one_more plan ys p g n = record {
  sound = record {
    tags = distinct_last tag_test (Base (length plan), ys) plan p.sound.tags (p.places (length plan) (omega arith));
    identities = differ_last plan (Base (length plan), ys) p.sound.identities n;
    groups = All-push (λ y. IsSoundGroup y.1) plan (Base (length plan), ys) p.sound.groups g.sound;
  };
  places = λ m l.
      let size = length-append plan ((Base (length plan), ys) ∷ []) in
      let e : same_tag (Base m) (Base (length plan)) ≡ false = ne_eqb m (length plan) (λ q. omega (arith, q, l, size)) in
      absent_last (Base m) plan (Base (length plan), ys) (p.places m (omega (arith, l, size))) e;
  unused = λ s. record { groups = absent_last (Fresh s) plan (Base (length plan), ys) ((p.unused s).groups) refl; packets = packets s };
}
  where
    packets : (s : ℕ) → (k : Tag) → (t : ℕ) → (y : Telegram) → telegram_at k t (plan ++ (Base (length plan), ys) ∷ []) ≡ Some y → find same_tag (Fresh s) y.packets ≡ None
    packets s k t y h =
        let st = in_group k t (plan ++ (Base (length plan), ys) ∷ []) y h in
        found (find same_tag k plan)
        (λ e. let w : find same_tag k ((Base (length plan), ys) ∷ []) ≡ Some st.group = sym (find-append same_tag k plan ((Base (length plan), ys) ∷ []) e) ∙ st.has_group in
        split_on (same_tag k (Base (length plan)))
        (λ d. let q : Some ys ≡ Some st.group = simp d at w in g.fresh s t y (ap (find eqb t) (unsome q) ∙ st.has_telegram))
        (λ d. absurd (let q = simp d at w in cc)))
        (λ zs e. let w : zs ≡ st.group = unsome (sym (find-append_some same_tag k zs plan ((Base (length plan), ys) ∷ []) e) ∙ st.has_group) in
        (p.unused s).packets k t y (ap (option_and_then (find eqb t)) e ∙ ap (find eqb t) w ∙ st.has_telegram))

pushed_read : (plan more : Plan) → PlanRead plan → (r : Result Group Refusal) → ((ys : Group) → r ≡ Ok ys → GroupRead ys) → with_group plan r ≡ Ok more → PlanRead more
pushed_read plan more p (Err x) g h = absurd cc
pushed_read plan more p (Ok ys) g h =
    found (group_named (identity_of ys) plan)
    (λ e. let w : Ok (plan ++ (Base (length plan), ys) ∷ []) ≡ Ok more = simp e at h in subst PlanRead (unok w) (one_more plan ys p (g ys refl) e))
    (λ z e. absurd (let w = simp e at h in cc))

none_after : (r : Refusal) → (groups : List (List (List Bool))) → (plan : Plan) → pushed_all (Err r) groups ≡ Ok plan → ⊥
none_after r [] plan h = cc
none_after r (bs ∷ groups) plan h = cc

one_step : (plan last : Plan) → (bs : List (List Bool)) → (groups : List (List (List Bool))) → PlanRead plan → ((more : Plan) → PlanRead more → pushed_all (Ok more) groups ≡ Ok last → PlanRead last) →
    (r : Result Plan Refusal) → pushed plan bs ≡ r → pushed_all r groups ≡ Ok last → PlanRead last
one_step plan last bs groups p again (Err x) e k = absurd (none_after x groups last k)
one_step plan last bs groups p again (Ok more) e k = again more (pushed_read plan more p (read_group bs) (λ ys q. group_read bs ys q) e) k

all_read : (groups : List (List (List Bool))) → (plan last : Plan) → PlanRead plan → pushed_all (Ok plan) groups ≡ Ok last → PlanRead last
all_read [] plan last p h = subst PlanRead (unok h) p
all_read (bs ∷ groups) plan last p h = one_step plan last bs groups p (λ more q k. all_read groups more last q k) (pushed plan bs) refl h

pub plan_read : (groups : List (List (List Bool))) → (plan : Plan) → read_plan groups ≡ Ok plan → IsSound plan × ((s : ℕ) → Unused s plan)
plan_read groups plan h =
    let first : PlanRead [] = record {
      sound = record { tags = tt; identities = tt; groups = All-nil (λ y. IsSoundGroup y.1) };
      places = λ m l. refl;
      unused = λ s. record { groups = refl; packets = λ g t y h. absurd cc };
    } in
    let p = all_read groups [] plan first h in (p.sound, p.unused)
