-- No two groups of a sound plan have one identity, said of the groups that are found, and so after each change.
-- From the search for a group, which finds none exactly where none has the identity.
-- A new identity is one that no group has.
use Rattle.std.proofs.Common.{◌≡◌, false, [], ◌∷◌, Option, Some, None, sym, ap, ◌∙◌}
use Rattle.balise_rules.specs.declared.tag.Tag.{Tag}
use Rattle.balise_rules.specs.Tagged.{find, each, Distinct, put, without}
use Rattle.balise_rules.specs.Tags.{same_tag, same_id}
use Rattle.balise_rules.specs.Plan.{Plan, Group, identity_of, IdentitiesDiffer}
use Rattle.balise_rules.specs.Accepting.{Stands, NoGroup}
use Rattle.balise_rules.specs.Edits.{Edit}
use Rattle.balise_rules.proofs.Tests.{split_on, split_keys, apart_from, flip_no, tag_test, id_test}
use Rattle.balise_rules.proofs.Lists.{find-put, find-without, find-without_same, find-each}
use Rattle.balise_rules.proofs.Cases.{unsome, some_is}
use Rattle.balise_rules.proofs.Each.{found_later}
use Rattle.balise_rules.proofs.Anchors.{find-put_same}
use Rattle.balise_edit_laws.proofs.Naming.{no_group_from, no_group_to}
use Rattle.balise_edit_laws.proofs.HeadsKept.{new_identity}

abbrev pub AllApart : Plan → Type 0
AllApart plan = (g h : Tag) → (ys zs : Group) → find same_tag g plan ≡ Some ys → find same_tag h plan ≡ Some zs → same_tag g h ≡ false → same_id (identity_of ys) (identity_of zs) ≡ false

pub differ_apart : (plan : Plan) → IdentitiesDiffer plan → AllApart plan
differ_apart [] d g h ys zs a b n = absurd cc
differ_apart (y ∷ rest) d g h ys zs a b n =
    split_keys tag_test g y.0
    (λ e q. let w : Some y.1 ≡ Some ys = simp e at a in
    let o : same_tag h y.0 ≡ false = apart_from tag_test g y.0 h e (flip_no tag_test g h n) in
    let v : find same_tag h rest ≡ Some zs = simp o at b in
    ap (λ x. same_id (identity_of x) (identity_of zs)) (sym (unsome w)) ∙ flip_no id_test (identity_of zs) (identity_of y.1) (no_group_from (identity_of y.1) rest d.0 h zs v))
    (λ e. let v : find same_tag g rest ≡ Some ys = simp e at a in
    split_on (same_tag h y.0)
    (λ f. let w : Some y.1 ≡ Some zs = simp f at b in ap (λ x. same_id (identity_of ys) (identity_of x)) (sym (unsome w)) ∙ no_group_from (identity_of y.1) rest d.0 g ys v)
    (λ f. let w : find same_tag h rest ≡ Some zs = simp f at b in differ_apart rest d.1 g h ys zs v w n))

pub apart_differ : (plan : Plan) → Distinct same_tag plan → AllApart plan → IdentitiesDiffer plan
apart_differ [] u a = tt
apart_differ (y ∷ rest) u a =
    let r = tag_test.itself y.0 in
    let here : find same_tag y.0 (y ∷ rest) ≡ Some y.1 = simp r in (
      no_group_to (identity_of y.1) rest u.1 (λ g ys h. a g y.0 ys y.1 (found_later tag_test y rest u.0 g ys h) here
          (split_keys tag_test g y.0 (λ e q. absurd (let w : find same_tag g rest ≡ None = ap (λ c. find same_tag c rest) q ∙ u.0 in let z = sym h ∙ w in cc)) (λ e. e))),
      apart_differ rest u.1 (λ g h ys zs b c n. a g h ys zs (found_later tag_test y rest u.0 g ys b) (found_later tag_test y rest u.0 h zs c) n),
    )

-- each group changed, its identity as an edit says
pub apart_each : (e : Edit) → (f : Tag → Group → Group) → (plan : Plan) → AllApart plan →
    ((g : Tag) → (ys : Group) → find same_tag g plan ≡ Some ys → identity_of (f g ys) ≡ new_identity e g (identity_of ys)) →
    ((g h : Tag) → (ys zs : Group) → find same_tag g plan ≡ Some ys → find same_tag h plan ≡ Some zs → same_tag g h ≡ false → same_id (new_identity e g (identity_of ys)) (new_identity e h (identity_of zs)) ≡ false) →
    AllApart (each f plan)
apart_each e f plan a i k g h ys zs b c n =
    let x = was f plan g ys b in
    let w = was f plan h zs c in
    ap (λ u. same_id (identity_of u) (identity_of zs)) (x.2) ∙ ap (λ u. same_id (identity_of (f g x.0)) (identity_of u)) w.2
    ∙ ap (λ j. same_id j (identity_of (f h w.0))) (i g x.0 x.1) ∙ ap (same_id (new_identity e g (identity_of x.0))) (i h w.0 w.1)
    ∙ k g h x.0 w.0 x.1 w.1 n
  where
    was : (f : Tag → Group → Group) → (plan : Plan) → (g : Tag) → (ys : Group) → find same_tag g (each f plan) ≡ Some ys → (x : Group) × (find same_tag g plan ≡ Some x) × (ys ≡ f g x)
    was f plan g ys h = some_is (find same_tag g plan) (f g) ys (sym (find-each tag_test f g plan) ∙ h) (λ x e d. (x, e, d))

-- one group more, of an identity that none has
pub apart_put : (a : Option Tag) → (z : Tag × Group) → (plan : Plan) → Stands a plan → find same_tag z.0 plan ≡ None → NoGroup (identity_of z.1) plan → AllApart plan → AllApart (put same_tag a z plan)
apart_put a z plan s new none all g h ys zs b c n =
    split_keys tag_test g z.0
    (λ e q. let o : same_tag h z.0 ≡ false = apart_from tag_test g z.0 h e (flip_no tag_test g h n) in
    let w : Some z.1 ≡ Some ys = sym (ap (λ u. find same_tag u (put same_tag a z plan)) q ∙ find-put_same a z plan s new) ∙ b in
    let v = none h zs (sym (find-put same_tag h a z o plan) ∙ c) in
    ap (λ u. same_id (identity_of u) (identity_of zs)) (sym (unsome w)) ∙ flip_no id_test (identity_of zs) (identity_of z.1) v)
    (λ e. let v = sym (find-put same_tag g a z e plan) ∙ b in
    split_keys tag_test h z.0
    (λ f q. let w : Some z.1 ≡ Some zs = sym (ap (λ u. find same_tag u (put same_tag a z plan)) q ∙ find-put_same a z plan s new) ∙ c in
    ap (λ u. same_id (identity_of ys) (identity_of u)) (sym (unsome w)) ∙ none g ys v)
    (λ f. all g h ys zs v (sym (find-put same_tag h a z f plan) ∙ c) n))

-- one group less
pub apart_without : (p : Tag) → (plan : Plan) → AllApart plan → AllApart (without same_tag p plan)
apart_without p plan all g h ys zs b c n = all g h ys zs (stood_before g ys b) (stood_before h zs c) n
  where
    stood_before : (g : Tag) → (ys : Group) → find same_tag g (without same_tag p plan) ≡ Some ys → find same_tag g plan ≡ Some ys
    stood_before g ys h =
        split_keys tag_test g p
        (λ e q. absurd (let w = sym h ∙ ap (λ u. find same_tag u (without same_tag p plan)) q ∙ find-without_same same_tag p plan in cc))
        (λ e. sym (find-without tag_test g p e plan) ∙ h)
