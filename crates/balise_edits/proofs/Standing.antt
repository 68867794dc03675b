-- What holds where an edit was the last one, or is the next one.
use Rattle.std.proofs.Common.{◌≡◌, ◌∙◌, ℕ, cond, None, option_map, Some, sym, ap, subst}
use Rattle.balise_rules.specs.declared.tag.Tag.{Tag}
use Rattle.balise_rules.specs.declared.identity.Id.{Id}
use Rattle.balise_rules.specs.Tagged.{find}
use Rattle.balise_rules.specs.Tags.{same_tag}
use Rattle.balise_rules.specs.Plan.{Plan, identity_of, IsSound}
use Rattle.balise_rules.specs.Edits.{Edit, Item, group_after}
use Rattle.balise_rules.specs.declared.tagged_edit.TaggedEdit.TheVariants.{Renumber, TurnGroup}
use Rattle.balise_rules.specs.Notes.{Note, noted, note_group}
use Rattle.balise_rules.specs.Doing.{done, refusal}
use Rattle.balise_rules.specs.Back.{back}
use Rattle.balise_rules.specs.Accepting.{Accepted}
use Rattle.balise_rules.specs.Paths.{Entry}
use Rattle.balise_rules.proofs.Lists.{find-each}
use Rattle.balise_rules.proofs.Tests.{tag_test}
use Rattle.balise_edit_laws.specs.GoesBack.{AsksBack}
use Rattle.balise_edit_laws.proofs.GoingBack.{going_back}
use Rattle.balise_edit_laws.proofs.Refusing.{refused_exactly}
use Rattle.balise_edit_laws.proofs.SoundKept.{groups_kept, sound_kept}
use Rattle.balise_edit_laws.proofs.TakingBack.{taking_back}
use Rattle.balise_edits.specs.Standing.{IsLast, IsNext}

-- what is accepted on a sound plan isn't refused
free : (f : Edit) → (groups : Plan) → IsSound groups → Accepted f groups → refusal f groups ≡ None
free f groups sound accepted = (refused_exactly f groups sound).1 accepted

-- where it was the last one, all that taking it back asks holds, and what that accepts isn't refused
pub last_asks : (e : Entry) → (groups : Plan) → IsLast e groups → AsksBack e.0 e.1 groups
last_asks e groups l =
    subst (AsksBack e.0 e.1) (sym l.made) (subst (λ n. AsksBack e.0 n (done e.0 l.before)) l.noted_there (going_back e.0 l.before l.ready))

pub last_free : (e : Entry) → (f : Edit) → (groups : Plan) → IsLast e groups → Accepted f groups → refusal f groups ≡ None
last_free e f groups l accepted = free f groups (subst IsSound (sym l.made) (sound_kept e.0 l.before l.ready)) accepted

-- taking it back gives the plan before it
pub last_back : (e : Entry) → (groups : Plan) → (l : IsLast e groups) → back e.0 e.1 groups ≡ l.before
last_back e groups l =
    ap (back e.0 e.1) l.made ∙ ap (λ n. back e.0 n (done e.0 l.before)) (sym l.noted_there) ∙ taking_back e.0 l.before l.ready.sound l.ready.unused l.ready.accepted

-- where it is the next one, it isn't refused
pub next_free : (e : Entry) → (groups : Plan) → IsNext e groups → refusal e.0.1 groups ≡ None
next_free e groups n = free e.0.1 groups n.ready.sound n.ready.accepted

-- ---- the identity of a group that was turned or renumbered

pub own_turned : (s : ℕ) → (g : Tag) → (m : Note) → (groups : Plan) → IsLast ((s, TurnGroup g), m) groups → (noted (TurnGroup g) groups).own ≡ m.own
own_turned s g m groups l =
    let e : Item = (s, TurnGroup g) in
    let own = (noted (TurnGroup g) l.before).own in
    let ys = l.ready.accepted.1.0 in
    let was : own ≡ identity_of ys = ap (λ o. (note_group o).own) l.ready.accepted.1.1 in
    let there : find same_tag g (done e l.before) ≡ Some (group_after e own g ys) = find-each tag_test (group_after e own) g l.before ∙ ap (option_map (group_after e own g)) l.ready.accepted.1.1 in
    let same : identity_of (group_after e own g ys) ≡ identity_of ys = (groups_kept e own l.before l.ready.sound l.ready.accepted (λ g1 t1 y k. tt) g ys l.ready.accepted.1.1).identity in
    ap (λ q. (noted (TurnGroup g) q).own) l.made ∙ ap (λ o. (note_group o).own) there ∙ same ∙ sym was ∙ ap (λ (n : Note). n.own) l.noted_there

abbrev pub numbered : Id → ℕ → Id
numbered i n = record { country = i.country; number = n }

pub own_renumbered : (s : ℕ) → (g : Tag) → (n k : ℕ) → (m : Note) → (groups : Plan) → IsLast ((s, Renumber g n), m) groups → (noted (Renumber g k) groups).own ≡ numbered m.own n
own_renumbered s g n k m groups l =
    let e : Item = (s, Renumber g n) in
    let own = (noted (Renumber g n) l.before).own in
    let ys = l.ready.accepted.1.0 in
    let was : own ≡ identity_of ys = ap (λ o. (note_group o).own) l.ready.accepted.1.1 in
    let there : find same_tag g (done e l.before) ≡ Some (group_after e own g ys) = find-each tag_test (group_after e own) g l.before ∙ ap (option_map (group_after e own g)) l.ready.accepted.1.1 in
    let kept : identity_of (group_after e own g ys) ≡ cond (same_tag g g) (numbered (identity_of ys) n) (identity_of ys) = (groups_kept e own l.before l.ready.sound l.ready.accepted (λ g1 t1 y k. tt) g ys l.ready.accepted.1.1).identity in
    let own_case : cond (same_tag g g) (numbered (identity_of ys) n) (identity_of ys) ≡ numbered (identity_of ys) n = ap (λ b. cond b (numbered (identity_of ys) n) (identity_of ys)) (tag_test.itself g) in
    ap (λ q. (noted (Renumber g k) q).own) l.made ∙ ap (λ o. (note_group o).own) there ∙ kept ∙ own_case
    ∙ ap (λ i. numbered i n) (sym was ∙ ap (λ (x : Note). x.own) l.noted_there)
