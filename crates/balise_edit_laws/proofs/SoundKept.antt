-- The law that an accepted edit leaves a sound plan sound.
-- From its groups, which are kept, their identities, which stay apart, and an added group, which is sound since it was read.
-- What a telegram asks of what is put into it is what acceptance, spelling and a new serial give.
use Rattle.std.proofs.Common.{◌≡◌, ◌≢◌, ℕ, false, length, Some, sym, ap, subst, ◌∙◌}
use Rattle.balise_rules.specs.declared.tag.Tag.{Tag}
use Rattle.balise_rules.specs.declared.tag.Tag.TheVariants.{Fresh}
use Rattle.balise_rules.specs.declared.identity.Id.{Id}
use Rattle.balise_rules.specs.Tagged.{find, each, put, without}
use Rattle.balise_rules.specs.Tags.{same_tag, same_id}
use Rattle.balise_rules.specs.Telegram.{Telegram, version_of}
use Rattle.balise_rules.specs.Plan.{Plan, Group, reserved, identity_of, telegram_at, IsSoundGroup, IsSound}
use Rattle.balise_rules.specs.Notes.{noted}
use Rattle.balise_rules.specs.Doing.{done, renumbered}
use Rattle.balise_rules.specs.Accepting.{Accepted, AcceptedAt, AcceptedIn, Lawful}
use Rattle.balise_rules.specs.Edits.{Edit, Item, group_of, group_after}
use Rattle.balise_rules.specs.declared.tagged_edit.TaggedEdit.TheVariants.{InsertPacket, AddGroup, DropGroup, Renumber}
use Rattle.balise_edit_laws.specs.TakenBack.{IsReady}
use Rattle.balise_rules.proofs.Tests.{split_on, split_keys, flip_no, tag_test, id_test}
use Rattle.balise_rules.proofs.Distincts.{distinct-each, distinct-without, distinct-put}
use Rattle.balise_rules.proofs.Cases.{unsome}
use Rattle.balise_rules.proofs.AllItems.{all-each_found, all-put, all-without}
use Rattle.balise_rules.proofs.Found.{group_sound, place_is}
use Rattle.balise_edit_laws.proofs.PacketsKept.{Fitted}
use Rattle.balise_edit_laws.proofs.HeadsKept.{new_identity}
use Rattle.balise_edit_laws.proofs.GroupsKept.{group_kept, GroupKept}
use Rattle.balise_edit_laws.proofs.GroupsRead.{group_read}
use Rattle.balise_edit_laws.proofs.Identities.{AllApart, differ_apart, apart_differ, apart_each, apart_put, apart_without}

-- what is put into a telegram that is found
fitted : (e : Item) → (plan : Plan) → IsReady e plan → (g : Tag) → (t : ℕ) → (y : Telegram) → telegram_at g t plan ≡ Some y → Fitted e g t (version_of y) (length y.padding) y.packets
fitted (s, InsertPacket g0 t0 a x) plan r g t y q = λ c.
    let here : telegram_at g0 t0 plan ≡ Some y = place_is g0 g t0 t plan c ∙ q in
    let w : AcceptedIn (InsertPacket g0 t0 a x) y = subst (AcceptedAt (InsertPacket g0 t0 a x)) here r.accepted.1 in
    (r.unused.packets g t y q, r.spelt y here, w.1)
fitted e plan r g t y q = tt

-- no group gets the reserved number
number_free : (e : Edit) → Lawful e → (g : Tag) → (i : Id) → i.number ≢ reserved → (new_identity e g i).number ≢ reserved
number_free (Renumber g0 n) l g i h = split_on (same_tag g0 g) (λ e. simp e l.1) (λ e. simp e h)
number_free e l g i h = h

-- two groups have two identities after an edit
stay_apart : (e : Edit) → (plan : Plan) → Accepted e plan → AllApart plan → (g h : Tag) → (ys zs : Group) → find same_tag g plan ≡ Some ys → find same_tag h plan ≡ Some zs → same_tag g h ≡ false →
    same_id (new_identity e g (identity_of ys)) (new_identity e h (identity_of zs)) ≡ false
stay_apart (Renumber g0 n) plan a all g h ys zs b c d =
    split_keys tag_test g0 g
    (λ e q. let o : same_tag g0 h ≡ false = ap (λ u. same_tag u h) q ∙ d in
    let w : a.1.0 ≡ ys = unsome (sym a.1.1 ∙ ap (λ u. find same_tag u plan) q ∙ b) in
    let v = flip_no id_test (identity_of zs) (renumbered (Some ys) n) (ap (λ x. same_id (identity_of zs) (renumbered (Some x) n)) (sym w) ∙ a.1.2 h zs c) in
    simp (e, o) v)
    (λ e. split_keys tag_test g0 h
    (λ f q. let w : a.1.0 ≡ zs = unsome (sym a.1.1 ∙ ap (λ u. find same_tag u plan) q ∙ c) in
    let v = ap (λ x. same_id (identity_of ys) (renumbered (Some x) n)) (sym w) ∙ a.1.2 g ys b in
    simp (e, f) v)
    (λ f. simp (e, f) (all g h ys zs b c d)))
stay_apart e plan a all g h ys zs b c d = all g h ys zs b c d

-- what an edit asks of what is put into telegrams
abbrev pub AllFitted : Item → Plan → Type 0
AllFitted e plan = (g : Tag) → (t : ℕ) → (y : Telegram) → telegram_at g t plan ≡ Some y → Fitted e g t (version_of y) (length y.padding) y.packets

-- each group after an edit
pub groups_kept : (e : Item) → (own : Id) → (plan : Plan) → IsSound plan → Accepted e.1 plan → AllFitted e plan → (g : Tag) → (ys : Group) → find same_tag g plan ≡ Some ys → GroupKept (new_identity e.1 g (identity_of ys)) (group_after e own g ys)
groups_kept e own plan sound accepted fits g ys q =
    let s = group_sound plan sound g ys q in
    group_kept e accepted.0 own g ys s (λ t y h. let here : telegram_at g t plan ≡ Some y = simp q h in fits g t y here) (number_free e.1 accepted.0 g (identity_of ys) s.number)

-- an edit within the groups, by what it asks of the plan and of what is put into its telegrams
pub sound_parts : (e : Item) → (own : Id) → (plan : Plan) → IsSound plan → Accepted e.1 plan → AllFitted e plan → IsSound (each (group_after e own) plan)
sound_parts e own plan sound accepted fits =
    let u = distinct-each tag_test (group_after e own) plan sound.tags in
    let all = differ_apart plan sound.identities in
    let kept = groups_kept e own plan sound accepted fits in
    record {
      tags = u;
      identities = apart_differ (each (group_after e own) plan) u (apart_each e.1 (group_after e own) plan all (λ g ys q. (kept g ys q).identity) (stay_apart e.1 plan accepted all));
      groups = all-each_found tag_test IsSoundGroup (group_after e own) plan sound.tags (λ g ys q. (kept g ys q).sound);
    }

pub sound_kept : (e : Item) → (plan : Plan) → IsReady e plan → IsSound (done e plan)
sound_kept (s, AddGroup a bs) plan r =
    let u = distinct-put tag_test a (Fresh s, group_of bs) plan r.sound.tags r.unused.groups in
    record {
      tags = u;
      identities = apart_differ (put same_tag a (Fresh s, group_of bs) plan) u (apart_put a (Fresh s, group_of bs) plan r.accepted.1.0 r.unused.groups r.accepted.1.1 (differ_apart plan r.sound.identities));
      groups = all-put IsSoundGroup same_tag a (Fresh s, group_of bs) plan (group_read bs (group_of bs) r.accepted.0).sound r.sound.groups;
    }
sound_kept (s, DropGroup g) plan r =
    let u = distinct-without same_tag g plan r.sound.tags in
    record {
      tags = u;
      identities = apart_differ (without same_tag g plan) u (apart_without g plan (differ_apart plan r.sound.identities));
      groups = all-without IsSoundGroup same_tag g plan r.sound.groups;
    }
sound_kept e plan r = sound_parts e (noted e.1 plan).own plan r.sound r.accepted (fitted e plan r)
