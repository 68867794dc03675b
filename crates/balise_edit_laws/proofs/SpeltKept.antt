-- The law that a packet to be inserted stays spelt for its telegram, before and after an accepted edit.
-- From the version of a telegram, which no edit changes, and its place in the plan before and after.
-- Acceptance says that the telegram stands, so that it isn't one that the other edit brought or took.
use Rattle.std.proofs.Common.{◌≡◌, ℕ, eqb, Some, option_and_then, option_map, sym, ap, subst, ◌∙◌}
use Rattle.balise_rules.specs.declared.tag.Tag.{Tag}
use Rattle.balise_rules.specs.declared.tag.Tag.TheVariants.{Fresh}
use Rattle.balise_rules.specs.declared.variable.Var.TheVariants.{MVersion}
use Rattle.balise_rules.specs.Tagged.{find, each, without}
use Rattle.balise_rules.specs.Tags.{same_tag}
use Rattle.balise_rules.specs.Packet.{IsSpelt}
use Rattle.balise_rules.specs.Telegram.{Telegram, version_of}
use Rattle.balise_rules.specs.Plan.{Plan, telegram_at}
use Rattle.balise_rules.specs.Notes.{noted}
use Rattle.balise_rules.specs.Doing.{done}
use Rattle.balise_rules.specs.Accepting.{Accepted, Spelt}
use Rattle.balise_rules.specs.Edits.{Edit, Item, group_of, group_after}
use Rattle.balise_rules.specs.declared.tagged_edit.TaggedEdit.TheVariants.{InsertPacket, AddGroup, DropGroup}
use Rattle.balise_edit_laws.specs.TakenBack.{IsReady}
use Rattle.balise_rules.proofs.Tests.{split_keys, tag_test}
use Rattle.balise_rules.proofs.Lists.{find-put, find-without, find-without_same, find-each}
use Rattle.balise_rules.proofs.Cases.{unsome}
use Rattle.balise_rules.proofs.Found.{group_sound, in_group}
use Rattle.balise_rules.proofs.Accepted.{accepted_here}
use Rattle.balise_edit_laws.proofs.HeadChanges.{fixed_kept, version_fixed}
use Rattle.balise_edit_laws.proofs.UnusedKept.{was_in}

-- a telegram that stands before and after has one version
pub version_kept : (e : Item) → (plan : Plan) → IsReady e plan → (g : Tag) → (t : ℕ) → (y z : Telegram) → telegram_at g t plan ≡ Some y → telegram_at g t (done e plan) ≡ Some z → version_of z ≡ version_of y
version_kept (s, AddGroup a bs) plan r g t y z p q =
    split_keys tag_test g (Fresh s)
    (λ e k. absurd (let st = in_group g t plan y p in let w = sym st.has_group ∙ ap (λ c. find same_tag c plan) k ∙ r.unused.groups in cc))
    (λ e. ap version_of (unsome (sym q ∙ ap (option_and_then (find eqb t)) (find-put same_tag g a (Fresh s, group_of bs) e plan) ∙ p)))
version_kept (s, DropGroup h) plan r g t y z p q =
    split_keys tag_test g h
    (λ e k. absurd (let st = in_group g t (without same_tag h plan) z q in let w = sym st.has_group ∙ ap (λ c. find same_tag c (without same_tag h plan)) k ∙ find-without_same same_tag h plan in cc))
    (λ e. ap version_of (unsome (sym q ∙ ap (option_and_then (find eqb t)) (find-without tag_test g h e plan) ∙ p)))
version_kept e plan r g t y z a b =
    let f = group_after e (noted e.1 plan).own in
    let st = in_group g t plan y a in
    let group : find same_tag g (each f plan) ≡ Some (f g st.group) = find-each tag_test f g plan ∙ ap (option_map (f g)) st.has_group in
    let x = was_in e (noted e.1 plan).own g t st.group (group_sound plan r.sound g st.group st.has_group).tags z (sym (ap (option_and_then (find eqb t)) group) ∙ b) in
    let same : x.telegram ≡ y = unsome (sym x.was ∙ st.has_telegram) in
    ap version_of x.is ∙ fixed_kept e.1 r.accepted.0 MVersion version_fixed g t x.telegram.head ∙ ap version_of same

pub spelt_after : (e : Item) → (f : Edit) → (plan : Plan) → IsReady e plan → Accepted f plan → Spelt f plan → Spelt f (done e plan)
spelt_after e (InsertPacket g t a x) plan r acc s = λ z q.
    let y = accepted_here (InsertPacket g t a x) (telegram_at g t plan) acc.1 in
    subst (λ v. IsSpelt v x) (sym (version_kept e plan r g t y.0 z y.1 q)) (s y.0 y.1)
spelt_after e f plan r acc s = tt

pub spelt_before : (e : Item) → (f : Edit) → (plan : Plan) → IsReady e plan → Accepted f (done e plan) → Spelt f (done e plan) → Spelt f plan
spelt_before e (InsertPacket g t a x) plan r acc s = λ y q.
    let z = accepted_here (InsertPacket g t a x) (telegram_at g t (done e plan)) acc.1 in
    subst (λ v. IsSpelt v x) (version_kept e plan r g t y z.0 q z.1) (s z.0 z.1)
spelt_before e f plan r acc s = tt
