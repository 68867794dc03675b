-- A group stays sound: one telegram replaced, each given another number, or all turned.
use Rattle.std.proofs.Common.{◌≡◌, ◌≢◌, ◌<◌, ◌^◌, ◌-◌, ℕ, suc, false, cond, eqb, [], ◌∷◌, length, Some, slice_set, refl, sym, ap, subst, ◌∙◌, arith}
use Rattle.std.proofs.lemmas.Bool.{lt-ltb}
use Rattle.std.proofs.lemmas.List.Elements.{All-cons, All-nil}
use borrow.Author.Tests.{ltb-true}
use Rattle.balise_rules.specs.declared.tag.Tag.TheVariants.{Base}
use Rattle.balise_rules.specs.declared.identity.Id.{Id}
use Rattle.balise_rules.specs.declared.variable.Var.TheVariants.{NidBg}
use Rattle.balise_rules.specs.Variables.{width_of}
use Rattle.balise_rules.specs.Tagged.{find, each}
use Rattle.balise_rules.specs.Tags.{same_tag, same_id}
use Rattle.balise_rules.specs.Packet.{Packet, IsSpelt, field_of}
use Rattle.balise_rules.specs.Telegram.{Telegram, version_of}
use Rattle.balise_rules.specs.Packets.{packet}
use Rattle.balise_rules.specs.Plan.{Group, Plan, IsSound, IsSoundGroup, IsSoundTelegram, SoundFrom, country_of, identity_of, reserved, telegram_at}
use Rattle.balise_rules.specs.Names.{country_at, is_it, calls}
use Rattle.balise_rules.specs.Edits.{group_after}
use Rattle.balise_rules.specs.declared.tagged_edit.TaggedEdit.TheVariants.{Renumber, TurnGroup}
use Rattle.balise_rules.proofs.Cases.{found, unsome}
use Rattle.balise_rules.proofs.Distincts.{distinct-each}
use Rattle.balise_rules.proofs.Each.{length-each}
use Rattle.balise_rules.proofs.Found.{field_fits, packet_spelt, stood}
use Rattle.balise_rules.proofs.Tests.{split_on, nat_test, id_test}
use Rattle.balise_edit_laws.proofs.GroupsKept.{GroupKept, group_kept, sound_as, sound_each}
use Rattle.balise_index.specs.declared.link_place.LinkPlace.{LinkPlace}
use Rattle.balise_index.specs.Places.{among}
use Rattle.balise_plan.specs.declared.links.change.Change.{Change}
use Rattle.balise_plan.specs.declared.links.change.Change.TheVariants.{Flip, Name}
use Rattle.balise_plan.specs.InTelegram.{Replaces}
use Rattle.balise_plan.specs.Links.{named_at, named_in_packet, named_in_telegram}
use Rattle.balise_plan.specs.Walks.{FitsTotals, turned_group, turned_in, with_number, renumbered_heads}
use Rattle.balise_plan.proofs.renumbering.Fields.{renumber-is}
use Rattle.balise_plan.proofs.turned.Fields.{turn-is}
use Rattle.balise_plan.proofs.naming.Walking.{all-flip, all-id, all-name, all-same, all_fields, among_after}
use Rattle.balise_plan.proofs.items.OneChanged.{Standing, each_at, found_at}

-- each telegram changed where it stands
pub each-kept : (ys : Group) → IsSoundGroup ys → (h : ℕ → Telegram → Telegram) → ((t : ℕ) (y : Telegram) → find eqb t ys ≡ Some y → Replaces y (h t y)) → GroupKept (identity_of ys) (each h ys)
each-kept ys s h k =
    let i = identity_of ys in
    let last = length ys - 1 in
    let some = s.some in
    let most = s.most in
    let size = length-each h ys in
    sound_as i last (each h ys) (omega (arith, size, some)) (omega (arith, size, most)) (distinct-each nat_test h ys s.tags) s.number
    (sound_each i i last h 0 ys s.telegrams s.tags (λ t y m f w. k t y f i last m w))

-- one telegram replaced, as the code does it at its place
pub sound_at : {t : ℕ} {xs old : Group} {y : Telegram} (p : Standing eqb t xs old y) → IsSoundGroup xs → (z : Telegram) → Replaces y z → IsSoundGroup (slice_set xs p.place (p.key, z))
sound_at {t = t} {xs = xs} {y = y} p s z r =
    let inside : Standing eqb t xs xs y = record { view = refl; place = p.place; key = p.key; found = p.found; is = p.is } in
    subst IsSoundGroup (sym (each_at nat_test inside s.tags (λ _. z) z refl))
    (each-kept xs s (λ u x. cond (eqb t u) z x) (λ u x f j last m w. split_on (eqb t u)
    (λ b. let k : x ≡ y = unsome (sym f ∙ ap (λ v. find eqb v xs) (sym (nat_test.one t u b)) ∙ found_at nat_test inside) in
    simp b (r j last m (subst (λ v. IsSoundTelegram j last m v) k w)))
    (λ b. simp b w))).sound

-- ---- headers alone: a change by an identity that nothing names leaves all links

-- it is no number of 14 bits
abbrev nobody : Id
nobody = record { country = 0; number = 16384 }

-- a plan of one group
abbrev alone : Group → Plan
alone ys = (Base 0, ys) ∷ []

alone-sound : (ys : Group) → IsSoundGroup ys → IsSound (alone ys)
alone-sound ys s = record { tags = (refl, tt); identities = (refl, tt); groups = All-cons (λ y. IsSoundGroup y.1) (Base 0, ys) [] s (All-nil (λ y. IsSoundGroup y.1)) }

uncalled : (c k version : ℕ) (x : Packet) → IsSpelt version x → calls c k x.fields nobody ≡ false
unfolding width_of
uncalled c k version x s =
    found (field_of NidBg k x.fields)
    (λ e. ap (is_it (country_at c k x.fields) nobody) e)
    (λ n e. let fit = ltb-true n 16384 (field_fits (packet version) x.fields x.rest s.form (NidBg, k) n e) in
    ap (is_it (country_at c k x.fields) nobody) e ∙ split_on (same_id (record { country = country_at c k x.fields; number = n }) nobody)
    (λ d. absurd (omega (arith, fit, ap (λ (j : Id). j.number) (id_test.one (record { country = country_at c k x.fields; number = n }) nobody d))))
    (λ d. d))

unnamed : (plan : Plan) → IsSound plan → (w : LinkPlace) → among w [] ≡ named_at nobody w plan
unnamed plan s w = sym in-telegram
  where
    in-packet : (y : Telegram) → telegram_at w.group w.telegram plan ≡ Some y → named_in_packet (country_of y) nobody w.element (find same_tag w.packet y.packets) ≡ false
    in-packet y e =
        found (find same_tag w.packet y.packets)
        (λ f. ap (named_in_packet (country_of y) nobody w.element) f)
        (λ x f. ap (named_in_packet (country_of y) nobody w.element) f ∙ uncalled (country_of y) w.element (version_of y) x (packet_spelt y (stood w.group w.telegram plan s y e).placed.sound w.packet x f))

    in-telegram : named_in_telegram nobody w (telegram_at w.group w.telegram plan) ≡ false
    in-telegram = found (telegram_at w.group w.telegram plan) (λ e. ap (named_in_telegram nobody w) e) (λ y e. ap (named_in_telegram nobody w) e ∙ in-packet y e)

none-changed : (c : Change) (plan : Plan) → all_fields (among_after c []) plan ≡ plan
none-changed (Name n) plan = all-same _ (λ g t p key v. v) (λ g t p key v. sym (all-name n [] g t p key v)) plan ∙ all-id plan
none-changed Flip plan = all-same _ (λ g t p key v. v) (λ g t p key v. sym (all-flip [] tt g t p key v)) plan ∙ all-id plan

abbrev only : Plan → Group
only [] = []
only (y ∷ ys) = y.1

module _ (ys : Group) (s : IsSoundGroup ys) where
  numbered-is : (n : ℕ) → with_number n ys ≡ group_after (0, Renumber (Base 0) n) nobody (Base 0) ys
  numbered-is n = ap (λ plan. only (renumbered_heads (Base 0) n plan)) (sym (none-changed (Name n) (alone ys))) ∙ ap only (renumber-is 0 (Base 0) n nobody [] (alone ys) (alone-sound ys s) refl (unnamed (alone ys) (alone-sound ys s)))

  turned-is : turned_group ys ≡ group_after (0, TurnGroup (Base 0)) nobody (Base 0) ys
  turned-is = ap (λ plan. only (turned_in (Base 0) plan)) (sym (none-changed Flip (alone ys))) ∙ ap only (turn-is 0 (Base 0) nobody [] (alone ys) (alone-sound ys s) refl (unnamed (alone ys) (alone-sound ys s)))

  -- the group with another number in each header
  pub numbered-sound : (n : ℕ) → n < 2 ^ 14 → n ≢ reserved → IsSoundGroup (with_number n ys)
  unfolding width_of
  numbered-sound n h r = subst IsSoundGroup (sym (numbered-is n)) ((group_kept (0, Renumber (Base 0) n) (lt-ltb n 16384 h, r) nobody (Base 0) ys s (λ t y e. tt) r).sound)

  -- the group turned, its links apart
  pub turned-sound : IsSoundGroup (turned_group ys)
  turned-sound = subst IsSoundGroup (sym turned-is) ((group_kept (0, TurnGroup (Base 0)) tt nobody (Base 0) ys s (λ t y e. tt) s.number).sound)

-- N_TOTAL of each telegram fits
totals : (i : Id) (last n : ℕ) (ys : Group) → last < 8 → SoundFrom i last n ys → FitsTotals ys
totals i last n [] l s = tt
totals i last n (y ∷ ys) l s = (subst (λ k. k < 8) (sym s.0.total) l, totals i last (suc n) ys l s.1)

pub totals-fit : (ys : Group) → IsSoundGroup ys → FitsTotals ys
totals-fit ys s = let most = s.most in let some = s.some in totals (identity_of ys) (length ys - 1) 0 ys (omega (arith, most, some)) s.telegrams
