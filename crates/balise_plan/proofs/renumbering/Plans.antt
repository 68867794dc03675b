-- What renumbering a group makes of a plan and of its indexes.
use Rattle.std.proofs.Common.{◌≡◌, ◌≢◌, ◌<◌, ◌≤◌, ℕ, Bool, true, false, cond, eqb, not, ◌&&◌, ◌||◌, [], ◌∷◌, Option, Some, None, refl, sym, ap, subst, ◌∙◌}
use Rattle.std.specs.Prelude.{IsTrue, is_none, nat_lt}
use Rattle.std.specs.Option.{option_map, is_some}
use Rattle.std.specs.BTreeSet as set
use Rattle.std.proofs.Math.Bool.{and-false}
use Rattle.std.proofs.lemmas.Bool.{true≢false, le-ltb, ne_eqb, or_parts}
use borrow.Author.Tests.{lt-ltb}
use Rattle.balise_rules.specs.declared.tag.Tag.{Tag}
use Rattle.balise_rules.specs.declared.identity.Id.{Id}
use Rattle.balise_rules.specs.declared.variable.Var.{Var}
use Rattle.balise_rules.specs.declared.variable.Var.TheVariants.{NidBg, NidC}
use Rattle.balise_rules.specs.declared.refusal.Refusal.{Refusal}
use Rattle.balise_rules.specs.declared.refusal.Refusal.TheVariants.{NoSuchGroup, ValueTooWide, NumberReserved, NumberTaken}
use Rattle.balise_rules.specs.Variables.{width_of}
use Rattle.balise_rules.specs.Bits.{fits}
use Rattle.balise_rules.specs.Tagged.{find, each}
use Rattle.balise_rules.specs.Tags.{Key, is_of, same_tag, same_var, same_id}
use Rattle.balise_rules.specs.Telegram.{Telegram}
use Rattle.balise_rules.specs.Plan.{Group, IsSound, reserved, country_of, telegram_at, identity_of, group_named}
use Rattle.balise_rules.specs.Plan as rules
use Rattle.balise_rules.specs.Names.{is_real, country_at, is_named}
use Rattle.balise_rules.specs.Accepting.{Accepted}
use Rattle.balise_rules.specs.Doing.{refusal, taken, renumbered, first_of, when}
use Rattle.balise_rules.specs.Notes.{note_group}
use Rattle.balise_rules.specs.Edits.{effect, field_after, telegram_after, head_after, group_after}
use Rattle.balise_rules.specs.declared.tagged_edit.TaggedEdit.TheVariants.{Renumber}
use Rattle.balise_rules.proofs.Tests.{split_on, split_keys, tag_test, nat_test, var_test, id_test, flip_no}
use Rattle.balise_rules.proofs.Lists.{find-each}
use Rattle.balise_rules.proofs.Accepted.{isnt}
use Rattle.balise_rules.proofs.Cases.{unsome}
use Rattle.balise_rules.proofs.Found.{group_sound}
use Rattle.balise_edit_laws.proofs.Naming.{no_group_from, no_group_to, no_name_from}
use Rattle.balise_edit_laws.proofs.Identities.{differ_apart}
use Rattle.balise_edit_laws.proofs.Refusing.{refused_exactly}
use Rattle.balise_edit_laws.proofs.SoundKept.{groups_kept, sound_parts}
use Rattle.balise_index.specs.declared.link_place.LinkPlace.{LinkPlace}
use Rattle.balise_plan.specs.declared.links.change.Change.TheVariants.{Name}
use Rattle.balise_index.specs.NameIndex.{held, in_links, indexed, AreFull, IndexOf, Moves, Updates}
use Rattle.balise_index.specs.Identities.{is_id}
use Rattle.balise_plan.specs.Links.{named_at}
use Rattle.balise_plan.specs.Walks.{change_all, places_of, renumbered_heads}
use Rattle.balise_plan.specs.Held.{IsHeld, tag_named}
use Rattle.balise_index.proofs.identities.Equal.{id_one, id_is, id_itself}
use Rattle.balise_plan.proofs.naming.Walking.{among_after, change-all, all-same, all-name, found-each}
use Rattle.balise_index.specs.Places.{among}
use Rattle.balise_plan.proofs.renumbering.Fields.{keyed, renumber-is}
use Rattle.balise_plan.proofs.naming.Identities.{id_at, is_the, named-is, id-after, tag-named, named-found}
use Rattle.balise_plan.proofs.plans.Outcomes.{Outcome}
use Rattle.balise_plan.proofs.naming.Known.{untold, told}

pub not_other : (v w : Var) (key : Key) → same_var v w ≡ false → is_of v key ≡ true → is_of w key ≡ false
not_other v w key n e = ap (same_var w) (sym (var_test.one v key.0 e)) ∙ flip_no var_test v w n

pub telegram-each : (Y : Tag → ℕ → Telegram → Telegram) (g : Tag) (t : ℕ) (plan : rules.Plan) → telegram_at g t (each (λ h ys. each (Y h) ys) plan) ≡ option_map (Y g t) (telegram_at g t plan)
telegram-each Y g t plan = by (find same_tag g plan) refl
  where
    by : (o : Option Group) → find same_tag g plan ≡ o → telegram_at g t (each (λ h ys. each (Y h) ys) plan) ≡ option_map (Y g t) (telegram_at g t plan)
    by None e = let a : find same_tag g (each (λ h ys. each (Y h) ys) plan) ≡ None = find-each tag_test _ g plan ∙ ap (option_map _) e in simp (a, e)
    by (Some ys) e = let a : find same_tag g (each (λ h ys. each (Y h) ys) plan) ≡ Some (each (Y g) ys) = find-each tag_test _ g plan ∙ ap (option_map (λ zs. each (Y g) zs)) e in simp (a, e) (find-each nat_test (Y g) t ys)

-- ---- refused

pub wide : (g : Tag) (n : ℕ) (plan : rules.Plan) (ys : Group) → find same_tag g plan ≡ Some ys → 16384 ≤ n → refusal (Renumber g n) plan ≡ Some ValueTooWide
unfolding width_of
wide g n plan ys e l = let f : nat_lt n 16384 ≡ false = le-ltb n 16384 l in simp (e, f)

pub is_reserved : (g : Tag) (n : ℕ) (plan : rules.Plan) (ys : Group) → find same_tag g plan ≡ Some ys → n ≡ 16383 → refusal (Renumber g n) plan ≡ Some NumberReserved
unfolding width_of
is_reserved g n plan ys e l = let f : find same_tag g plan ≡ Some ys = e in subst (λ m. refusal (Renumber g m) plan ≡ Some NumberReserved) (sym l) (simp f)

-- the one reason that is left for a number that fits and isn't reserved
by_taken : Bool → Option Refusal
by_taken b = first_of (when b NumberTaken ∷ [])

taken_or_free : (g : Tag) (n : ℕ) (plan : rules.Plan) (ys : Group) → find same_tag g plan ≡ Some ys → n < 16384 → n ≢ 16383 → refusal (Renumber g n) plan ≡ by_taken (taken (renumbered (Some ys) n) plan)
unfolding width_of by_taken
taken_or_free g n plan ys e l r =
    let f : nat_lt n 16384 ≡ true = lt-ltb n 16384 l in
    let d : eqb n 16383 ≡ false = ne_eqb n 16383 r in
    ap (λ (o : Option Group). first_of (when (is_none o) NoSuchGroup ∷ when (not (nat_lt n 16384)) ValueTooWide ∷ when (eqb n 16383) NumberReserved ∷ when (taken (renumbered o n) plan) NumberTaken ∷ [])) e
    ∙ ap (λ b. first_of (when (not b) ValueTooWide ∷ when (eqb n 16383) NumberReserved ∷ when (taken (renumbered (Some ys) n) plan) NumberTaken ∷ [])) f
    ∙ ap (λ b. first_of (when b NumberReserved ∷ when (taken (renumbered (Some ys) n) plan) NumberTaken ∷ [])) d

-- ---- done

module _ (plan : rules.Plan) (sound : IsSound plan) (g0 : Tag) (ys0 : Group) (n : ℕ) (here : find same_tag g0 plan ≡ Some ys0) (small : n < 16384) (other : n ≢ 16383) where
  abbrev pub from : Id
  from = identity_of ys0

  abbrev pub to : Id
  to = record { country = (identity_of ys0).country; number = n }

  abbrev pub new : rules.Plan
  new = effect (0, Renumber g0 n) (identity_of ys0) plan

  module _ (no_group : group_named to plan ≡ None) (no_name : is_named to plan ≡ false) where
    fits_width : IsTrue (fits (width_of NidBg) n)
    unfolding width_of
    fits_width = lt-ltb n 16384 small

    pub accepted : Accepted (Renumber g0 n) plan
    accepted = ((fits_width, other), (ys0, here, no_group_from to plan no_group, no_name_from to plan no_name))

    pub not_refused : refusal (Renumber g0 n) plan ≡ None
    not_refused = (refused_exactly (Renumber g0 n) plan sound).1 accepted

    pub new_sound : IsSound new
    new_sound = sound_parts (0, Renumber g0 n) from plan sound accepted (λ g t y h. tt)

    kept : (g : Tag) (ys : Group) → find same_tag g plan ≡ Some ys → identity_of (group_after (0, Renumber g0 n) from g ys) ≡ cond (same_tag g0 g) (record { country = (identity_of ys).country; number = n }) (identity_of ys)
    kept g ys e = (groups_kept (0, Renumber g0 n) from plan sound accepted (λ g t y h. tt) g ys e).identity

    new_here : (g : Tag) (ys : Group) → find same_tag g plan ≡ Some ys → find same_tag g new ≡ Some (group_after (0, Renumber g0 n) from g ys)
    new_here g ys e = find-each tag_test (group_after (0, Renumber g0 n) from) g plan ∙ ap (option_map (group_after (0, Renumber g0 n) from g)) e

    -- the identity of group g0 is the new one, and that of another group is as before
    kept_here : identity_of (group_after (0, Renumber g0 n) from g0 ys0) ≡ to
    kept_here = kept g0 ys0 here ∙ ap (λ b. cond b to from) (tag_test.itself g0)

    kept_there : (g : Tag) (ys : Group) → find same_tag g plan ≡ Some ys → same_tag g0 g ≡ false → identity_of (group_after (0, Renumber g0 n) from g ys) ≡ identity_of ys
    kept_there g ys e d = kept g ys e ∙ ap (λ b. cond b (record { country = (identity_of ys).country; number = n }) (identity_of ys)) d

    none_new : (q : Id) → same_id to q ≡ false → ((g : Tag) (ys : Group) → find same_tag g plan ≡ Some ys → same_tag g0 g ≡ false → same_id (identity_of ys) q ≡ false) → tag_named q new ≡ None
    none_new q a h = ap (option_map (λ (y : Tag × Group). y.0)) (no_group_to q new new_sound.tags (λ g zs e.
        found-each tag_test (group_after (0, Renumber g0 n) from) g zs plan e (λ ys f z.
        split_keys tag_test g0 g
        (λ d k. let w : ys ≡ ys0 = unsome (sym f ∙ ap (λ u. find same_tag u plan) (sym k) ∙ here) in
        ap (λ u. same_id (identity_of u) q) z ∙ ap (λ u. same_id (identity_of (group_after (0, Renumber g0 n) from g u)) q) w ∙ ap (λ u. same_id (identity_of (group_after (0, Renumber g0 n) from u ys0)) q) (sym k) ∙ ap (λ u. same_id u q) kept_here ∙ a)
        (λ d. ap (λ u. same_id (identity_of u) q) z ∙ ap (λ u. same_id u q) (kept_there g ys f d) ∙ h g ys f d))))

    differ : same_id from to ≡ false
    differ = split_on (same_id from to) (λ e. absurd (true≢false (sym (ap is_some (tag-named to plan sound g0 ys0 here e)) ∙ ap (λ o. is_some (option_map (λ (y : Tag × Group). y.0) o)) no_group))) (λ e. e)

    pub tags_new : (q : Id) → tag_named q new ≡ cond (same_id from q) None (cond (same_id to q) (Some g0) (tag_named q plan))
    tags_new q =
        split_keys id_test from q
        (λ a k. let b : same_id to q ≡ false = ap (same_id to) (sym k) ∙ flip_no id_test from to differ in
        simp a (none_new q b (λ g ys f d. ap (same_id (identity_of ys)) (sym k) ∙ differ_apart plan sound.identities g g0 ys ys0 f here (flip_no tag_test g0 g d))))
        (λ a. split_on (same_id to q)
        (λ b. simp (a, b) (tag-named q new new_sound g0 (group_after (0, Renumber g0 n) from g0 ys0) (new_here g0 ys0 here) (ap (λ u. same_id u q) kept_here ∙ b)))
        (λ b. simp (a, b) (by (group_named q plan) refl a b)))
      where
        by : (o : Option (Tag × Group)) → group_named q plan ≡ o → same_id from q ≡ false → same_id to q ≡ false → tag_named q new ≡ tag_named q plan
        by None e a b = none_new q b (λ g ys f d. no_group_from q plan e g ys f) ∙ sym (ap (option_map (λ (y : Tag × Group). y.0)) e)
        by (Some y) e a b =
            let h = named-found q plan sound.tags y e in
            let d : same_tag g0 y.0 ≡ false = split_keys tag_test g0 y.0
            (λ d k. absurd (let w : y.1 ≡ ys0 = unsome (sym h.0 ∙ ap (λ u. find same_tag u plan) (sym k) ∙ here) in true≢false (sym h.1 ∙ ap (λ u. same_id (identity_of u) q) w ∙ a))) (λ d. d) in
            tag-named q new new_sound y.0 (group_after (0, Renumber g0 n) from y.0 y.1) (new_here y.0 y.1 h.0) (ap (λ u. same_id u q) (kept_there y.0 y.1 h.0 d) ∙ h.1)
            ∙ sym (ap (option_map (λ (y : Tag × Group). y.0)) e)

    real_from : is_real from ≡ true
    real_from = ap not (ne_eqb (identity_of ys0).number reserved (group_sound plan sound g0 ys0 here).number)

    real_to : is_real to ≡ true
    real_to = ap not (ne_eqb n 16383 other)

    -- what an element names
    id_new : (w : LinkPlace) → id_at w new ≡ option_map (λ j. cond (same_id j from) to j) (id_at w plan)
    id_new w =
        id-after w (λ j. cond (same_id j from) to j) (λ y. head_after (Renumber g0 n) w.group w.telegram y.head) (λ y p x. field_after (Renumber g0 n) from w.group w.telegram (country_of y) p x.fields) plan new
        (telegram-each (telegram_after (0, Renumber g0 n) from) w.group w.telegram plan)
        (λ y v. refl)
        (λ y p x key v e. let z = not_other NidC NidBg key refl e in simp z)
        (λ y p x k v. split_keys id_test (record { country = country_at (country_of y) k x.fields; number = v }) from
        (λ d q. simp d (ap (λ (j : Id). record { country = j.country; number = n }) q))
        (λ d. simp d))

    module _ (names : IndexOf (set.BTreeSet LinkPlace)) (index : (q : Id) (w : LinkPlace) → held names q w ≡ named_at q w plan) (empty : indexed names to ≡ None) (after : IndexOf (set.BTreeSet LinkPlace)) (moves : Moves names after from to) where
      pub names_new : (q : Id) (w : LinkPlace) → held after q w ≡ named_at q w new
      names_new q w = moves q w ∙ ap (λ b. cond b (held names from w) (cond (is_id from q) false (held names q w))) (id_is to q) ∙ ap (λ b. cond (same_id to q) (held names from w) (cond b false (held names q w))) (id_is from q)
          ∙ ap (λ b. cond (same_id to q) b (cond (same_id from q) false (held names q w))) (index from w ∙ named-is from w plan) ∙ ap (λ b. cond (same_id to q) (is_real from && is_the from (id_at w plan)) (cond (same_id from q) false b)) (index q w ∙ named-is q w plan)
          ∙ each-id (id_at w plan) gone ∙ ap (λ o. is_real q && is_the q o) (sym (id_new w)) ∙ sym (named-is q w new)
        where
          gone : (is_real to && is_the to (id_at w plan)) ≡ false
          gone = sym (named-is to w plan) ∙ sym (index to w) ∙ ap (λ o. in_links o w) empty

          either : (a b c d : Bool) → cond a (b && false) (cond c false (d && false)) ≡ (d && false)
          either true b c d = simp and-false
          either false b true d = simp and-false
          either false b false d = refl

          each-id : (o : Option Id) → (is_real to && is_the to o) ≡ false → cond (same_id to q) (is_real from && is_the from o) (cond (same_id from q) false (is_real q && is_the q o)) ≡ (is_real q && is_the q (option_map (λ j. cond (same_id j from) to j) o))
          each-id None z = either (same_id to q) (is_real from) (same_id from q) (is_real q)
          each-id (Some j) z =
              let r = real_from in
              let nz : same_id j to ≡ false = sym (ap (λ b. b && same_id j to) real_to) ∙ z in
              split_keys id_test to q
              (λ a k. let rq : is_real q ≡ true = ap is_real (sym k) ∙ real_to in
              split_on (same_id j from)
              (λ d. simp (a, d, r, rq))
              (λ d. let jq : same_id j q ≡ false = ap (same_id j) (sym k) ∙ nz in simp (a, d, r, rq, jq)))
              (λ a. split_keys id_test from q
              (λ b k. split_on (same_id j from)
              (λ d. simp (a, b, d) (sym (and-false (is_real q))))
              (λ d. let jq : same_id j q ≡ false = ap (same_id j) (sym k) ∙ d in simp (a, b, d, jq) (sym (and-false (is_real q)))))
              (λ b. split_keys id_test j from
              (λ d k. let jq : same_id j q ≡ false = ap (λ u. same_id u q) k ∙ b in simp (a, b, d, jq))
              (λ d. simp (a, b, d))))

      among_is : (w : LinkPlace) → among w (places_of (indexed after to)) ≡ named_at from w plan
      among_is w = in-places (indexed after to) ∙ moves to w ∙ ap (λ b. cond b (held names from w) (cond (is_id from to) false (held names to w))) (id_itself to) ∙ index from w
        where
          in-places : (o : Option (set.BTreeSet LinkPlace)) → among w (places_of o) ≡ in_links o w
          in-places None = refl
          in-places (Some s) = refl

      -- the walk by the index makes the new plan
      pub walked : renumbered_heads g0 n (change_all (Name n) (places_of (indexed after to)) plan) ≡ new
      walked =
          let ws = places_of (indexed after to) in
          ap (renumbered_heads g0 n) (change-all (Name n) ws plan (keyed plan sound) ∙ all-same _ (among_after (Name n) ws) (λ g t p key v. all-name n ws g t p key v) plan)
          ∙ renumber-is 0 g0 n from ws plan sound real_from among_is

-- ---- what the code knows when it has renumbered the group whose identity is `own`

record Steps (plan : rules.Plan) (g0 : Tag) (n : ℕ) (own : Id) (ids first ids_after : IndexOf Tag) (names after : IndexOf (set.BTreeSet LinkPlace)) (walked_groups groups : rules.Plan) : Type 0 where
  pub tags : (q : Id) → indexed ids q ≡ tag_named q plan
  pub put : (q : Id) → indexed first q ≡ cond (is_id (record { country = own.country; number = n }) q) (Some g0) (indexed ids q)
  pub taken_out : (q : Id) → indexed ids_after q ≡ cond (is_id own q) None (indexed first q)
  pub index : (q : Id) (w : LinkPlace) → held names q w ≡ named_at q w plan
  pub moves : Moves names after own (record { country = own.country; number = n })
  pub no_id : is_some (indexed ids (record { country = own.country; number = n })) ≡ false
  pub no_name : is_some (indexed names (record { country = own.country; number = n })) ≡ false
  pub links : walked_groups ≡ change_all (Name n) (places_of (indexed after (record { country = own.country; number = n }))) plan
  pub heads : groups ≡ renumbered_heads g0 n walked_groups

-- what was put under a new identity and taken out again leaves all as it was
pub there_and_back : (m mid n : IndexOf Tag) (to : Id) (g : Tag) → is_some (indexed m to) ≡ false → ((r : Id) → indexed mid r ≡ cond (is_id to r) (Some g) (indexed m r)) → ((r : Id) → indexed n r ≡ cond (is_id to r) None (indexed mid r)) → (r : Id) → indexed n r ≡ indexed m r
there_and_back m mid n to g e put out r =
    split_on (is_id to r)
    (λ d. out r ∙ ap (λ b. cond b None (indexed mid r)) d ∙ sym (ap (indexed m) (sym (id_one to r d)) ∙ isnt (indexed m to) e))
    (λ d. out r ∙ ap (λ b. cond b None (indexed mid r)) d ∙ put r ∙ ap (λ b. cond b (Some g) (indexed m r)) d)

pub none-map : {A B : Type 0} (f : A → B) (o : Option A) → option_map f o ≡ None → o ≡ None
none-map f None e = refl
none-map f (Some x) e = absurd cc

module _ (plan : rules.Plan) (sound : IsSound plan) (g0 : Tag) (ys0 : Group) (n : ℕ) (here : find same_tag g0 plan ≡ Some ys0) (small : n < 16384) (other : n ≢ 16383) (ids first ids_after : IndexOf Tag) (names after : IndexOf (set.BTreeSet LinkPlace)) (walked_groups groups : rules.Plan) where
  finished : Steps plan g0 n (identity_of ys0) ids first ids_after names after walked_groups groups → Outcome (Renumber g0 n) ids_after after plan groups
  finished s =
      let i : Id = record { country = (identity_of ys0).country; number = n } in
      let empty = isnt (indexed names i) s.no_name in
      let no_group : group_named i plan ≡ None = none-map (λ (y : Tag × Group). y.0) (group_named i plan) (sym (s.tags i) ∙ isnt (indexed ids i) s.no_id) in
      let no_name : is_named i plan ≡ false = untold names plan sound s.index i empty in
      let e : groups ≡ effect (0, Renumber g0 n) (identity_of ys0) plan = s.heads ∙ ap (renumbered_heads g0 n) s.links ∙ walked plan sound g0 ys0 n here small other no_group no_name names s.index empty after s.moves in
      record {
        accepted = not_refused plan sound g0 ys0 n here small other no_group no_name;
        is = e ∙ ap (λ o. effect (0, Renumber g0 n) (note_group o).own plan) (sym here);
        held = subst (λ gs. IsHeld ids_after after gs) (sym e) (record {
          sound = new_sound plan sound g0 ys0 n here small other no_group no_name;
          tags = λ q. s.taken_out q ∙ ap (cond (is_id (identity_of ys0) q) None) (s.put q ∙ ap (cond (is_id i q) (Some g0)) (s.tags q))
              ∙ ap (λ b. cond b None (cond (is_id i q) (Some g0) (tag_named q plan))) (id_is (identity_of ys0) q) ∙ ap (λ b. cond (same_id (identity_of ys0) q) None (cond b (Some g0) (tag_named q plan))) (id_is i q)
              ∙ sym (tags_new plan sound g0 ys0 n here small other no_group no_name q);
          named = names_new plan sound g0 ys0 n here small other no_group no_name names s.index empty after s.moves;
        });
      }

  finish : (own : Id) → own ≡ identity_of ys0 → Steps plan g0 n own ids first ids_after names after walked_groups groups → Outcome (Renumber g0 n) ids_after after plan groups
  finish own e s = finished (subst (λ o. Steps plan g0 n o ids first ids_after names after walked_groups groups) e s)

-- ---- what the indexes tell of an identity

some-map : {A B : Type 0} (f : A → B) (o : Option A) → is_some (option_map f o) ≡ is_some o
some-map f None = refl
some-map f (Some x) = refl

module _ (plan : rules.Plan) (ids : IndexOf Tag) (names : IndexOf (set.BTreeSet LinkPlace)) (held_is : IsHeld ids names plan) where
  pub known_id : (i : Id) → is_some (indexed ids i) ≡ is_some (group_named i plan)
  known_id i = ap is_some (held_is.tags i) ∙ some-map (λ (y : Tag × Group). y.0) (group_named i plan)

  known_name : AreFull names → (i : Id) → is_some (indexed names i) ≡ is_named i plan
  known_name full i =
      split_on (is_some (indexed names i))
      (λ e. e ∙ sym (told names plan held_is.sound held_is.named i full e))
      (λ e. e ∙ sym (untold names plan held_is.sound held_is.named i (isnt (indexed names i) e)))

  module _ (g0 : Tag) (ys0 : Group) (n : ℕ) (here : find same_tag g0 plan ≡ Some ys0) where
    abbrev known : Id → Bool
    known own = is_some (indexed ids (record { country = own.country; number = n })) || is_some (indexed names (record { country = own.country; number = n }))

    by_known : AreFull names → n < 16384 → n ≢ 16383 → (own : Id) → own ≡ identity_of ys0 → refusal (Renumber g0 n) plan ≡ by_taken (known own)
    by_known full l r own e =
        let i = renumbered (Some ys0) n in
        taken_or_free g0 n plan ys0 here l r ∙ ap by_taken (ap (λ b. b || is_named i plan) (sym (known_id i)) ∙ ap (λ b. is_some (indexed ids i) || b) (sym (known_name full i)) ∙ sym (ap known e))

    pub known_taken : AreFull names → n < 16384 → n ≢ 16383 → (own : Id) → own ≡ identity_of ys0 → known own ≡ true → refusal (Renumber g0 n) plan ≡ Some NumberTaken
    unfolding by_taken
    known_taken full l r own e k = by_known full l r own e ∙ ap by_taken k

    pub unknown_free : AreFull names → n < 16384 → n ≢ 16383 → (own : Id) → own ≡ identity_of ys0 → known own ≡ false → refusal (Renumber g0 n) plan ≡ None
    unfolding by_taken
    unknown_free full l r own e k = by_known full l r own e ∙ ap by_taken k

    -- nothing has the other identity, nor names it
    pub unnamed : (own : Id) → known own ≡ false → indexed names (record { country = own.country; number = n }) ≡ None
    unnamed own k = isnt (indexed names (record { country = own.country; number = n })) (or_parts _ _ k).1

    pub moved_apart : (own : Id) → own ≡ identity_of ys0 → (is_some (indexed ids (record { country = own.country; number = n })) || is_some (indexed names (record { country = own.country; number = n }))) ≡ false → own ≢ (record { country = own.country; number = n })
    moved_apart own e k same =
        let h = or_parts _ _ k in
        let t : indexed ids own ≡ Some g0 = held_is.tags own ∙ tag-named own plan held_is.sound g0 ys0 here (ap (λ j. same_id j own) (sym e) ∙ id_test.itself own) in
        true≢false (sym (ap is_some t) ∙ ap (λ j. is_some (indexed ids j)) same ∙ h.0)

    -- all of it, as the code does it
    pub is-renamed : n < 16384 → n ≢ 16383 → (own : Id) → own ≡ identity_of ys0 → (first ids_after : IndexOf Tag) → Updates ids first (record { country = own.country; number = n }) (Some g0) → Updates first ids_after own None →
        (after : IndexOf (set.BTreeSet LinkPlace)) → Moves names after own (record { country = own.country; number = n }) →
        (is_some (indexed ids (record { country = own.country; number = n })) || is_some (indexed names (record { country = own.country; number = n }))) ≡ false →
        (walked_groups groups : rules.Plan) → walked_groups ≡ change_all (Name n) (places_of (indexed after (record { country = own.country; number = n }))) plan → groups ≡ renumbered_heads g0 n walked_groups →
        Outcome (Renumber g0 n) ids_after after plan groups
    is-renamed small other own is_own first ids_after put out after moves unknown walked_groups groups links heads =
        let free = or_parts _ _ unknown in
        finish plan held_is.sound g0 ys0 n here small other ids first ids_after names after walked_groups groups own is_own
        (record { tags = held_is.tags; put = put; taken_out = out; index = held_is.named; moves = moves; no_id = free.0; no_name = free.1; links = links; heads = heads })
