-- The index of names tells whether the plan names an identity.
use Rattle.std.proofs.Common.{◌≡◌, ◌<◌, true, false, ◌&&◌, List, [], ◌∷◌, length, Option, Some, None, refl, sym, ap, ◌∙◌, arith}
use Rattle.std.specs.Option.{IfSome, is_some}
use Rattle.std.specs.BTreeSet as set
use Rattle.std.proofs.lemmas.Bool.{true≢false, and_parts}
use Rattle.std.proofs.lemmas.Option.{option_and_then_some}
use Rattle.balise_rules.specs.declared.identity.Id.{Id}
use Rattle.balise_rules.specs.declared.variable.Var.TheVariants.{NidBg}
use Rattle.balise_rules.specs.Tagged.{find}
use Rattle.balise_rules.specs.Tags.{same_tag}
use Rattle.balise_rules.specs.Packet.{field_of}
use Rattle.balise_rules.specs.Plan.{Plan, IsSound, country_of, telegram_at}
use Rattle.balise_rules.specs.Names.{Names, is_named, is_real, is_it, calls, country_at}
use Rattle.balise_rules.proofs.Tests.{split_on, id_test}
use Rattle.balise_edit_laws.proofs.Naming.{no_name_from, no_name_to}
use Rattle.balise_index.specs.declared.link_place.LinkPlace.{LinkPlace}
use Rattle.balise_index.specs.NameIndex.{held, in_links, indexed, AreFull, IndexOf}
use Rattle.balise_index.specs.Places.{compare_place}
use Rattle.balise_plan.specs.Links.{named_at, named_in_telegram, named_in_packet}
use Rattle.balise_plan.proofs.naming.Walking.{place}
use Rattle.balise_index.proofs.places.Equal.{places}
use Rattle.balise_plan.proofs.naming.Identities.{is_the, id_at, named-is, id_in_telegram, id_in_packet, the-one, id-parts}

-- a name is a place that names
pub named-place : (i : Id) (plan : Plan) (w : LinkPlace) → Names i w.group w.telegram w.packet w.element plan → named_at i w plan ≡ true
named-place i plan w n =
    let c : calls (country_of n.telegram) w.element n.packet.fields i ≡ true = ap (λ c. is_it c i (field_of NidBg w.element n.packet.fields)) n.country ∙ ap (is_it i.country i) n.number ∙ id_test.itself i in
    ap (λ o. is_real i && named_in_telegram i w o) n.stands ∙ ap (λ o. is_real i && named_in_packet (country_of n.telegram) i w.element o) n.has_packet ∙ ap (λ b. b && calls (country_of n.telegram) w.element n.packet.fields i) n.real ∙ c

-- and the other way round
pub place-names : (i : Id) (plan : Plan) (w : LinkPlace) → named_at i w plan ≡ true → Names i w.group w.telegram w.packet w.element plan
place-names i plan w e =
    let h = and_parts (is_real i) (is_the i (id_at w plan)) (sym (named-is i w plan) ∙ e) in
    option_and_then_some (id_in_telegram w) (telegram_at w.group w.telegram plan) i (the-one i (id_at w plan) h.1) (λ y s f.
    option_and_then_some (id_in_packet (country_of y) w.element) (find same_tag w.packet y.packets) i f (λ x p g.
    let n = id-parts (country_at (country_of y) w.element x.fields) i (field_of NidBg w.element x.fields) g in
    record { telegram = y; stands = s; packet = x; has_packet = p; number = n.0; country = n.1; real = h.0 }))

module _ (names : IndexOf (set.BTreeSet LinkPlace)) (plan : Plan) (sound : IsSound plan) (index : (q : Id) (w : LinkPlace) → held names q w ≡ named_at q w plan) where
  pub untold : (i : Id) → indexed names i ≡ None → is_named i plan ≡ false
  untold i e = no_name_to i plan sound (λ g t p k n. true≢false (sym (named-place i plan (place g t p k) n) ∙ sym (index i (place g t p k)) ∙ ap (λ o. in_links o (place g t p k)) e))

  pub told : (i : Id) → AreFull names → is_some (indexed names i) ≡ true → is_named i plan ≡ true
  told i full e = by (indexed names i) refl e (full i)
    where
      some : (s : set.BTreeSet LinkPlace) → indexed names i ≡ Some s → (ks : List LinkPlace) → s.keys ≡ ks → 0 < length ks → is_named i plan ≡ true
      some s h [] k l = absurd (omega (arith, l))
      some s h (w ∷ ws) k l =
          let c : set.contains compare_place s w ≡ true = ap (λ zs. set.contains compare_place (record { keys = zs }) w) k ∙ (let p = places.refl w in simp p) in
          let n : named_at i w plan ≡ true = sym (index i w) ∙ ap (λ o. in_links o w) h ∙ c in
          split_on (is_named i plan) (λ y. y) (λ y. absurd (no_name_from i plan y w.group w.telegram w.packet w.element (place-names i plan w n)))

      by : (o : Option (set.BTreeSet LinkPlace)) → indexed names i ≡ o → is_some o ≡ true → IfSome o (λ s. 0 < set.btree_set_len s) → is_named i plan ≡ true
      by None h y f = absurd (true≢false (sym y))
      by (Some s) h y f = some s h s.keys refl f
