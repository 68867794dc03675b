-- The lines of a review of the plan once a group is turned, from the plan before: a turn leaves identities, countries, versions, numbers of packets and distances, so a packet has the same lines, and only the order of the group's telegrams is another.
use Rattle.std.proofs.Common.{◌≡◌, ◌∙◌, ℕ, suc, ◌≤◌, ◌<◌, Bool, true, false, cond, List, [], ◌∷◌, ◌++◌, Option, Some, None, length, reverse, option_map, refl, sym, ap, arith}
use Rattle.std.specs.Prelude.{flat_map, nat_le, option_to_list}
use Rattle.std.proofs.lemmas.Bool.{true≢false}
use Rattle.std.proofs.lemmas.Bool.Decides.{nat_tests}
use Rattle.std.proofs.lemmas.List.{length-reverse}
use Rattle.balise_rules.specs.declared.identity.Id.{Id}
use Rattle.balise_rules.specs.declared.tag.Tag.{Tag}
use Rattle.balise_rules.specs.declared.variable.Var.{Var}
use Rattle.balise_rules.specs.declared.variable.Var.TheVariants.{NidPacket, NidBg, NidC, MVersion, DLink, QDir, QLinkorientation}
use Rattle.balise_rules.specs.declared.review.Reviewed.{Reviewed}
use Rattle.balise_rules.specs.declared.review.Reviewed.TheVariants.{Field, Opaque}
use Rattle.balise_rules.specs.declared.review.ReviewLine.{ReviewLine}
use Rattle.balise_rules.specs.Edits.{field_after, packet_after, telegram_after, group_after}
use Rattle.balise_rules.specs.declared.tagged_edit.TaggedEdit.TheVariants.{TurnGroup}
use Rattle.balise_rules.specs.Forms.{Fields}
use Rattle.balise_rules.specs.Names.{calls, elements_among}
use Rattle.balise_rules.specs.Notes.{noted}
use Rattle.balise_rules.specs.Packet.{Packet, value}
use Rattle.balise_rules.specs.Packets.{is_known}
use Rattle.balise_rules.specs.Plan.{Group, Plan, country_of, identity_of, IsSound}
use Rattle.balise_rules.specs.Review.{over, looked_in, lines_at, distance_of, links_looked, lines_in, link_lines, review_in, review}
use Rattle.balise_rules.specs.Tagged.{find, each, Distinct}
use Rattle.balise_rules.specs.Tags.{Key, is_of, same_key, same_tag, same_var}
use Rattle.balise_rules.specs.Telegram.{Telegram, version_of}
use Rattle.balise_rules.specs.Variables.{is_distance}
use Rattle.balise_rules.proofs.Each.{found_later, length-each}
use Rattle.balise_rules.proofs.Lists.{find-each}
use Rattle.balise_rules.proofs.Reversed.{each-reverse}
use Rattle.balise_rules.proofs.Tests.{IsTest, split_on, tag_test, key_test, var_test}
use Rattle.balise_rules.proofs.Untouched.{KeepsFields, field_untouched, value_untouched}
use Rattle.balise_rules.proofs.Values.{value_kept}
use Rattle.balise_edit_laws.proofs.FieldChanges.{calls_turned}
use Rattle.balise_edit_laws.proofs.SoundKept.{groups_kept}
use Rattle.balise_review.specs.Reviews.{distances, packet_lines, telegram_lines, packet_links, telegram_links, group_links}

-- ---- lists

over_each : {K A B : Type 0} (f : ℕ → K × A → List B) (h : K → A → A) → ((m : ℕ) (k : K) (x : A) → f m (k, h k x) ≡ f m (k, x)) → (n : ℕ) (xs : List (K × A)) → over f n (each h xs) ≡ over f n xs
over_each f h e n [] = refl
over_each f h e n (y ∷ ys) = ap (λ l. l ++ over f (suc n) (each h ys)) (e n y.0 y.1) ∙ ap (λ l. f n y ++ l) (over_each f h e (suc n) ys)

flat_each : {K A B : Type 0} {same : K → K → Bool} → IsTest same → (f g : K × A → List B) (h : K → A → A) (xs : List (K × A)) → Distinct same xs → ((k : K) (x : A) → find same k xs ≡ Some x → f (k, h k x) ≡ g (k, x)) → flat_map f (each h xs) ≡ flat_map g xs
flat_each t f g h [] u e = refl
flat_each t f g h (y ∷ ys) u e =
    let r = t.itself y.0 in
    ap (λ l. l ++ flat_map f (each h ys)) (e y.0 y.1 (simp r)) ∙ ap (λ l. g y ++ l) (flat_each t f g h ys u.1 (λ k x q. e k x (found_later t y ys u.0 k x q)))

flat_same : {A B : Type 0} (f g : A → List B) → ((x : A) → f x ≡ g x) → (xs : List A) → flat_map f xs ≡ flat_map g xs
flat_same f g e [] = refl
flat_same f g e (x ∷ xs) = ap (λ l. l ++ flat_map f xs) (e x) ∙ ap (λ l. g x ++ l) (flat_same f g e xs)

map-id : {A : Type 0} (h : A → A) → ((x : A) → h x ≡ x) → (o : Option A) → option_map h o ≡ o
map-id h e None = refl
map-id h e (Some x) = ap Some (e x)

-- ---- fields

still_orientation : is_distance QLinkorientation ≡ false
unfolding is_distance
still_orientation = refl

still_direction : is_distance QDir ≡ false
unfolding is_distance
still_direction = refl

link_is : is_distance DLink ≡ true
unfolding is_distance
link_is = refl

other_than : (v w : Var) → is_distance v ≡ false → is_distance w ≡ true → same_var v w ≡ false
other_than v w n s = split_on (same_var v w) (λ e. absurd (true≢false (sym s ∙ sym (ap is_distance (var_test.one v w e)) ∙ n))) (λ e. e)

distance_free : (g : Tag) (v : Var) → is_distance v ≡ true → KeepsFields (TurnGroup g) v
distance_free g v d = (other_than QLinkorientation v still_orientation d, other_than QDir v still_direction d)

distances_each : (h : Key → ℕ → ℕ) → ((key : Key) (n : ℕ) → is_distance key.0 ≡ true → h key n ≡ n) → (fs : Fields) → distances (each h fs) ≡ distances fs
distances_each h e [] = refl
distances_each h e (f ∷ fs) =
    split_on (is_distance f.0.0)
    (λ d. simp d (ap (λ (n : ℕ). Field f.0.0 f.0.1 n ∷ distances (each h fs)) (e f.0 f.1 d) ∙ ap (λ (l : List Reviewed). Field f.0.0 f.0.1 f.1 ∷ l) (distances_each h e fs)))
    (λ d. simp d (distances_each h e fs))

-- a packet of telegram t, of country c, of group k after group g was turned
module _ (g : Tag) (i : Id) (k : Tag) (t c : ℕ) (p : Tag) (x : Packet) where
  looked_after : (version : ℕ) → looked_in version (packet_after (TurnGroup g) i k t c p x) ≡ looked_in version x
  looked_after version =
      let number : value NidPacket 0 (packet_after (TurnGroup g) i k t c p x).fields ≡ value NidPacket 0 x.fields = value_kept (field_after (TurnGroup g) i k t c p x.fields) NidPacket 0 x.fields (λ n. field_untouched (TurnGroup g) (NidPacket, 0) (refl, refl) i k t c p x.fields n) in
      let same : distances (packet_after (TurnGroup g) i k t c p x).fields ≡ distances x.fields = distances_each (field_after (TurnGroup g) i k t c p x.fields) (λ key n d. field_untouched (TurnGroup g) key (distance_free g key.0 d) i k t c p x.fields n) x.fields in
      ap (λ (n : ℕ). cond (is_known version n) (distances (packet_after (TurnGroup g) i k t c p x).fields) (Opaque n ∷ [])) number
      ∙ ap (λ (l : List Reviewed). cond (is_known version (value NidPacket 0 x.fields)) l (Opaque (value NidPacket 0 x.fields) ∷ [])) same

  distance_after : (j : ℕ) → distance_of (packet_after (TurnGroup g) i k t c p x).fields j ≡ distance_of x.fields j
  distance_after j =
      ap (λ (o : Option ℕ). option_to_list (option_map (Field DLink j) o))
      (find-each key_test (field_after (TurnGroup g) i k t c p x.fields) (DLink, j) x.fields
      ∙ map-id (field_after (TurnGroup g) i k t c p x.fields (DLink, j)) (λ n. field_untouched (TurnGroup g) (DLink, j) (distance_free g DLink link_is) i k t c p x.fields n) (find same_key (DLink, j) x.fields))

  elements_after : (own : Id) (from : Fields) → elements_among own c (packet_after (TurnGroup g) i k t c p x).fields (each (field_after (TurnGroup g) i k t c p x.fields) from) ≡ elements_among own c x.fields from
  elements_after own [] = refl
  elements_after own (f ∷ from) =
      let e = calls_turned g i own k t c p f.0.1 x.fields in
      let more = elements_after own from in
      split_on (is_of NidBg f.0)
      (λ o. split_on (calls c f.0.1 x.fields own)
      (λ d. let b = e ∙ d in simp (o, d, b) (ap (λ l. f.0.1 ∷ l) more))
      (λ d. let b = e ∙ d in simp (o, d, b) more))
      (λ o. simp o more)

  links_after : (own : Id) → links_looked own c (packet_after (TurnGroup g) i k t c p x) ≡ links_looked own c x
  links_after own =
      ap (flat_map (λ j. distance_of (packet_after (TurnGroup g) i k t c p x).fields j ++ distance_of (packet_after (TurnGroup g) i k t c p x).fields (suc j))) (elements_after own x.fields)
      ∙ flat_same _ (λ j. distance_of x.fields j ++ distance_of x.fields (suc j))
      (λ j. ap (λ l. l ++ distance_of (packet_after (TurnGroup g) i k t c p x).fields (suc j)) (distance_after j) ∙ ap (λ l. distance_of x.fields j ++ l) (distance_after (suc j)))
      (elements_among own c x.fields x.fields)

-- ---- telegrams

lines_after : (g : Tag) (i : Id) (k : Tag) (own : Id) (n : ℕ) (ys : Group) → telegram_lines own n (each (telegram_after (0, TurnGroup g) i k) ys) ≡ telegram_lines own n ys
lines_after g i k own =
    over_each (λ pig (t : ℕ × Telegram). packet_lines own (version_of t.1) pig 0 t.1.packets) (telegram_after (0, TurnGroup g) i k) (λ pig t y.
    ap (λ v. packet_lines own v pig 0 (each (packet_after (TurnGroup g) i k t (country_of y)) y.packets)) (value_untouched (TurnGroup g) MVersion (refl, refl) k t y.head)
    ∙ over_each (λ pkt (p : Tag × Packet). lines_at own pig pkt (looked_in (version_of y) p.1)) (packet_after (TurnGroup g) i k t (country_of y)) (λ pkt p x. ap (lines_at own pig pkt) (looked_after g i k t (country_of y) p x (version_of y))) 0 y.packets)

linked_after : (g : Tag) (i : Id) (k : Tag) (own j : Id) (n : ℕ) (ys : Group) → telegram_links own j n (each (telegram_after (0, TurnGroup g) i k) ys) ≡ telegram_links own j n ys
linked_after g i k own j =
    over_each (λ pig (t : ℕ × Telegram). packet_links own j (country_of t.1) pig 0 t.1.packets) (telegram_after (0, TurnGroup g) i k) (λ pig t y.
    ap (λ v. packet_links own j v pig 0 (each (packet_after (TurnGroup g) i k t (country_of y)) y.packets)) (value_untouched (TurnGroup g) NidC (refl, refl) k t y.head)
    ∙ over_each (λ pkt (p : Tag × Packet). lines_at j pig pkt (links_looked own (country_of y) p.1)) (packet_after (TurnGroup g) i k t (country_of y)) (λ pkt p x. ap (lines_at j pig pkt) (links_after g i k t (country_of y) p x own)) 0 y.packets)

-- ---- the plan

group_linked : (g : Tag) (i own : Id) (k : Tag) (ys : Group) → identity_of (group_after (0, TurnGroup g) i k ys) ≡ identity_of ys → telegram_links own (identity_of (group_after (0, TurnGroup g) i k ys)) 0 (group_after (0, TurnGroup g) i k ys) ≡ group_links g own (k, ys)
group_linked g i own k ys same =
    ap (λ (j : Id). telegram_links own j 0 (group_after (0, TurnGroup g) i k ys)) same
    ∙ split_on (same_tag g k)
    (λ d. simp d (ap (telegram_links own (identity_of ys) 0) (sym (each-reverse (telegram_after (0, TurnGroup g) i k) ys)) ∙ linked_after g i k own (identity_of ys) 0 (reverse ys)))
    (λ d. simp d (linked_after g i k own (identity_of ys) 0 ys))

-- the review, where the group stands
pub review_turned : (g : Tag) (plan : Plan) (ys : Group) → IsSound plan → find same_tag g plan ≡ Some ys →
    review g plan ≡ cond (nat_le (length ys) 1) [] (telegram_lines (identity_of ys) 0 (reverse ys) ++ flat_map (group_links g (identity_of ys)) plan)
review_turned g plan ys sound q =
    let own = identity_of ys in
    let i = (noted (TurnGroup g) plan).own in
    let new = each (group_after (0, TurnGroup g) i) plan in
    let zs = group_after (0, TurnGroup g) i g ys in
    let stands : find same_tag g new ≡ Some zs = find-each tag_test (group_after (0, TurnGroup g) i) g plan ∙ ap (option_map (group_after (0, TurnGroup g) i g)) q in
    let r = tag_test.itself g in
    let turned : zs ≡ reverse (each (telegram_after (0, TurnGroup g) i g) ys) = simp r in
    let long : length zs ≡ length ys = ap length turned ∙ length-reverse (each (telegram_after (0, TurnGroup g) i g) ys) ∙ length-each (telegram_after (0, TurnGroup g) i g) ys in
    let kept : (k : Tag) (xs : Group) → find same_tag k plan ≡ Some xs → identity_of (group_after (0, TurnGroup g) i k xs) ≡ identity_of xs =
    λ k xs f. (groups_kept (0, TurnGroup g) i plan sound (tt, (ys, q)) (λ h t y e. tt) k xs f).identity in
    let same = kept g ys q in
    let first : lines_in zs ≡ telegram_lines own 0 (reverse ys) =
    ap (λ (j : Id). telegram_lines j 0 zs) same ∙ ap (telegram_lines own 0) (turned ∙ sym (each-reverse (telegram_after (0, TurnGroup g) i g) ys)) ∙ lines_after g i g own 0 (reverse ys) in
    let second : link_lines (identity_of zs) new ≡ flat_map (group_links g own) plan =
    ap (λ (j : Id). link_lines j new) same
    ∙ flat_each tag_test (λ (y : Tag × Group). telegram_links own (identity_of y.1) 0 y.1) (group_links g own) (group_after (0, TurnGroup g) i) plan sound.tags (λ k xs f. group_linked g i own k xs (kept k xs f)) in
    ap (λ o. review_in o new) stands
    ∙ ap (λ (n : ℕ). cond (nat_le n 1) [] (lines_in zs ++ link_lines (identity_of zs) new)) long
    ∙ ap (λ (l : List ReviewLine). cond (nat_le (length ys) 1) [] (l ++ link_lines (identity_of zs) new)) first
    ∙ ap (λ (l : List ReviewLine). cond (nat_le (length ys) 1) [] (telegram_lines own 0 (reverse ys) ++ l)) second

pub few : (n : ℕ) → n ≤ 1 → nat_le n 1 ≡ true
few n h = grind (arith, nat_tests, h)

pub many : (n : ℕ) → 1 < n → nat_le n 1 ≡ false
many n h = grind (arith, nat_tests, h)
