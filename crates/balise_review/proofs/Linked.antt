-- The groups that have a link to an identity: the places that are listed, and what the others give.
use Rattle.std.proofs.Common.{◌≡◌, ◌∙◌, ◌⊎◌, inl, inr, ℕ, zero, suc, ◌+◌, ◌<◌, Bool, true, false, cond, ◌&&◌, eqb, List, [], ◌∷◌, ◌++◌, Some, None, length, position, reverse, slice_get, refl, sym, ap, arith}
use Rattle.std.specs.BTreeSet as set
use Rattle.std.specs.List.{list_any, position_or_len}
use Rattle.std.specs.Map.{keys_of}
use Rattle.std.specs.Ordering.{nat_cmp, is_eq}
use Rattle.std.specs.Prelude.{flat_map, nat_lt}
use Rattle.std.proofs.lemmas.Bool.{true≢false, and_right}
use Rattle.std.proofs.lemmas.Bool.Decides.{nat_tests}
use Rattle.std.proofs.lemmas.Option.{slice_get_within}
use Rattle.balise_rules.specs.declared.identity.Id.{Id}
use Rattle.balise_rules.specs.declared.tag.Tag.{Tag}
use Rattle.balise_rules.specs.declared.variable.Var.TheVariants.{NidBg}
use Rattle.balise_rules.specs.Forms.{Fields}
use Rattle.balise_rules.specs.Names.{calls, elements_among, is_real}
use Rattle.balise_rules.specs.Packet.{Packet}
use Rattle.balise_rules.specs.Plan.{Group, Plan, country_of, identity_of, IsSound}
use Rattle.balise_rules.specs.Review.{over, distance_of, lines_at, links_looked}
use Rattle.balise_rules.specs.Tagged.{find, Distinct}
use Rattle.balise_rules.specs.Tags.{is_of, same_tag}
use Rattle.balise_rules.specs.Telegram.{Telegram}
use Rattle.balise_rules.proofs.Cases.{found, unsome}
use Rattle.balise_rules.proofs.Each.{found_later}
use Rattle.balise_rules.proofs.Found.{group_sound, placed}
use Rattle.balise_rules.proofs.Reversed.{find-reverse, distinct-reverse}
use Rattle.balise_rules.proofs.Tests.{IsTest, split_on, equal_yes, tag_test, nat_test}
use Rattle.balise_index.specs.Places.{is_place, among}
use Rattle.balise_plan.specs.Links.{named_at}
use Rattle.balise_index.specs.declared.link_place.LinkPlace.{LinkPlace}
use Rattle.balise_index.proofs.places.Equal.{place_one}
use Rattle.balise_plan.proofs.GroupLists.{found_at}
use Rattle.balise_review.specs.Reviews.{given, group_links, packet_links, telegram_links, HasLinking}

-- ---- the places of links

pub first_or_later : (w u : LinkPlace) (us : List LinkPlace) → among w (u ∷ us) ≡ true → (w ≡ u) ⊎ (among w us ≡ true)
first_or_later w u us e = split_on (is_place w u) (λ d. inl (place_one w u d)) (λ d. let k : among w us ≡ true = simp d at e in inr k)

pub none_among : (w : LinkPlace) (us : List LinkPlace) → us ≡ [] → among w us ≡ true → ⊥
none_among w us e h = true≢false (sym h ∙ ap (among w) e)

pub itself : (n : ℕ) → is_eq (nat_cmp n n) ≡ true
itself n = grind (arith, nat_tests)

pub stays : (b old : Bool) → old ≡ true → cond b true old ≡ true
stays true old e = refl
stays false old e = e

-- ---- the place of a group

length-keys : {K A : Type 0} (xs : List (K × A)) → length (keys_of xs) ≡ length xs
length-keys [] = refl
length-keys (y ∷ ys) = ap suc (length-keys ys)

place-len : {K A : Type 0} {same : K → K → Bool} → IsTest same → (xs : List (K × A)) (i : ℕ) (k : K) (a : A) → Distinct same xs → slice_get xs i ≡ Some (k, a) → position_or_len (same k) (keys_of xs) ≡ i
place-len t [] i k a u e = absurd cc
place-len {same = same} t (y ∷ ys) zero k a u e = let d : same k y.0 ≡ true = equal_yes t k y.0 (sym (ap (λ q. q.0) (unsome e))) in simp d
place-len {same = same} t (y ∷ ys) (suc i) k a u e =
    split_on (same k y.0)
    (λ d. let gone : find same k ys ≡ None = ap (λ q. find same q ys) (t.one k y.0 d) ∙ u.0 in let no : None ≡ Some a = sym gone ∙ found_at t ys i k a u.1 e in absurd cc)
    (λ d. let ih = place-len t ys i k a u.1 e in let more : 1 + position_or_len (same k) (keys_of ys) ≡ suc i = omega (arith, ih) in simp d more)

below : (i n : ℕ) → i < n → nat_lt i n ≡ true
below i n h = grind (arith, nat_tests, h)

place-at : (plan : Plan) (i : ℕ) (y : Tag × Group) → Distinct same_tag plan → slice_get plan i ≡ Some y → position (same_tag y.0) (keys_of plan) ≡ Some i
place-at plan i y u e =
    let less : i < length (keys_of plan) = omega (arith, slice_get_within plan i y e, length-keys plan) in
    ap (λ (n : ℕ). cond (nat_lt n (length (keys_of plan))) (Some n) None) (place-len tag_test plan i y.0 y.1 u e)
    ∙ ap (λ b. cond b (Some i) None) (below i (length (keys_of plan)) less)

-- ---- what gives nothing

over_none : {K A B : Type 0} {same : K → K → Bool} → IsTest same → (f : ℕ → K × A → List B) (n : ℕ) (xs : List (K × A)) → Distinct same xs → ((m : ℕ) (k : K) (x : A) → find same k xs ≡ Some x → f m (k, x) ≡ []) → over f n xs ≡ []
over_none t f n [] u h = refl
over_none {same = same} t f n (y ∷ ys) u h =
    let r = t.itself y.0 in
    let a : f n y ≡ [] = h n y.0 y.1 (simp r) in
    ap (λ l. l ++ over f (suc n) ys) a ∙ over_none t f (suc n) ys u.1 (λ m k x e. h m k x (found_later t y ys u.0 k x e))

no_element : (i : Id) (c : ℕ) (fs from : Fields) → ((k : ℕ) → calls c k fs i ≡ false) → elements_among i c fs from ≡ []
no_element i c fs [] h = refl
no_element i c fs (f ∷ from) h = let a : (is_of NidBg f.0 && calls c f.0.1 fs i) ≡ false = and_right (is_of NidBg f.0) (calls c f.0.1 fs i) (h f.0.1) in simp a (no_element i c fs from h)

none_looked : (i : Id) (c : ℕ) (x : Packet) → ((k : ℕ) → calls c k x.fields i ≡ false) → links_looked i c x ≡ []
none_looked i c x h = ap (flat_map (λ k. distance_of x.fields k ++ distance_of x.fields (suc k))) (no_element i c x.fields x.fields h)

none_in : (i j : Id) (ys zs : Group) → Distinct eqb zs → ((t : ℕ) (y : Telegram) → find eqb t zs ≡ Some y → find eqb t ys ≡ Some y) → ((t : ℕ) (y : Telegram) → find eqb t ys ≡ Some y → Distinct same_tag y.packets)
    → ((t : ℕ) (y : Telegram) → find eqb t ys ≡ Some y → (p : Tag) (x : Packet) → find same_tag p y.packets ≡ Some x → (k : ℕ) → calls (country_of y) k x.fields i ≡ false) → telegram_links i j 0 zs ≡ []
none_in i j ys zs u same tags h =
    over_none nat_test (λ pig (t : ℕ × Telegram). packet_links i j (country_of t.1) pig 0 t.1.packets) 0 zs u (λ pig t y f.
    over_none tag_test (λ pkt (p : Tag × Packet). lines_at j pig pkt (links_looked i (country_of y) p.1)) 0 y.packets (tags t y (same t y f)) (λ pkt p x g.
    ap (lines_at j pig pkt) (none_looked i (country_of y) x (h t y (same t y f) p x g))))

unlinked : (g : Tag) (i : Id) (plan : Plan) → IsSound plan → is_real i ≡ true → (y : Tag × Group) → find same_tag y.0 plan ≡ Some y.1 → ((w : LinkPlace) → w.group ≡ y.0 → named_at i w plan ≡ false) → group_links g i y ≡ []
unlinked g i plan sound real y q none =
    let s = group_sound plan sound y.0 y.1 q in
    let tags : (t : ℕ) (z : Telegram) → find eqb t y.1 ≡ Some z → Distinct same_tag z.packets = λ t z f. (placed y.1 s t z f).sound.tags in
    let free : (t : ℕ) (z : Telegram) → find eqb t y.1 ≡ Some z → (p : Tag) (x : Packet) → find same_tag p z.packets ≡ Some x → (k : ℕ) → calls (country_of z) k x.fields i ≡ false =
    λ t z f p x e k. let n = none (record { group = y.0; telegram = t; packet = p; element = k }) refl in simp (real, q, f, e) at n in
    split_on (same_tag g y.0)
    (λ d. simp d (none_in i (identity_of y.1) y.1 (reverse y.1) (distinct-reverse nat_test y.1 s.tags) (λ t z f. sym (find-reverse nat_test t y.1 s.tags) ∙ f) tags free))
    (λ d. simp d (none_in i (identity_of y.1) y.1 y.1 s.tags (λ t z f. f) tags free))

pub nothing_elsewhere : (g : Tag) (i : Id) (plan : Plan) → IsSound plan → is_real i ≡ true → (places : set.BTreeSet ℕ) → HasLinking i plan places → (k : ℕ) → list_any (λ q. is_eq (nat_cmp k q)) places.keys ≡ false → given (group_links g i) (slice_get plan k) ≡ []
nothing_elsewhere g i plan sound real places has k m =
    found (slice_get plan k)
    (λ e. ap (given (group_links g i)) e)
    (λ y e. ap (given (group_links g i)) e ∙ unlinked g i plan sound real y (found_at tag_test plan k y.0 y.1 sound.tags e)
    (λ w same. split_on (named_at i w plan)
    (λ d. absurd (true≢false (sym (has w k (ap (λ t. position (same_tag t) (keys_of plan)) same ∙ place-at plan k y sound.tags e) d) ∙ m)))
    (λ d. d)))

-- ---- one link more of a list

pub step_gone : (w : LinkPlace) (k : ℕ) (keys : List Tag) (u : LinkPlace) (us : List LinkPlace) (P : Type 0) → None ≡ position (same_tag u.group) keys → position (same_tag w.group) keys ≡ Some k →
    (among w (u ∷ us) ≡ true) ⊎ P → (among w us ≡ true) ⊎ P
step_gone w k keys u us P none at (inr m) = inr m
step_gone w k keys u us P none at (inl e) =
    elim (first_or_later w u us e) [
      | inl q ↦ (let no : None ≡ Some k = none ∙ ap (λ v. position (same_tag v.group) keys) (sym q) ∙ at in absurd cc)
      | inr m ↦ inl m
    ]

pub step_found : (w : LinkPlace) (k n : ℕ) (keys : List Tag) (u : LinkPlace) (us : List LinkPlace) (old new : set.BTreeSet ℕ) → Some n ≡ position (same_tag u.group) keys → position (same_tag w.group) keys ≡ Some k → set.Updates nat_cmp old new n true →
    (among w (u ∷ us) ≡ true) ⊎ (set.contains nat_cmp old k ≡ true) → (among w us ≡ true) ⊎ (set.contains nat_cmp new k ≡ true)
step_found w k n keys u us old new some at g (inr m) = inr (g.0 k ∙ stays _ (set.contains nat_cmp old k) m)
step_found w k n keys u us old new some at g (inl e) =
    elim (first_or_later w u us e) [
      | inl q ↦ (let same : n ≡ k = unsome (some ∙ ap (λ v. position (same_tag v.group) keys) (sym q) ∙ at) in
          inr (ap (set.contains nat_cmp new) (sym same) ∙ g.0 n ∙ (let y = itself n in simp y)))
      | inr m ↦ inl m
    ]
