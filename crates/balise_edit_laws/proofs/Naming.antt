-- The search for a group and the test for a name, against the facts that no group and no element has an identity.
-- From the distinct tags of a sound plan: what stands in a list is found under its tag.
-- The test goes level by level, each level empty where nothing found in it has a name.
use Rattle.std.proofs.Common.{◌≡◌, ℕ, Bool, true, false, not, cond, ◌&&◌, eqb, List, [], ◌∷◌, ◌++◌, length, map, flat_map, Some, None, refl, sym, ap, ◌∙◌, arith}
use Rattle.std.proofs.lemmas.Bool.{true≢false, and_right, eqb-true, not-false}
use Rattle.balise_rules.specs.declared.tag.Tag.{Tag}
use Rattle.balise_rules.specs.declared.identity.Id.{Id}
use Rattle.balise_rules.specs.declared.variable.Var.TheVariants.{NidBg}
use Rattle.balise_rules.specs.Tagged.{find, Distinct}
use Rattle.balise_rules.specs.Tags.{Key, same_tag, same_id, same_key, is_of}
use Rattle.balise_rules.specs.Forms.{Fields}
use Rattle.balise_rules.specs.Packet.{Packet, field_of}
use Rattle.balise_rules.specs.Telegram.{Telegram}
use Rattle.balise_rules.specs.Plan.{Plan, Group, country_of, identity_of, telegram_at, group_named, IsSound}
use Rattle.balise_rules.specs.Names.{country_at, is_real, calls, is_it, links_to, links_in_plan, links_in_telegram, elements_among, is_named, Link}
use Rattle.balise_rules.specs.Accepting.{NoName, NoGroup}
use Rattle.balise_rules.proofs.Tests.{IsTest, split_on, split_keys, tag_test, nat_test, key_test, id_test, var_test}
use Rattle.balise_rules.proofs.Cases.{unsome, found}
use Rattle.balise_rules.proofs.Each.{found_later}
use Rattle.balise_rules.proofs.Found.{group_sound, stood}
use Rattle.balise_rules.proofs.Names.{unnamed}

-- groups
pub no_group_from : (i : Id) → (plan : Plan) → group_named i plan ≡ None → NoGroup i plan
no_group_from i [] n g ys h = absurd cc
no_group_from i (y ∷ rest) n g ys h =
    split_on (same_id (identity_of y.1) i)
    (λ e. absurd (let k = simp e at n in cc))
    (λ e. let k : group_named i rest ≡ None = simp e at n in
    split_on (same_tag g y.0)
    (λ d. let w : Some y.1 ≡ Some ys = simp d at h in ap (λ z. same_id (identity_of z) i) (sym (unsome w)) ∙ e)
    (λ d. let w : find same_tag g rest ≡ Some ys = simp d at h in no_group_from i rest k g ys w))

pub no_group_to : (i : Id) → (plan : Plan) → Distinct same_tag plan → NoGroup i plan → group_named i plan ≡ None
no_group_to i [] u n = refl
no_group_to i (y ∷ rest) u n =
    let r = tag_test.itself y.0 in
    let a : same_id (identity_of y.1) i ≡ false = n y.0 y.1 (simp r) in
    simp a (no_group_to i rest u.1 (λ g ys h. n g ys (found_later tag_test y rest u.0 g ys h)))

-- an empty list of what each item gives
nil_parts : {A : Type 0} → (xs ys : List A) → xs ++ ys ≡ [] → (xs ≡ []) × (ys ≡ [])
nil_parts [] ys e = (refl, e)
nil_parts (x ∷ xs) ys e = absurd cc

each_gives_none : {K A B : Type 0} → {same : K → K → Bool} → IsTest same → (f : K × A → List B) → (xs : List (K × A)) → flat_map f xs ≡ [] → (k : K) → (x : A) → find same k xs ≡ Some x → f (k, x) ≡ []
each_gives_none t f [] e k x h = absurd cc
each_gives_none {same = same} t f (y ∷ ys) e k x h =
    split_keys t k y.0
    (λ d q. let w : Some y.1 ≡ Some x = simp d at h in ap (λ c. f (c, x)) q ∙ ap (λ a. f (y.0, a)) (sym (unsome w)) ∙ (nil_parts (f y) (flat_map f ys) e).0)
    (λ d. let w : find same k ys ≡ Some x = simp d at h in each_gives_none t f ys (nil_parts (f y) (flat_map f ys) e).1 k x w)

none_gives_any : {K A B : Type 0} → {same : K → K → Bool} → IsTest same → (f : K × A → List B) → (xs : List (K × A)) → Distinct same xs → ((k : K) → (x : A) → find same k xs ≡ Some x → f (k, x) ≡ []) → flat_map f xs ≡ []
none_gives_any t f [] u h = refl
none_gives_any {same = same} t f (y ∷ ys) u h =
    let r = t.itself y.0 in
    let a : f y ≡ [] = h y.0 y.1 (simp r) in
    ap (λ l. l ++ flat_map f ys) a ∙ none_gives_any t f ys u.1 (λ k x e. h k x (found_later t y ys u.0 k x e))

-- elements of a packet
element_other : (i : Id) → (c : ℕ) → (fs from : Fields) → elements_among i c fs from ≡ [] → (k n : ℕ) → find same_key (NidBg, k) from ≡ Some n → calls c k fs i ≡ false
element_other i c fs [] e k n h = absurd cc
element_other i c fs (f ∷ from) e k n h =
    split_on (is_of NidBg f.0 && calls c f.0.1 fs i)
    (λ d. absurd (let w = simp d at e in cc))
    (λ d. let w : elements_among i c fs from ≡ [] = simp d at e in
    split_keys key_test (NidBg, k) f.0
    (λ b q. let s : is_of NidBg f.0 ≡ true = ap (λ (j : Key). is_of NidBg j) (sym q) ∙ var_test.itself NidBg in
    let z : calls c f.0.1 fs i ≡ false = simp s at d in ap (λ (j : Key). calls c j.1 fs i) q ∙ z)
    (λ b. let v : find same_key (NidBg, k) from ≡ Some n = simp b at h in element_other i c fs from w k n v))

no_element : (i : Id) → (c : ℕ) → (fs from : Fields) → ((k : ℕ) → calls c k fs i ≡ false) → elements_among i c fs from ≡ []
no_element i c fs [] h = refl
no_element i c fs (f ∷ from) h = let a : (is_of NidBg f.0 && calls c f.0.1 fs i) ≡ false = and_right (is_of NidBg f.0) (calls c f.0.1 fs i) (h f.0.1) in simp a (no_element i c fs from h)

no_length : {A : Type 0} → (xs : List A) → not (eqb (length xs) 0) ≡ false → xs ≡ []
no_length [] e = refl
no_length (x ∷ xs) e = let k = eqb-true (length (x ∷ xs)) 0 (not-false (eqb (length (x ∷ xs)) 0) e) in absurd (omega (arith, k))

nil_map : {A B : Type 0} → (f : A → B) → (xs : List A) → map f xs ≡ [] → xs ≡ []
nil_map f [] e = refl
nil_map f (x ∷ xs) e = absurd cc

abbrev in_packet : Id → Tag → ℕ → ℕ → Tag × Packet → List Link
in_packet i g t c z = map (λ k. (g, t, z.0, k)) (elements_among i c z.1.fields z.1.fields)

abbrev in_telegram_of : Id → Tag → ℕ × Telegram → List Link
in_telegram_of i g t = links_in_telegram i g t.0 (country_of t.1) t.1.packets

abbrev in_group_of : Id → Tag × Group → List Link
in_group_of i g = flat_map (in_telegram_of i g.0) g.1

links_none : (i : Id) → (plan : Plan) → is_named i plan ≡ false → is_real i ≡ true → links_in_plan i plan ≡ []
links_none i plan h r = ap (λ b. cond b (links_in_plan i plan) []) (sym r) ∙ no_length (links_to i plan) h

pub no_name_from : (i : Id) → (plan : Plan) → is_named i plan ≡ false → NoName i plan
no_name_from i plan h g t p k n =
    let all = links_none i plan h n.real in
    found (find same_tag g plan)
    (λ e. let s = n.stands in let w = simp e at s in absurd cc)
    (λ ys e. let s = n.stands in let w : find eqb t ys ≡ Some n.telegram = simp e at s in
    let a : in_group_of i (g, ys) ≡ [] = each_gives_none tag_test (in_group_of i) plan all g ys e in
    let b : in_telegram_of i g (t, n.telegram) ≡ [] = each_gives_none nat_test (in_telegram_of i g) ys a t n.telegram w in
    let d : in_packet i g t (country_of n.telegram) (p, n.packet) ≡ [] = each_gives_none tag_test (in_packet i g t (country_of n.telegram)) n.telegram.packets b p n.packet n.has_packet in
    let z = element_other i (country_of n.telegram) n.packet.fields n.packet.fields (nil_map (λ j. (g, t, p, j)) (elements_among i (country_of n.telegram) n.packet.fields n.packet.fields) d) k i.number n.number in
    let yes : calls (country_of n.telegram) k n.packet.fields i ≡ true =
    ap (λ c. is_it c i (field_of NidBg k n.packet.fields)) n.country ∙ ap (is_it i.country i) n.number ∙ id_test.itself i in
    absurd (true≢false (sym yes ∙ z)))

uncalled : (i : Id) → (plan : Plan) → NoName i plan → is_real i ≡ true → (g : Tag) → (t : ℕ) → (y : Telegram) → telegram_at g t plan ≡ Some y → (p : Tag) → (x : Packet) → find same_tag p y.packets ≡ Some x → (k : ℕ) → calls (country_of y) k x.fields i ≡ false
uncalled i plan none real g t y q p x h k =
    found (field_of NidBg k x.fields)
    (λ e. ap (is_it (country_at (country_of y) k x.fields) i) e)
    (λ n e. ap (is_it (country_at (country_of y) k x.fields) i) e ∙ unnamed i plan none real g t y q p x h k n e)

pub no_name_to : (i : Id) → (plan : Plan) → IsSound plan → NoName i plan → is_named i plan ≡ false
no_name_to i plan sound none =
    split_on (is_real i)
    (λ r. let all : links_in_plan i plan ≡ [] = none_gives_any tag_test (in_group_of i) plan sound.tags (λ g ys q.
    none_gives_any nat_test (in_telegram_of i g) ys (group_sound plan sound g ys q).tags (λ t y d.
    let here : telegram_at g t plan ≡ Some y = simp q d in
    none_gives_any tag_test (in_packet i g t (country_of y)) y.packets (stood g t plan sound y here).placed.sound.tags (λ p x h.
    ap (map (λ k. (g, t, p, k))) (no_element i (country_of y) x.fields x.fields (uncalled i plan none r g t y here p x h))))) in
    simp (r, all))
    (λ r. simp r)
