-- Changes of elements at places, one after another, as one change of each field.
use Rattle.std.proofs.Common.{◌≡◌, ◌-◌, ℕ, Bool, true, false, cond, eqb, ◌&&◌, ◌||◌, List, [], ◌∷◌, Some, refl, sym, ap, subst, ◌∙◌, arith}
use Rattle.balise_rules.specs.declared.tag.Tag.{Tag}
use Rattle.balise_rules.specs.declared.variable.Var.{Var}
use Rattle.balise_rules.specs.declared.variable.Var.TheVariants.{NidBg, QLinkorientation}
use Rattle.balise_rules.specs.Tagged.{find, each, Distinct}
use Rattle.balise_rules.specs.Tags.{Key, is_of, same_tag, same_key, same_var}
use Rattle.balise_index.specs.Places.{is_place, among, Once}
use Rattle.balise_index.proofs.places.Equal.{place_one, place_is}
use Rattle.balise_rules.specs.Forms.{Fields}
use Rattle.balise_rules.specs.Packet.{Packet, value, field_of}
use Rattle.balise_rules.specs.Telegram.{Telegram}
use Rattle.balise_rules.specs.Plan.{Group, Plan}
use Rattle.balise_rules.proofs.Tests.{IsTest, split_on, tag_test, nat_test, key_test, test-sym}
use Rattle.balise_rules.proofs.Distincts.{distinct-each}
use Rattle.balise_rules.proofs.Lists.{find-each}
use Rattle.balise_rules.proofs.Cases.{some_is}
use Rattle.balise_rules.proofs.Each.{found_later, each-id}
use Rattle.balise_index.specs.declared.link_place.LinkPlace.{LinkPlace}
use Rattle.balise_plan.specs.declared.links.change.Change.{Change}
use Rattle.balise_plan.specs.declared.links.change.Change.TheVariants.{Name, Flip}
use Rattle.balise_plan.specs.Walks.{changed, change_at, change_all}

pub distinct-change : (c : Change) (w : LinkPlace) (plan : Plan) → Distinct same_tag plan → Distinct same_tag (change_at c w plan)
distinct-change c w plan u = distinct-each tag_test _ plan u

-- ---- lists

pub each-each : {K A : Type 0} (f g : K → A → A) (xs : List (K × A)) → each f (each g xs) ≡ each (λ k a. f k (g k a)) xs
each-each f g [] = refl
each-each f g (y ∷ ys) = ap (λ l. (y.0, f y.0 (g y.0 y.1)) ∷ l) (each-each f g ys)

pub each-same : {K A : Type 0} (f g : K → A → A) (xs : List (K × A)) → ((k : K) (a : A) → f k a ≡ g k a) → each f xs ≡ each g xs
each-same f g [] h = refl
each-same f g (y ∷ ys) h = ap (λ a. (y.0, a) ∷ each f ys) (h y.0 y.1) ∙ ap (λ l. (y.0, g y.0 y.1) ∷ l) (each-same f g ys h)

-- where each key stands once, it is enough for what is found
pub each-found : {K A : Type 0} {same : K → K → Bool} → IsTest same → (f g : K → A → A) (xs : List (K × A)) → Distinct same xs → ((k : K) (a : A) → find same k xs ≡ Some a → f k a ≡ g k a) → each f xs ≡ each g xs
each-found t f g [] u h = refl
each-found {K} {A} {same = same} t f g (y ∷ ys) u h =
    let i = t.itself y.0 in
    ap (λ a. (y.0, a) ∷ each f ys) (h y.0 y.1 (simp i))
    ∙ ap (λ l. (y.0, g y.0 y.1) ∷ l) (each-found t f g ys u.1 (λ k a e. h k a (found_later t y ys u.0 k a e)))

pub cond-each : {K A : Type 0} (b : Bool) (f : K → A → A) (xs : List (K × A)) → cond b (each f xs) xs ≡ each (λ k a. cond b (f k a) a) xs
cond-each true f xs = refl
cond-each false f xs = sym (each-id xs)

-- ---- levels

abbrev pub Hit : Type 0
Hit = Tag → ℕ → Tag → Key → ℕ → ℕ

abbrev pub packet_fields : (Key → ℕ → ℕ) → Packet → Packet
packet_fields h x = record { fields = each h x.fields; rest = x.rest }

abbrev pub telegram_fields : (Tag → Key → ℕ → ℕ) → Telegram → Telegram
telegram_fields h y = record { head = y.head; packets = each (λ p x. packet_fields (h p) x) y.packets; padding = y.padding }

abbrev pub group_fields : (ℕ → Tag → Key → ℕ → ℕ) → Group → Group
group_fields h ys = each (λ t y. telegram_fields (h t) y) ys

-- each field of each packet changed
abbrev pub all_fields : Hit → Plan → Plan
all_fields h plan = each (λ g ys. group_fields (h g) ys) plan

packet-same : (h k : Key → ℕ → ℕ) → ((key : Key) (v : ℕ) → h key v ≡ k key v) → (x : Packet) → packet_fields h x ≡ packet_fields k x
packet-same h k e x = ap (λ (fs : Fields). record { fields = fs; rest = x.rest }) (each-same h k x.fields e)

abbrev pub parts : Fields → List Bool → List (Tag × Packet) → Telegram
parts head padding ps = record { head = head; packets = ps; padding = padding }

pub all-same : (h k : Hit) → ((g : Tag) (t : ℕ) (p : Tag) (key : Key) (v : ℕ) → h g t p key v ≡ k g t p key v) → (plan : Plan) → all_fields h plan ≡ all_fields k plan
all-same h k e plan =
    each-same _ _ plan (λ g ys. each-same _ _ ys (λ t y. ap (parts y.head y.padding) (each-same _ _ y.packets (λ p x. packet-same (h g t p) (k g t p) (e g t p) x))))

pub all-all : (h k : Hit) (plan : Plan) → all_fields h (all_fields k plan) ≡ all_fields (λ g t p key v. h g t p key (k g t p key v)) plan
all-all h k plan =
    each-each _ _ plan ∙ each-same _ _ plan (λ g ys. each-each _ _ ys ∙ each-same _ _ ys (λ t y. ap (parts y.head y.padding) (each-each _ _ y.packets ∙ each-same _ _ y.packets (λ p x.
    ap (λ (fs : Fields). record { fields = fs; rest = x.rest }) (each-each (h g t p) (k g t p) x.fields)))))

pub all-id : (plan : Plan) → all_fields (λ g t p key v. v) plan ≡ plan
all-id plan =
    each-same _ (λ g ys. ys) plan (λ g ys. each-same _ (λ t y. y) ys (λ t y. ap (parts y.head y.padding) (each-same _ (λ p x. x) y.packets (λ p x. ap (λ (fs : Fields). record { fields = fs; rest = x.rest }) (each-id x.fields)) ∙ each-id y.packets)) ∙ each-id ys) ∙ each-id plan

-- ---- one place

-- what is done to a field of an element
abbrev pub element_after : Change → ℕ → Key → ℕ → ℕ
element_after (Name n) k key v = cond (same_key (NidBg, k) key) n v
element_after Flip k key v = cond (same_key (QLinkorientation, k) key) (1 - v) v

-- whether a place is in this packet
abbrev pub in_packet : LinkPlace → Tag → ℕ → Tag → Bool
in_packet w g t p = same_tag w.group g && (eqb w.telegram t && same_tag w.packet p)

abbrev pub once : Change → LinkPlace → Hit
once c w g t p key v = cond (in_packet w g t p) (element_after c w.element key v) v

abbrev pub all_once : Change → List LinkPlace → Hit
all_once c [] g t p key v = v
all_once c (w ∷ ws) g t p key v = all_once c ws g t p key (once c w g t p key v)

-- each key stands once, at each level
pub record KeyedPacket (x : Packet) : Type 0 where
  pub fields : Distinct same_key x.fields

pub record KeyedTelegram (y : Telegram) : Type 0 where
  pub tags : Distinct same_tag y.packets
  pub packets : (p : Tag) (x : Packet) → find same_tag p y.packets ≡ Some x → KeyedPacket x

pub record KeyedGroup (ys : Group) : Type 0 where
  pub tags : Distinct eqb ys
  pub telegrams : (t : ℕ) (y : Telegram) → find eqb t ys ≡ Some y → KeyedTelegram y

pub record Keyed (plan : Plan) : Type 0 where
  pub tags : Distinct same_tag plan
  pub groups : (g : Tag) (ys : Group) → find same_tag g plan ≡ Some ys → KeyedGroup ys

changed-fields : (c : Change) (k : ℕ) (x : Packet) → KeyedPacket x → changed c k x ≡ packet_fields (element_after c k) x
changed-fields (Name n) k x u = refl
changed-fields Flip k x u =
    ap (λ (fs : Fields). record { fields = fs; rest = x.rest }) (each-found key_test _ _ x.fields u.fields (λ key v e.
    split_on (same_key (QLinkorientation, k) key)
    (λ d. let q : value QLinkorientation k x.fields ≡ v = (let o : field_of QLinkorientation k x.fields ≡ Some v = ap (λ j. find same_key j x.fields) (key_test.one (QLinkorientation, k) key d) ∙ e in simp o) in
    simp d (ap (λ a. 1 - a) q))
    (λ d. simp d)))

cond-packet : (b : Bool) (h : Key → ℕ → ℕ) (x : Packet) → cond b (packet_fields h x) x ≡ packet_fields (λ key v. cond b (h key v) v) x
cond-packet true h x = refl
cond-packet false h x = ap (λ (fs : Fields). record { fields = fs; rest = x.rest }) (sym (each-id x.fields))

pub cond-telegram : (b : Bool) (h : Tag → Packet → Packet) (y : Telegram) → cond b (parts y.head y.padding (each h y.packets)) y ≡ parts y.head y.padding (each (λ p x. cond b (h p x) x) y.packets)
cond-telegram true h y = refl
cond-telegram false h y = ap (parts y.head y.padding) (sym (each-id y.packets))

pub and-cond : {A : Type 0} (a b : Bool) (x y : A) → cond a (cond b x y) y ≡ cond (a && b) x y
and-cond a b x y = grind arith

three : {A : Type 0} (a b c : Bool) (x y : A) → cond a (cond b (cond c x y) y) y ≡ cond (a && (b && c)) x y
three a b c x y = grind arith

pub change-fields : (c : Change) (w : LinkPlace) (plan : Plan) → Keyed plan → change_at c w plan ≡ all_fields (once c w) plan
change-fields c w plan u =
    each-found tag_test _ _ plan u.tags (λ g ys e. let ug = u.groups g ys e in
    cond-each (same_tag w.group g) _ ys ∙ each-found nat_test _ _ ys ug.tags (λ t y f. let uy = ug.telegrams t y f in
    ap (λ (z : Telegram). cond (same_tag w.group g) z y) (cond-telegram (eqb w.telegram t) _ y) ∙ cond-telegram (same_tag w.group g) _ y ∙ ap (parts y.head y.padding) (each-found tag_test _ _ y.packets uy.tags (λ p x i.
    three (same_tag w.group g) (eqb w.telegram t) (same_tag w.packet p) (changed c w.element x) x
    ∙ ap (λ (z : Packet). cond (in_packet w g t p) z x) (changed-fields c w.element x (uy.packets p x i))
    ∙ cond-packet (in_packet w g t p) (element_after c w.element) x))))

-- ---- keys stay

pub found-each : {K A P : Type 0} {same : K → K → Bool} → IsTest same → (f : K → A → A) (k : K) (y : A) (xs : List (K × A)) → find same k (each f xs) ≡ Some y → ((x : A) → find same k xs ≡ Some x → y ≡ f k x → P) → P
found-each {same = same} t f k y xs e g = some_is (find same k xs) (f k) y (sym (find-each t f k xs) ∙ e) g

pub keyed-all : (h : Hit) (plan : Plan) → Keyed plan → Keyed (all_fields h plan)
keyed-all h plan u = record {
  tags = distinct-each tag_test _ plan u.tags;
  groups = λ g zs e. found-each tag_test _ g zs plan e (λ ys f q. subst KeyedGroup (sym q) (let ug = u.groups g ys f in record {
    tags = distinct-each nat_test _ ys ug.tags;
    telegrams = λ t z i. found-each nat_test _ t z ys i (λ y j r. subst KeyedTelegram (sym r) (let uy = ug.telegrams t y j in record {
      tags = distinct-each tag_test _ y.packets uy.tags;
      packets = λ p w k. found-each tag_test _ p w y.packets k (λ x l s. subst KeyedPacket (sym s) (record { fields = distinct-each key_test _ x.fields (uy.packets p x l).fields }));
    }));
  }));
}

pub change-all : (c : Change) (ws : List LinkPlace) (plan : Plan) → Keyed plan → change_all c ws plan ≡ all_fields (all_once c ws) plan
change-all c [] plan u = sym (all-id plan)
change-all c (w ∷ ws) plan u =
    let e = change-fields c w plan u in
    ap (change_all c ws) e ∙ change-all c ws (all_fields (once c w) plan) (keyed-all (once c w) plan u) ∙ all-all (all_once c ws) (once c w) plan

-- ---- places among others

abbrev pub place : Tag → ℕ → Tag → ℕ → LinkPlace
place g t p k = record { group = g; telegram = t; packet = p; element = k }

-- what is done to a field of the element at a place among these
abbrev pub among_after : Change → List LinkPlace → Hit
among_after (Name n) ws g t p key v = cond (is_of NidBg key && among (place g t p key.1) ws) n v
among_after Flip ws g t p key v = cond (is_of QLinkorientation key && among (place g t p key.1) ws) (1 - v) v

joined : (a b c d e : Bool) {f g h i place : Bool} → a ≡ f → b ≡ g → c ≡ h → e ≡ i → place ≡ (f && (g && (h && i))) → ((a && (b && c)) && (d && e)) ≡ (d && place)
joined a b c d e p q r s t = grind arith

here_is : (g : Tag) (t : ℕ) (p : Tag) (var : Var) (key : Key) (w : LinkPlace) → (in_packet w g t p && same_key (var, w.element) key) ≡ (is_of var key && is_place (place g t p key.1) w)
here_is g t p var key w =
    joined _ _ _ (same_var var key.0) _ (test-sym tag_test w.group g) (test-sym nat_test w.telegram t) (test-sym tag_test w.packet p) (test-sym nat_test w.element key.1) (place_is (place g t p key.1) w)

once_name : (n : ℕ) (w : LinkPlace) (g : Tag) (t : ℕ) (p : Tag) (key : Key) (v : ℕ) → once (Name n) w g t p key v ≡ cond (is_of NidBg key && is_place (place g t p key.1) w) n v
once_name n w g t p key v = and-cond (in_packet w g t p) (same_key (NidBg, w.element) key) n v ∙ ap (λ b. cond b n v) (here_is g t p NidBg key w)

once_flip : (w : LinkPlace) (g : Tag) (t : ℕ) (p : Tag) (key : Key) (v : ℕ) → once Flip w g t p key v ≡ cond (is_of QLinkorientation key && is_place (place g t p key.1) w) (1 - v) v
once_flip w g t p key v = and-cond (in_packet w g t p) (same_key (QLinkorientation, w.element) key) (1 - v) v ∙ ap (λ b. cond b (1 - v) v) (here_is g t p QLinkorientation key w)

either_name : (a b c : Bool) (n v : ℕ) → cond (a && c) n (cond (a && b) n v) ≡ cond (a && (b || c)) n v
either_name a b c n v = grind arith

either_flip : (a b c : Bool) (v : ℕ) → (b ≡ true → c ≡ false) → cond (a && c) (1 - cond (a && b) (1 - v) v) (cond (a && b) (1 - v) v) ≡ cond (a && (b || c)) (1 - v) v
either_flip a b c v h = grind arith

none : (a : Bool) (n v : ℕ) → v ≡ cond (a && false) n v
none a n v = grind arith

pub all-name : (n : ℕ) (ws : List LinkPlace) (g : Tag) (t : ℕ) (p : Tag) (key : Key) (v : ℕ) → all_once (Name n) ws g t p key v ≡ among_after (Name n) ws g t p key v
all-name n [] g t p key v = none (is_of NidBg key) n v
all-name n (w ∷ ws) g t p key v =
    ap (all_once (Name n) ws g t p key) (once_name n w g t p key v) ∙ all-name n ws g t p key _ ∙ either_name (is_of NidBg key) (is_place (place g t p key.1) w) (among (place g t p key.1) ws) n v

-- a place that isn't twice in the list
pub all-flip : (ws : List LinkPlace) → Once ws → (g : Tag) (t : ℕ) (p : Tag) (key : Key) (v : ℕ) → all_once Flip ws g t p key v ≡ among_after Flip ws g t p key v
all-flip [] u g t p key v = none (is_of QLinkorientation key) (1 - v) v
all-flip (w ∷ ws) u g t p key v =
    ap (all_once Flip ws g t p key) (once_flip w g t p key v) ∙ all-flip ws u.1 g t p key _
    ∙ either_flip (is_of QLinkorientation key) (is_place (place g t p key.1) w) (among (place g t p key.1) ws) v (λ e. ap (λ x. among x ws) (place_one (place g t p key.1) w e) ∙ u.0)
