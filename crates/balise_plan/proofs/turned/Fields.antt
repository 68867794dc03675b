-- Turning by the index is turning each field that the rules turn.
use Rattle.std.proofs.Common.{◌≡◌, ◌-◌, ℕ, Bool, true, false, cond, eqb, ◌&&◌, ◌||◌, reverse, List, Some, refl, sym, ap, ◌∙◌, arith}
use Rattle.std.specs.Option.{option_map}
use Rattle.std.specs.Prelude.{unwrap_or}
use Rattle.balise_rules.specs.declared.tag.Tag.{Tag}
use Rattle.balise_rules.specs.declared.identity.Id.{Id}
use Rattle.balise_rules.specs.declared.variable.Var.{Var}
use Rattle.balise_rules.specs.declared.variable.Var.TheVariants.{QLinkorientation, QDir, NPig, NTotal, MDup}
use Rattle.balise_rules.specs.Tagged.{find, each, Distinct}
use Rattle.balise_rules.specs.Tags.{Key, is_of, same_tag, same_key, same_var}
use Rattle.balise_rules.specs.Forms.{Fields}
use Rattle.balise_rules.specs.Packet.{Packet, value}
use Rattle.balise_rules.specs.Telegram.{Telegram}
use Rattle.balise_rules.specs.Plan.{Group, Plan, IsSound, country_of}
use Rattle.balise_rules.specs.Names.{is_real, calls}
use Rattle.balise_rules.specs.Edits.{effect, exchanged, field_after, head_after}
use Rattle.balise_rules.specs.declared.tagged_edit.TaggedEdit.TheVariants.{TurnGroup}
use Rattle.balise_rules.proofs.Tests.{split_on, tag_test, nat_test, key_test, var_test, flip_no}
use Rattle.balise_rules.proofs.Lists.{find-each}
use Rattle.balise_rules.proofs.Found.{group_sound, placed, packet_spelt, fields_distinct, head_distinct}
use Rattle.balise_edit_laws.proofs.Headers.{header_once}
use Rattle.balise_layout.specs.Setting.{turned}
use Rattle.balise_index.specs.declared.link_place.LinkPlace.{LinkPlace}
use Rattle.balise_plan.specs.declared.links.change.Change.TheVariants.{Flip}
use Rattle.balise_plan.specs.Links.{named_at}
use Rattle.balise_plan.specs.Walks.{turned_in, turned_telegram, turned_telegrams, turned_head}
use Rattle.balise_plan.proofs.naming.Walking.{among_after, place, all_fields, packet_fields, parts, each-each, each-found, each-same}
use Rattle.balise_index.specs.Places.{among}
use Rattle.balise_plan.proofs.renumbering.Fields.{named_here}
use Rattle.balise_plan.proofs.turned.DirOnce.{dir_once}
use Rattle.std.proofs.lemmas.Bool.{eqb-true, or_parts}
use Rattle.balise_rules.proofs.Each.{each-id}

of_is : (w : Var) (key : Key) → is_of w key ≡ true → key ≡ (w, key.1)
of_is w key e = ap (λ x. (x, key.1)) (sym (var_test.one w key.0 e))

other : (v w : Var) (key : Key) → same_var v w ≡ false → is_of v key ≡ true → is_of w key ≡ false
other v w key n e = ap (same_var w) (sym (var_test.one v key.0 e)) ∙ flip_no var_test v w n

-- the two values of M_DUP that are exchanged
dup_is : (d : ℕ) (n : ℕ) → (eqb d 1 || eqb d 2) ≡ true → n ≡ d → 3 - d ≡ exchanged 1 2 n
dup_is d n m e = split_on (eqb d 1)
    (λ a. let q : d ≡ 1 = eqb-true d 1 a in ap (λ k. 3 - k) q ∙ ap (λ k. exchanged 1 2 k) (sym (e ∙ q)))
    (λ a. let b : eqb d 2 ≡ true = simp a at m in let q : d ≡ 2 = eqb-true d 2 b in ap (λ k. 3 - k) q ∙ ap (λ k. exchanged 1 2 k) (sym (e ∙ q)))

dup_left : (d : ℕ) (n : ℕ) → (eqb d 1 || eqb d 2) ≡ false → n ≡ d → n ≡ exchanged 1 2 n
dup_left d n m e = let h = or_parts (eqb d 1) (eqb d 2) m in
    let a : eqb n 1 ≡ false = ap (λ k. eqb k 1) e ∙ h.0 in let b : eqb n 2 ≡ false = ap (λ k. eqb k 2) e ∙ h.1 in
    ap (λ c. cond c 1 n) (sym b) ∙ ap (λ c. cond c 2 (cond (eqb n 2) 1 n)) (sym a)

value_is : (v : Var) (n : ℕ) (hs : Fields) (key : Key) → find same_key key hs ≡ Some n → key ≡ (v, 0) → n ≡ value v 0 hs
value_is v n hs key e q = sym (ap (λ o. unwrap_or o 0) (ap (λ (j : Key). find same_key j hs) (sym q) ∙ e))

key_yes : (v : Var) (key : Key) → key ≡ (v, 0) → eqb 0 key.1 ≡ true
key_yes v key q = ap (λ (j : Key). eqb 0 j.1) q

key_no : (v : Var) (key : Key) → is_of v key ≡ false → same_key (v, 0) key ≡ false
key_no v key e = ap (λ b. b && eqb 0 key.1) e

module _ (hs : Fields) (u : Distinct same_key hs) (pig : (key : Key) (n : ℕ) → find same_key key hs ≡ Some n → is_of NPig key ≡ true → key ≡ (NPig, 0)) (dup : (key : Key) (n : ℕ) → find same_key key hs ≡ Some n → is_of MDup key ≡ true → key ≡ (MDup, 0)) where
  placed_at : (key : Key) (n : ℕ) → find same_key key hs ≡ Some n → cond (same_key (NPig, 0) key) (value NTotal 0 hs - value NPig 0 hs) n ≡ cond (is_of NPig key) (value NTotal 0 hs - n) n
  placed_at key n e =
      split_on (is_of NPig key)
      (λ o. let q = pig key n e o in let k = key_yes NPig key q in let w = value_is NPig n hs key e q in simp (o, k) (ap (λ m. value NTotal 0 hs - m) (sym w)))
      (λ o. let k = key_no NPig key o in simp (o, k))

  head_turned : turned_head hs ≡ each (λ key n. cond (is_of MDup key && true) (exchanged 1 2 n) (cond (is_of NPig key && true) (value NTotal 0 hs - n) n)) hs
  head_turned =
      split_on (eqb (value MDup 0 hs) 1 || eqb (value MDup 0 hs) 2)
      (λ m. simp m (each-each _ _ hs ∙ each-found key_test _ _ hs u (λ key n e.
      split_on (is_of MDup key)
      (λ o. let q = dup key n e o in let k = key_yes MDup key q in simp (o, k) (dup_is (value MDup 0 hs) n m (value_is MDup n hs key e q)))
      (λ o. let k = key_no MDup key o in simp (o, k) (placed_at key n e ∙ and_true (is_of NPig key) _ _)))))
      (λ m. simp m (each-found key_test _ _ hs u (λ key n e.
      split_on (is_of MDup key)
      (λ o. let q = dup key n e o in let z : is_of NPig key ≡ false = other MDup NPig key refl o in let k = key_no NPig key z in simp (o, k) (dup_left (value MDup 0 hs) n m (value_is MDup n hs key e q)))
      (λ o. simp o (placed_at key n e ∙ and_true (is_of NPig key) _ _)))))
    where
      and_true : (b : Bool) (x y : ℕ) → cond b x y ≡ cond (b && true) x y
      and_true b x y = grind arith

pub head-is : (g0 g : Tag) (t : ℕ) (hs : Fields) → Distinct same_key hs → ((key : Key) (n : ℕ) → find same_key key hs ≡ Some n → is_of NPig key ≡ true → key ≡ (NPig, 0)) → ((key : Key) (n : ℕ) → find same_key key hs ≡ Some n → is_of MDup key ≡ true → key ≡ (MDup, 0)) →
    cond (same_tag g0 g) (turned_head hs) hs ≡ each (head_after (TurnGroup g0) g t hs) hs
head-is g0 g t hs u pig dup = by (same_tag g0 g)
  where
    neither : (a b : Bool) (x y n : ℕ) → n ≡ cond (a && false) x (cond (b && false) y n)
    neither a b x y n = grind arith

    by : (b : Bool) → cond b (turned_head hs) hs ≡ each (λ key n. cond (is_of MDup key && b) (exchanged 1 2 n) (cond (is_of NPig key && b) (value NTotal 0 hs - n) n)) hs
    by true = head_turned hs u pig dup
    by false = sym (each-id hs) ∙ each-same _ _ hs (λ key n. neither (is_of MDup key) (is_of NPig key) (exchanged 1 2 n) (value NTotal 0 hs - n) n)

-- a packet: its links by the index, and its direction where its group is turned
packet-is : (b : Bool) (h c : Key → ℕ → ℕ) (x : Packet) → Distinct same_key x.fields → ((key : Key) (n : ℕ) → find same_key key x.fields ≡ Some n → is_of QDir key ≡ true → key ≡ (QDir, 0)) →
    ((n : ℕ) → h (QDir, 0) n ≡ n) → ((key : Key) (n : ℕ) → find same_key key x.fields ≡ Some n → cond (is_of QDir key && b) (exchanged 0 1 (h key n)) (h key n) ≡ c key n) →
    cond b (turned (packet_fields h x)) (packet_fields h x) ≡ packet_fields c x
packet-is false h c x u once dir e = ap (λ (fs : Fields). record { fields = fs; rest = x.rest }) (each-found key_test _ _ x.fields u (λ key n k. off (is_of QDir key) (exchanged 0 1 (h key n)) (h key n) ∙ e key n k))
  where
    off : (a : Bool) (y z : ℕ) → z ≡ cond (a && false) y z
    off a y z = grind arith
packet-is true h c x u once dir e = ap (λ (fs : Fields). record { fields = fs; rest = x.rest }) (each-each _ _ x.fields ∙ each-found key_test _ _ x.fields u (λ key n k.
    split_on (is_of QDir key)
    (λ o. let q = once key n k o in let z = key_yes QDir key q in
    let same : value QDir 0 (each h x.fields) ≡ h key n = ap (λ o. unwrap_or o 0) (find-each key_test h (QDir, 0) x.fields ∙ ap (option_map (h (QDir, 0))) (ap (λ (j : Key). find same_key j x.fields) (sym q) ∙ k)) ∙ ap (λ (j : Key). h j n) (sym q) in
    let w : cond (is_of QDir key && true) (exchanged 0 1 (h key n)) (h key n) ≡ c key n = e key n k in
    simp (o, z) (ap (exchanged 0 1) same ∙ (simp o at w)))
    (λ o. let w : cond (is_of QDir key && true) (exchanged 0 1 (h key n)) (h key n) ≡ c key n = e key n k in simp o (simp o at w))))

module _ (s : ℕ) (g0 : Tag) (i : Id) (ws : List LinkPlace) (plan : Plan) (sound : IsSound plan) (real : is_real i ≡ true) (index : (w : LinkPlace) → among w ws ≡ named_at i w plan) where
  -- an orientation is flipped exactly where its element is of the identity
  field_is : (g : Tag) (ys : Group) (t : ℕ) (y : Telegram) (p : Tag) (x : Packet) → find same_tag g plan ≡ Some ys → find eqb t ys ≡ Some y → find same_tag p y.packets ≡ Some x → (key : Key) (v : ℕ) →
      cond (is_of QDir key && same_tag g0 g) (exchanged 0 1 (among_after Flip ws g t p key v)) (among_after Flip ws g t p key v) ≡ field_after (TurnGroup g0) i g t (country_of y) p x.fields key v
  field_is g ys t y p x e f h key v =
      let a : among (place g t p key.1) ws ≡ calls (country_of y) key.1 x.fields i = index (place g t p key.1) ∙ named_here i plan g ys t y p x key.1 e f h ∙ ap (λ b. b && calls (country_of y) key.1 x.fields i) real in
      split_on (is_of QLinkorientation key)
      (λ o. let d : is_of QDir key ≡ false = other QLinkorientation QDir key refl o in simp (o, d) (ap (λ b. cond b (1 - v) v) a))
      (λ o. simp o)

  pub turn-is : turned_in g0 (all_fields (among_after Flip ws) plan) ≡ effect (s, TurnGroup g0) i plan
  turn-is =
      each-each _ _ plan ∙ each-found tag_test _ _ plan sound.tags (λ g ys e. let sg = group_sound plan sound g ys e in
      group-is (same_tag g0 g) _ _ ys (each-found nat_test _ _ ys sg.tags (λ t y f. let sy = (placed ys sg t y f).sound in
      cond-parts (same_tag g0 g) (turned_head y.head) y.head y.padding (λ p x. turned (packet_fields (among_after Flip ws g t p) x)) (λ p x. packet_fields (among_after Flip ws g t p) x) y.packets (each-each _ _ y.packets)
      ∙ ap (λ h. parts h y.padding (each (λ p x. cond (same_tag g0 g) (turned (packet_fields (among_after Flip ws g t p) x)) (packet_fields (among_after Flip ws g t p) x)) y.packets)) (head-is g0 g t y.head (head_distinct y sy) (λ key n k o. header_once NPig y.head sy.header sy.numbered refl key n k o) (λ key n k o. header_once MDup y.head sy.header sy.numbered refl key n k o))
      ∙ ap (parts (each (head_after (TurnGroup g0) g t y.head) y.head) y.padding) (each-found tag_test _ _ y.packets sy.tags (λ p x h. let sx = packet_spelt y sy p x h in
      packet-is (same_tag g0 g) (among_after Flip ws g t p) (field_after (TurnGroup g0) i g t (country_of y) p x.fields) x (fields_distinct _ x sx) (λ key n k o. dir_once _ x sx key n k o) (λ n. refl) (λ key v j. field_is g ys t y p x e f h key v))))))
    where
      group-is : (b : Bool) (h k : ℕ → Telegram → Telegram) (ys : Group) → each (λ t y. cond b (turned_telegram (h t y)) (h t y)) ys ≡ each k ys → cond b (reverse (turned_telegrams (each h ys))) (each h ys) ≡ cond b (reverse (each k ys)) (each k ys)
      group-is true h k ys e = ap reverse (each-each _ _ ys ∙ e)
      group-is false h k ys e = e

      cond-parts : (b : Bool) (h k : Fields) (padding : List Bool) (F G : Tag → Packet → Packet) (ps : List (Tag × Packet)) {rs : List (Tag × Packet)} → rs ≡ each F ps → cond b (parts h padding rs) (parts k padding (each G ps)) ≡ parts (cond b h k) padding (each (λ p x. cond b (F p x) (G p x)) ps)
      cond-parts true h k padding F G ps e = ap (parts h padding) e
      cond-parts false h k padding F G ps e = refl
