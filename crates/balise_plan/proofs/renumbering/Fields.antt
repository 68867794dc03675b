-- Renumbering by the index is renumbering each field that names the identity.
use Rattle.std.proofs.Common.{◌≡◌, ℕ, Bool, true, false, cond, eqb, ◌&&◌, List, Some, refl, sym, ap, ◌∙◌}
use Rattle.std.specs.Prelude.{option_and_then}
use Rattle.balise_rules.specs.declared.tag.Tag.{Tag}
use Rattle.balise_rules.specs.declared.identity.Id.{Id}
use Rattle.balise_rules.specs.declared.variable.Var.TheVariants.{NidBg}
use Rattle.balise_rules.specs.Tagged.{find, each, Distinct}
use Rattle.balise_rules.specs.Tags.{Key, is_of, same_tag, same_key}
use Rattle.balise_rules.specs.Forms.{Fields}
use Rattle.balise_rules.specs.Packet.{Packet, with_value}
use Rattle.balise_rules.specs.Telegram.{Telegram}
use Rattle.balise_rules.specs.Plan.{Group, Plan, IsSound, country_of, telegram_at}
use Rattle.balise_rules.specs.Names.{is_real, is_it, calls, country_at}
use Rattle.balise_rules.specs.Edits.{effect, field_after, head_after}
use Rattle.balise_rules.specs.declared.tagged_edit.TaggedEdit.TheVariants.{Renumber}
use Rattle.balise_rules.proofs.Tests.{split_on, tag_test, nat_test, key_test, var_test}
use Rattle.balise_rules.proofs.Found.{group_sound, placed, packet_spelt, fields_distinct, head_distinct}
use Rattle.balise_edit_laws.proofs.Headers.{header_once}
use Rattle.balise_index.specs.declared.link_place.LinkPlace.{LinkPlace}
use Rattle.balise_plan.specs.declared.links.change.Change.TheVariants.{Name}
use Rattle.balise_plan.specs.Links.{named_at, named_in_telegram, named_in_packet}
use Rattle.balise_plan.specs.Walks.{renumbered_heads}
use Rattle.balise_plan.proofs.naming.Walking.{Keyed, among_after, place, all_fields, packet_fields, group_fields, parts, each-each, each-found, cond-each}
use Rattle.balise_index.specs.Places.{among}

pub keyed : (plan : Plan) → IsSound plan → Keyed plan
keyed plan s = record {
  tags = s.tags;
  groups = λ g ys e. let sg = group_sound plan s g ys e in record {
    tags = sg.tags;
    telegrams = λ t y f. let sy = (placed ys sg t y f).sound in record {
      tags = sy.tags;
      packets = λ p x h. record { fields = fields_distinct _ x (packet_spelt y sy p x h) };
    };
  };
}

-- the element at a place that stands
pub named_here : (i : Id) (plan : Plan) (g : Tag) (ys : Group) (t : ℕ) (y : Telegram) (p : Tag) (x : Packet) (k : ℕ) → find same_tag g plan ≡ Some ys → find eqb t ys ≡ Some y → find same_tag p y.packets ≡ Some x →
    named_at i (place g t p k) plan ≡ (is_real i && calls (country_of y) k x.fields i)
named_here i plan g ys t y p x k e f h =
    let here : telegram_at g t plan ≡ Some y = ap (option_and_then (find eqb t)) e ∙ f in
    ap (λ o. is_real i && named_in_telegram i (place g t p k) o) here ∙ ap (λ o. is_real i && named_in_packet (country_of y) i k o) h

of_is : (key : Key) → is_of NidBg key ≡ true → key ≡ (NidBg, key.1)
of_is key e = ap (λ x. (x, key.1)) (sym (var_test.one NidBg key.0 e))

-- an element with this field is of the identity exactly where the field says so
pub called : (c : ℕ) (fs : Fields) (i : Id) (key : Key) (v : ℕ) → find same_key key fs ≡ Some v → is_of NidBg key ≡ true → calls c key.1 fs i ≡ is_it (country_at c key.1 fs) i (Some v)
called c fs i key v e o = ap (is_it (country_at c key.1 fs) i) (ap (λ j. find same_key j fs) (sym (of_is key o)) ∙ e)

cond-when : (a b c : Bool) (n v : ℕ) → (a ≡ true → b ≡ c) → cond (a && b) n v ≡ cond (a && c) n v
cond-when true b c n v h = ap (λ d. cond d n v) (h refl)
cond-when false b c n v h = refl

cond-telegram : (b : Bool) (h k : Fields) (padding : List Bool) (ps : List (Tag × Packet)) → cond b (parts h padding ps) (parts k padding ps) ≡ parts (cond b h k) padding ps
cond-telegram true h k padding ps = refl
cond-telegram false h k padding ps = refl

module _ (s : ℕ) (g0 : Tag) (n : ℕ) (i : Id) (ws : List LinkPlace) (plan : Plan) (sound : IsSound plan) (real : is_real i ≡ true) (index : (w : LinkPlace) → among w ws ≡ named_at i w plan) where
  head_is : (g : Tag) (t : ℕ) (hs : Fields) → Distinct same_key hs → ((key : Key) (v : ℕ) → find same_key key hs ≡ Some v → is_of NidBg key ≡ true → key ≡ (NidBg, 0)) →
      cond (same_tag g0 g) (with_value NidBg 0 n hs) hs ≡ each (head_after (Renumber g0 n) g t hs) hs
  head_is g t hs u once =
      cond-each (same_tag g0 g) (λ key v. cond (same_key (NidBg, 0) key) n v) hs
      ∙ each-found key_test _ _ hs u (λ key v e.
      split_on (is_of NidBg key)
      (λ o. let q : eqb 0 key.1 ≡ true = ap (λ (j : Key). eqb 0 j.1) (once key v e o) in simp (o, q))
      (λ o. simp o (same_both (same_tag g0 g) v)))
    where
      same_both : (b : Bool) (v : ℕ) → cond b v v ≡ v
      same_both true v = refl
      same_both false v = refl

  field_is : (g : Tag) (ys : Group) (t : ℕ) (y : Telegram) (p : Tag) (x : Packet) → find same_tag g plan ≡ Some ys → find eqb t ys ≡ Some y → find same_tag p y.packets ≡ Some x →
      (key : Key) (v : ℕ) → find same_key key x.fields ≡ Some v → among_after (Name n) ws g t p key v ≡ field_after (Renumber g0 n) i g t (country_of y) p x.fields key v
  field_is g ys t y p x e f h key v j =
      cond-when (is_of NidBg key) (among (place g t p key.1) ws) (is_it (country_at (country_of y) key.1 x.fields) i (Some v)) n v
      (λ o. index (place g t p key.1) ∙ named_here i plan g ys t y p x key.1 e f h ∙ ap (λ b. b && calls (country_of y) key.1 x.fields i) real ∙ called (country_of y) x.fields i key v j o)

  pub renumber-is : renumbered_heads g0 n (all_fields (among_after (Name n) ws) plan) ≡ effect (s, Renumber g0 n) i plan
  renumber-is =
      each-each _ _ plan ∙ each-found tag_test _ _ plan sound.tags (λ g ys e. let sg = group_sound plan sound g ys e in
      ap (λ zs. cond (same_tag g0 g) zs (group_fields (among_after (Name n) ws g) ys)) (each-each _ _ ys)
      ∙ both (same_tag g0 g) _ _ ys
      ∙ each-found nat_test _ _ ys sg.tags (λ t y f. let sy = (placed ys sg t y f).sound in
      cond-telegram (same_tag g0 g) (with_value NidBg 0 n y.head) y.head y.padding (each (λ p x. packet_fields (among_after (Name n) ws g t p) x) y.packets)
      ∙ ap (λ h. parts h y.padding (each (λ p x. packet_fields (among_after (Name n) ws g t p) x) y.packets)) (head_is g t y.head (head_distinct y sy) (λ key v k o. header_once NidBg y.head sy.header sy.numbered refl key v k o))
      ∙ ap (parts (each (head_after (Renumber g0 n) g t y.head) y.head) y.padding) (each-found tag_test _ _ y.packets sy.tags (λ p x h.
      ap (λ (fs : Fields). record { fields = fs; rest = x.rest }) (each-found key_test _ _ x.fields (fields_distinct _ x (packet_spelt y sy p x h)) (λ key v j. field_is g ys t y p x e f h key v j))))))
    where
      both : (b : Bool) (f k : ℕ → Telegram → Telegram) (ys : Group) → cond b (each f ys) (each k ys) ≡ each (λ t y. cond b (f t y) (k t y)) ys
      both true f k ys = refl
      both false f k ys = refl
