-- From fields to packets, telegrams and the plan: a change taken back at each level is taken back as a whole.
-- From the changes of each item that undo one another, and from the country, which no edit changes.
-- Each kind of edit then shows its own fields, header or packets.
use Rattle.std.proofs.Common.{◌≡◌, ℕ, Bool, true, false, cond, List, Some, refl, ap, ◌∙◌}
use Rattle.balise_rules.specs.declared.tag.Tag.{Tag}
use Rattle.balise_rules.specs.declared.identity.Id.{Id}
use Rattle.balise_rules.specs.declared.variable.Var.TheVariants.{NidC}
use Rattle.balise_rules.specs.Tagged.{find, each, Distinct, changed}
use Rattle.balise_rules.specs.Tags.{Key, same_tag, same_key}
use Rattle.balise_rules.specs.Forms.{Fields}
use Rattle.balise_rules.specs.Packet.{Packet}
use Rattle.balise_rules.specs.Telegram.{Telegram}
use Rattle.balise_rules.specs.Plan.{Plan, country_of, telegram_at, IsSound}
use Rattle.balise_rules.specs.Accepting.{Lawful}
use Rattle.balise_rules.specs.Edits.{Edit, Item, field_after, packet_after, head_after, packets_change, telegram_after}
use Rattle.balise_rules.proofs.Tests.{tag_test, nat_test, key_test}
use Rattle.balise_rules.proofs.Each.{each-id, each-back}
use Rattle.balise_rules.proofs.Found.{group_sound}
use Rattle.balise_edit_laws.proofs.HeadChanges.{fixed_kept, country_fixed}

-- the fields of a packet, each changed by e and then by b
abbrev pub FieldsBack : Edit → Id → Edit → Id → Tag → ℕ → ℕ → Tag → Fields → Type 0
FieldsBack b j e i g t c p fs = (key : Key) → (n : ℕ) → find same_key key fs ≡ Some n → field_after b j g t c p (each (field_after e i g t c p fs) fs) key (field_after e i g t c p fs key n) ≡ n

pub packets-back : (b : Edit) → (j : Id) → (e : Edit) → (i : Id) → (g : Tag) → (t c : ℕ) → (ps : List (Tag × Packet)) → Distinct same_tag ps →
    ((p : Tag) → (x : Packet) → find same_tag p ps ≡ Some x → Distinct same_key x.fields × FieldsBack b j e i g t c p x.fields) →
    each (packet_after b j g t c) (each (packet_after e i g t c) ps) ≡ ps
packets-back b j e i g t c ps u h =
    each-back tag_test (packet_after b j g t c) (packet_after e i g t c) ps u
    (λ p x q. ap (λ fs. record { fields = fs; rest = x.rest }) (each-back key_test (field_after b j g t c p (each (field_after e i g t c p x.fields) x.fields)) (field_after e i g t c p x.fields) x.fields (h p x q).0 (h p x q).1))

abbrev pub HeadBack : Edit → Edit → Tag → ℕ → Fields → Type 0
HeadBack b e g t hs = (key : Key) → (n : ℕ) → find same_key key hs ≡ Some n → head_after b g t (each (head_after e g t hs) hs) key (head_after e g t hs key n) ≡ n

pub head-back : (b e : Edit) → (g : Tag) → (t : ℕ) → (hs : Fields) → Distinct same_key hs → HeadBack b e g t hs → each (head_after b g t (each (head_after e g t hs) hs)) (each (head_after e g t hs) hs) ≡ hs
head-back b e g t hs u h = each-back key_test (head_after b g t (each (head_after e g t hs) hs)) (head_after e g t hs) hs u h

pub telegram-back : (b : Item) → (j : Id) → (e : Item) → (i : Id) → Lawful e.1 → (g : Tag) → (t : ℕ) → (y : Telegram) →
    each (head_after b.1 g t (each (head_after e.1 g t y.head) y.head)) (each (head_after e.1 g t y.head) y.head) ≡ y.head →
    changed same_tag (packets_change b j g t (country_of y)) (changed same_tag (packets_change e i g t (country_of y)) y.packets) ≡ y.packets →
    telegram_after b j g t (telegram_after e i g t y) ≡ y
telegram-back b j e i l g t y heads packets =
    ap (λ c. record { head = each (head_after b.1 g t (each (head_after e.1 g t y.head) y.head)) (each (head_after e.1 g t y.head) y.head); packets = changed same_tag (packets_change b j g t c) (changed same_tag (packets_change e i g t (country_of y)) y.packets); padding = y.padding })
    (fixed_kept e.1 l NidC country_fixed g t y.head)
    ∙ ap (λ hs. record { head = hs; packets = changed same_tag (packets_change b j g t (country_of y)) (changed same_tag (packets_change e i g t (country_of y)) y.packets); padding = y.padding }) heads
    ∙ ap (λ ps. record { head = y.head; packets = ps; padding = y.padding }) packets

-- two changes of each telegram of a sound plan
pub telegrams-back : (plan : Plan) → IsSound plan → (f h : Tag → ℕ → Telegram → Telegram) → ((g : Tag) → (t : ℕ) → (y : Telegram) → telegram_at g t plan ≡ Some y → f g t (h g t y) ≡ y) →
    each (λ g ys. each (f g) ys) (each (λ g ys. each (h g) ys) plan) ≡ plan
telegrams-back plan s f h w =
    each-back tag_test (λ g ys. each (f g) ys) (λ g ys. each (h g) ys) plan s.tags
    (λ g ys q. each-back nat_test (f g) (h g) ys (group_sound plan s g ys q).tags (λ t y d. w g t y (simp q d)))

pub two-ids : (hs : Fields) → each (λ key n. n) (each (λ key n. n) hs) ≡ hs
two-ids hs = each-id (each (λ key n. n) hs) ∙ each-id hs

-- a value set and then set again to what it was
pub undo_set : (a : Bool) → (new old n : ℕ) → (a ≡ true → old ≡ n) → cond a old (cond a new n) ≡ n
undo_set true new old n h = h refl
undo_set false new old n h = refl
