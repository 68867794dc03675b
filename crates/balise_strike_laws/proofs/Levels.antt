-- From packets to telegrams, groups and the plan: two edits within the groups make the same in both orders.
-- Proves it level by level, from what has to be apart at each.
-- From the fields of packets and headers, and the changes of a list of packets.
use Rattle.std.proofs.Common.{◌≡◌, ℕ, Bool, true, false, cond, eqb, List, Some, refl, sym, ap, ◌∙◌, ◌&&◌}
use Rattle.balise_rules.specs.declared.tag.Tag.{Tag}
use Rattle.balise_rules.specs.declared.identity.Id.{Id}
use Rattle.balise_rules.specs.Tagged.{find, each, Distinct, Change, Each, Put, changed}
use Rattle.balise_rules.specs.Tags.{same_tag, same_key}
use Rattle.balise_rules.specs.Forms.{Fields}
use Rattle.balise_rules.specs.Packet.{Packet}
use Rattle.balise_rules.specs.Telegram.{Telegram}
use Rattle.balise_rules.specs.Plan.{Group, Plan, country_of}
use Rattle.balise_rules.specs.Edits.{Edit, Item, effect, group_after, groups_change, in_order, telegram_after, packet_after, field_after, head_after, packets_change}
use Rattle.balise_rules.specs.declared.tagged_edit.TaggedEdit.TheVariants.{AddGroup, DropGroup, TurnGroup}
use Rattle.balise_rules.proofs.Tests.{split_on, tag_test, nat_test, key_test}
use Rattle.balise_rules.proofs.Reversed.{each-reverse}
use Rattle.balise_rules.proofs.Each.{each-each}
use Rattle.balise_rules.proofs.Untouched.{KeepsFields}
use Rattle.balise_rules.specs.declared.variable.Var.TheVariants.{NidC}
use Rattle.balise_strike_laws.proofs.Changes.{ChangesApart, changes-commute}
use Rattle.balise_strike_laws.proofs.Fields.{FieldApart, field_commute}
use Rattle.balise_strike_laws.proofs.Headers.{SteadyHead, HeadApart, head-commute, country-kept}

abbrev pub set_fields : List Bool → Fields → Packet
set_fields r fs = record { fields = fs; rest = r }

pub packet-commute : (e : Edit) → (i : Id) → (f : Edit) → (j : Id) → KeepsFields e NidC → KeepsFields f NidC → (g : Tag) → (t : ℕ) → (c : ℕ) → (p : Tag) → (x : Packet) →
    Distinct same_key x.fields → FieldApart e i f j g t c p x.fields →
    packet_after e i g t c p (packet_after f j g t c p x) ≡ packet_after f j g t c p (packet_after e i g t c p x)
packet-commute e i f j s r g t c p x u n =
    ap (set_fields x.rest)
    (each-each key_test (field_after e i g t c p (each (field_after f j g t c p x.fields) x.fields)) (field_after f j g t c p x.fields)
    (field_after f j g t c p (each (field_after e i g t c p x.fields) x.fields)) (field_after e i g t c p x.fields) x.fields u
    (λ key v h. field_commute e i f j s r g t c p x.fields n key v))

abbrev pub telegram_of : List Bool → Fields → List (Tag × Packet) → Telegram
telegram_of b hs ps = record { head = hs; packets = ps; padding = b }

-- what has to be apart in one telegram
abbrev pub TelegramApart : Item → Id → Item → Id → Tag → ℕ → Telegram → Type 0
TelegramApart e i f j g t x = HeadApart e.1 f.1 × ChangesApart (packets_change e i g t (country_of x)) (packets_change f j g t (country_of x)) x.packets × Distinct same_key x.head × Distinct same_tag x.packets

pub telegram-commute : (e : Item) → (i : Id) → (f : Item) → (j : Id) → SteadyHead e.1 → SteadyHead f.1 → (g : Tag) → (t : ℕ) → (x : Telegram) →
    TelegramApart e i f j g t x →
    telegram_after e i g t (telegram_after f j g t x) ≡ telegram_after f j g t (telegram_after e i g t x)
telegram-commute e i f j s r g t x n =
    rw (country-kept e.1 s g t x.head, country-kept f.1 r g t x.head)
    (ap (λ hs. telegram_of x.padding hs (changed same_tag (packets_change e i g t (country_of x)) (changed same_tag (packets_change f j g t (country_of x)) x.packets)))
    (each-each key_test (head_after e.1 g t (each (head_after f.1 g t x.head) x.head)) (head_after f.1 g t x.head)
    (head_after f.1 g t (each (head_after e.1 g t x.head) x.head)) (head_after e.1 g t x.head) x.head n.2 (λ key v h. head-commute e.1 f.1 s r g t x.head n.0 key v))
    ∙ ap (telegram_of x.padding (each (head_after f.1 g t (each (head_after e.1 g t x.head) x.head)) (each (head_after e.1 g t x.head) x.head)))
    (changes-commute (packets_change e i g t (country_of x)) (packets_change f j g t (country_of x)) x.packets n.3 n.1))

pub each-order : (h : ℕ → Telegram → Telegram) → (e : Edit) → (g : Tag) → (xs : Group) → each h (in_order e g xs) ≡ in_order e g (each h xs)
each-order h (TurnGroup g0) g xs = split_on (same_tag g0 g) (λ e. simp e (each-reverse h xs)) (λ e. simp e)
each-order h e g xs = refl

pub order-order : (e f : Edit) → (g : Tag) → (xs : Group) → in_order e g (in_order f g xs) ≡ in_order f g (in_order e g xs)
order-order (TurnGroup g0) (TurnGroup g1) g xs = split_on (same_tag g0 g) (λ e. split_on (same_tag g1 g) (λ d. simp (e, d)) (λ d. simp (e, d))) (λ e. simp e)
order-order e f g xs = refl

pub group-commute : (e : Item) → (i : Id) → (f : Item) → (j : Id) → SteadyHead e.1 → SteadyHead f.1 → (g : Tag) → (xs : Group) → Distinct eqb xs →
    ((t : ℕ) → (x : Telegram) → find eqb t xs ≡ Some x → TelegramApart e i f j g t x) →
    group_after e i g (group_after f j g xs) ≡ group_after f j g (group_after e i g xs)
group-commute e i f j s r g xs u n =
    ap (in_order e.1 g) (each-order (telegram_after e i g) f.1 g (each (telegram_after f j g) xs))
    ∙ ap (λ l. in_order e.1 g (in_order f.1 g l)) (each-each nat_test (telegram_after e i g) (telegram_after f j g) (telegram_after f j g) (telegram_after e i g) xs u
    (λ t x h. telegram-commute e i f j s r g t x (n t x h)))
    ∙ order-order e.1 f.1 g (each (telegram_after f j g) (each (telegram_after e i g) xs))
    ∙ ap (in_order f.1 g) (sym (each-order (telegram_after f j g) e.1 g (each (telegram_after e i g) xs)))

-- an edit within the groups
abbrev pub Inner : Edit → Type 0
Inner (AddGroup a bs) = ⊥
Inner (DropGroup g) = ⊥
Inner e = Unit {0}

pub inner-change : (e : Item) → Inner e.1 → (i : Id) → groups_change e i ≡ Each (group_after e i)
inner-change (s, AddGroup a bs) h i = absurd h
inner-change (s, DropGroup g) h i = absurd h
inner-change (s, e) h i = refl

pub inner-effect : (e : Item) → Inner e.1 → (i : Id) → (plan : Plan) → effect e i plan ≡ each (group_after e i) plan
inner-effect e h i plan = ap (λ a. changed same_tag a plan) (inner-change e h i)

-- two edits within the groups commute
pub inner-commute : (e : Item) → (i : Id) → (f : Item) → (j : Id) → Inner e.1 → Inner f.1 → SteadyHead e.1 → SteadyHead f.1 → (plan : Plan) → Distinct same_tag plan →
    ((g : Tag) → (xs : Group) → find same_tag g plan ≡ Some xs → Distinct eqb xs × ((t : ℕ) → (x : Telegram) → find eqb t xs ≡ Some x → TelegramApart e i f j g t x)) →
    effect e i (effect f j plan) ≡ effect f j (effect e i plan)
inner-commute e i f j he hf s r plan u n =
    rw (inner-effect e he i (effect f j plan), inner-effect f hf j plan, inner-effect f hf j (effect e i plan), inner-effect e he i plan)
    (each-each tag_test (group_after e i) (group_after f j) (group_after f j) (group_after e i) plan u
    (λ g xs h. group-commute e i f j s r g xs (n g xs h).0 (n g xs h).1))

-- a change in one place and one in another
abbrev pub keep : {A : Type 0} → Change Tag A
keep = Each (λ t x. x)

-- what holds of keep, and of x where it is made, holds of it there
pub here : {A : Type 0} → (P : Change Tag A → Type 0) → (b d : Bool) → (x : Change Tag A) → P keep → (b ≡ true → d ≡ true → P x) → P (cond (b && d) x keep)
here P true true x k h = h refl refl
here P b d x k h = k

pub keep-left : {A : Type 0} → (y : Change Tag A) → (xs : List (Tag × A)) → ChangesApart keep y xs
keep-left (Each f) xs = λ t x h. refl
keep-left (Put a z) xs = refl
keep-left y xs = tt

pub keep-right : {A : Type 0} → (y : Change Tag A) → (xs : List (Tag × A)) → ChangesApart y keep xs
keep-right (Each f) xs = λ t x h. refl
keep-right (Put a z) xs = refl
keep-right y xs = tt

pub apart-here : {A : Type 0} → (b c : Bool) → (x y : Change Tag A) → (xs : List (Tag × A)) → (b ≡ true → c ≡ true → ChangesApart x y xs) →
    ChangesApart (cond b x keep) (cond c y keep) xs
apart-here true true x y xs h = h refl refl
apart-here true false x y xs h = keep-right x xs
apart-here false c x y xs h = keep-left (cond c y keep) xs

pub apart-each-here : {A : Type 0} → (c : Bool) → (f : Tag → A → A) → (y : Change Tag A) → (xs : List (Tag × A)) → (c ≡ true → ChangesApart (Each f) y xs) →
    ChangesApart (Each f) (cond c y keep) xs
apart-each-here true f y xs h = h refl
apart-each-here false f y xs h = keep-right (Each f) xs

pub apart-here-each : {A : Type 0} → (c : Bool) → (f : Tag → A → A) → (y : Change Tag A) → (xs : List (Tag × A)) → (c ≡ true → ChangesApart y (Each f) xs) →
    ChangesApart (cond c y keep) (Each f) xs
apart-here-each true f y xs h = h refl
apart-here-each false f y xs h = keep-left (Each f) xs
