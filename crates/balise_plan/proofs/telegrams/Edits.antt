-- Edits of one telegram: what each makes of it, and why each is refused.
use Rattle.std.proofs.Common.{◌≡◌, ℕ, Bool, true, false, cond, not, eqb, ◌&&◌, List, [], ◌∷◌, Option, Some, None, sym, ap, ◌∙◌, arith}
use Rattle.std.specs.Prelude.{option_and_then, is_none, nat_lt}
use Rattle.std.proofs.lemmas.Bool.{and_from}
use Rattle.balise_rules.specs.declared.tag.Tag.{Tag}
use Rattle.balise_rules.specs.declared.identity.Id.{Id}
use Rattle.balise_rules.specs.declared.refusal.Refusal.{Refusal}
use Rattle.balise_rules.specs.declared.refusal.Refusal.TheVariants.{NoSuchGroup, NoSuchTelegram, NoSuchPacket, NoSuchVariable, Steering, SamePlace, NoRoom}
use Rattle.balise_rules.specs.declared.variable.Var.{Var}
use Rattle.balise_rules.specs.Variables.{is_free_in_header, steers}
use Rattle.balise_rules.specs.Tagged.{find, each, stands, without, move, changed, Change, Each, Take, Move}
use Rattle.balise_rules.specs.Tags.{same_tag, same_key}
use Rattle.balise_rules.specs.Forms.{Fields}
use Rattle.balise_rules.specs.Packet.{Packet, field_of, width}
use Rattle.balise_rules.specs.Telegram.{Telegram, room}
use Rattle.balise_rules.specs.Plan.{Group, Plan, telegram_at}
use Rattle.balise_rules.specs.Doing.{refusal, first_of, when, no_group, no_telegram, too_wide, in_telegram, same_place}
use Rattle.balise_rules.specs.Back.{with_packets}
use Rattle.balise_rules.specs.Edits.{telegram_after, packet_after}
use Rattle.balise_rules.specs.declared.tagged_edit.TaggedEdit.TheVariants.{SetVar, SetHead, DeletePacket, MovePacket}
use Rattle.balise_rules.proofs.Tests.{split_on, tag_test, nat_test}
use Rattle.balise_rules.proofs.Found.{in_group}
use Rattle.balise_rules.proofs.Each.{each-id, each-same}
use Rattle.balise_telegram.specs.Setting.{with_field, with_head}
use Rattle.balise_telegram.specs.Moving.{same_place_before}
use Rattle.balise_index.specs.declared.spot.Spot.{Spot}
use Rattle.balise_index.specs.AtSpot.{spot_stands}
use Rattle.balise_plan.specs.Spots.{put_refusal}
use Rattle.balise_plan.proofs.fields.Levels.{set-packet}
use Rattle.balise_plan.proofs.naming.Walking.{parts}
use Rattle.balise_plan.proofs.naming.Walking as walking

rebuilt : (y : Telegram) (hs : Fields) (ps qs : List (Tag × Packet)) → hs ≡ y.head → ps ≡ qs → parts hs y.padding ps ≡ with_packets y qs
rebuilt y hs ps qs e d = ap (λ u. parts u y.padding ps) e ∙ ap (with_packets y) d

pub here : (g : Tag) (t : ℕ) → (same_tag g g && eqb t t) ≡ true
here g t = and_from (same_tag g g) (eqb t t) (tag_test.itself g) (nat_test.itself t)

module _ (own : Id) (g : Tag) (t : ℕ) where
  module _ (v : Var) (n : ℕ) where
    still : (h : Tag) (u c : ℕ) (ps : List (Tag × Packet)) → each (packet_after (SetHead g t v n) own h u c) ps ≡ ps
    still h u c ps = each-same _ ps (λ q x. ap (λ (fs : Fields). record { fields = fs; rest = x.rest }) (each-id x.fields))

    pub head-at : (y : Telegram) → with_head v n y ≡ telegram_after (0, SetHead g t v n) own g t y
    head-at y =
        ap (λ hs. parts hs y.padding y.packets) (walking.each-same _ _ y.head (λ key m. split_on (same_key (v, 0) key) (λ d. let k = here g t in simp (d, k)) (λ d. simp d)))
        ∙ ap (parts _ y.padding) (sym (still g t 0 y.packets))

    pub head-other : (h : Tag) (u : ℕ) (x : Telegram) → (same_tag g h && eqb t u) ≡ false → telegram_after (0, SetHead g t v n) own h u x ≡ x
    head-other h u x d = rebuilt x _ _ x.packets (each-same _ x.head (λ key m. split_on (same_key (v, 0) key) (λ e. simp (e, d)) (λ e. simp e))) (still h u 0 x.packets)

  pub set-at : (p : Tag) (v : Var) (k n : ℕ) (y : Telegram) → with_field p v k n y ≡ telegram_after (0, SetVar g t p v k n) own g t y
  set-at p v k n y =
      sym (rebuilt y _ _ (with_field p v k n y).packets (each-id y.head)
      (walking.each-same _ _ y.packets (λ q x. sym (set-packet 0 own g t p v k n g t 0 q x) ∙ within (same_tag g g) (eqb t t) (here g t) _ x)))
    where
      within : (a b : Bool) → (a && b) ≡ true → (z x : Packet) → cond a (cond b z x) x ≡ z
      within a b e z x = grind arith

  pub set-other : (p : Tag) (v : Var) (k n : ℕ) (h : Tag) (u : ℕ) (x : Telegram) → (same_tag g h && eqb t u) ≡ false → telegram_after (0, SetVar g t p v k n) own h u x ≡ x
  set-other p v k n h u x d =
      rebuilt x _ _ x.packets (each-id x.head)
      (each-same _ x.packets (λ q z. sym (set-packet 0 own g t p v k n h u 0 q z) ∙ without (same_tag g h) (eqb t u) d _ z))
    where
      without : (a b : Bool) → (a && b) ≡ false → (z x : Packet) → cond a (cond b z x) x ≡ x
      without a b e z x = grind arith

  taken : (b : Bool) → b ≡ true → (c : Change Tag Packet) (ps : List (Tag × Packet)) → changed same_tag (cond b c (Each (λ q x. x))) ps ≡ changed same_tag c ps
  taken b e c ps = ap (λ a. changed same_tag (cond a c (Each (λ q x. x))) ps) e

  left : (b : Bool) → b ≡ false → (c : Change Tag Packet) (ps : List (Tag × Packet)) → changed same_tag (cond b c (Each (λ q x. x))) ps ≡ ps
  left b e c ps = ap (λ a. changed same_tag (cond a c (Each (λ q x. x))) ps) e ∙ each-id ps

  pub delete-at : (p : Tag) (y : Telegram) → with_packets y (without same_tag p y.packets) ≡ telegram_after (0, DeletePacket g t p) own g t y
  delete-at p y = sym (rebuilt y _ _ (without same_tag p y.packets) (each-id y.head) (taken _ (here g t) (Take p) y.packets))

  pub delete-other : (p : Tag) (h : Tag) (u : ℕ) (x : Telegram) → (same_tag g h && eqb t u) ≡ false → telegram_after (0, DeletePacket g t p) own h u x ≡ x
  delete-other p h u x d = rebuilt x _ _ x.packets (each-id x.head) (left _ d (Take p) x.packets)

  pub move-at : (p : Tag) (a : Option Tag) (y : Telegram) → with_packets y (move same_tag p a y.packets) ≡ telegram_after (0, MovePacket g t p a) own g t y
  move-at p a y = sym (rebuilt y _ _ (move same_tag p a y.packets) (each-id y.head) (taken _ (here g t) (Move p a) y.packets))

  pub move-other : (p : Tag) (a : Option Tag) (h : Tag) (u : ℕ) (x : Telegram) → (same_tag g h && eqb t u) ≡ false → telegram_after (0, MovePacket g t p a) own h u x ≡ x
  move-other p a h u x d = rebuilt x _ _ x.packets (each-id x.head) (left _ d (Move p a) x.packets)

-- ---- refusals, by whether the group lacks and by the telegram

abbrev pub heads : Var → ℕ → Bool → Option Telegram → Option Refusal
heads v n none o = first_of (when none NoSuchGroup ∷ when (is_none o) NoSuchTelegram ∷ when (in_telegram o (λ y. is_none (field_of v 0 y.head))) NoSuchVariable ∷ when (not (is_free_in_header v)) Steering ∷ too_wide v n ∷ [])

abbrev pub sets : Tag → Var → ℕ → ℕ → Bool → Option Telegram → Option Refusal
sets p v k n none o = first_of (when none NoSuchGroup ∷ when (is_none o) NoSuchTelegram ∷ when (is_none (option_and_then (λ (y : Telegram). find same_tag p y.packets) o)) NoSuchPacket
    ∷ when (is_none (option_and_then (λ (x : Packet). field_of v k x.fields) (option_and_then (λ (y : Telegram). find same_tag p y.packets) o))) NoSuchVariable ∷ when (steers v) Steering ∷ too_wide v n ∷ [])

abbrev pub deletes : Tag → Bool → Option Telegram → Option Refusal
deletes p none o = first_of (when none NoSuchGroup ∷ when (is_none o) NoSuchTelegram ∷ when (is_none (option_and_then (λ (y : Telegram). find same_tag p y.packets) o)) NoSuchPacket ∷ [])

abbrev pub moves : Tag → Option Tag → Bool → Option Telegram → Option Refusal
moves p a none o = first_of (when none NoSuchGroup ∷ when (is_none o) NoSuchTelegram ∷ when (is_none (option_and_then (λ (y : Telegram). find same_tag p y.packets) o)) NoSuchPacket
    ∷ when (in_telegram o (λ y. not (stands same_tag a y.packets))) NoSuchPacket ∷ when (in_telegram o (same_place p a)) SamePlace ∷ [])

abbrev pub puts : Spot Tag → Packet → Bool → Option Telegram → Option Refusal
puts s x none o = first_of (when none NoSuchGroup ∷ when (is_none o) NoSuchTelegram ∷ when (in_telegram o (λ y. not (spot_stands s y.packets))) NoSuchPacket
    ∷ when (in_telegram o (λ y. nat_lt (room y) (width x))) NoRoom ∷ [])

abbrev pub moves-before : Tag → Option Tag → Bool → Option Telegram → Option Refusal
moves-before p n none o = first_of (when none NoSuchGroup ∷ when (is_none o) NoSuchTelegram ∷ when (is_none (option_and_then (λ (y : Telegram). find same_tag p y.packets) o)) NoSuchPacket
    ∷ when (in_telegram o (λ y. not (stands same_tag n y.packets))) NoSuchPacket ∷ when (in_telegram o (same_place_before p n)) SamePlace ∷ [])

abbrev pub misses : Bool → Option Telegram → Option Refusal
misses none o = first_of (when none NoSuchGroup ∷ when (is_none o) NoSuchTelegram ∷ [])

-- what is the first of two refusals is the first of more
pub first-more : (a b : Option Refusal) (rs : List (Option Refusal)) (e : Refusal) → first_of (a ∷ b ∷ []) ≡ Some e → first_of (a ∷ b ∷ rs) ≡ Some e
first-more (Some x) b rs e h = h
first-more None (Some y) rs e h = h
first-more None None rs e h = absurd cc

module _ (g : Tag) (t : ℕ) (plan : Plan) (ys : Group) (group : find same_tag g plan ≡ Some ys) where
  by-telegram-of : (r : Bool → Option Telegram → Option Refusal) (o : Option Telegram) → telegram_at g t plan ≡ o → r (is_none (find same_tag g plan)) (telegram_at g t plan) ≡ r false o
  by-telegram-of r o e = ap (λ b. r b (telegram_at g t plan)) (ap is_none group) ∙ ap (r false) e

  pub missing : (o : Option Telegram) → telegram_at g t plan ≡ o → first_of (no_group g plan ∷ no_telegram g t plan ∷ []) ≡ misses false o
  missing = by-telegram-of misses

  pub set-refused : (p : Tag) (v : Var) (k n : ℕ) (o : Option Telegram) → telegram_at g t plan ≡ o → refusal (SetVar g t p v k n) plan ≡ sets p v k n false o
  set-refused p v k n = by-telegram-of (sets p v k n)

  pub put-refused : (s : Spot Tag) (x : Packet) (o : Option Telegram) → telegram_at g t plan ≡ o → put_refusal g t s x plan ≡ puts s x false o
  put-refused s x = by-telegram-of (puts s x)

-- where the telegram stands, its group does too
pub standing : (g : Tag) (t : ℕ) (plan : Plan) (r : Bool → Option Telegram → Option Refusal) (y : Telegram) → telegram_at g t plan ≡ Some y → r (is_none (find same_tag g plan)) (telegram_at g t plan) ≡ r false (Some y)
standing g t plan r y s = let i = in_group g t plan y s in by-telegram-of g t plan i.group i.has_group r (Some y) s
