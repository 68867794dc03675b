-- A telegram turned, step by step as the code does it.
use Rattle.std.proofs.Common.{◌≡◌, ◌-◌, ◌<◌, ℕ, zero, suc, Bool, true, false, not, ◌&&◌, ◌||◌, eqb, [], ◌∷◌, length, get_or, Option, Some, None, Result, Ok, Err, refl, sym, ap, subst, ◌∙◌, arith}
use Rattle.std.specs.Option.{option_map}
use Rattle.std.specs.Prelude.{is_none, unwrap_or, nat_lt}
use Rattle.std.proofs.lemmas.Bool.{true≢false}
use borrow.Author.Tests.{lt-ltb}
use Rattle.balise_rules.specs.declared.refusal.Refusal.TheVariants.{NoSuchVariable, ValueTooWide}
use Rattle.balise_rules.specs.Doing.{first_of, when}
use Rattle.balise_rules.specs.declared.variable.Var.TheVariants.{NPig, NTotal, MDup}
use Rattle.balise_rules.specs.Variables.{width_of, is_free_in_header}
use Rattle.balise_rules.specs.Forms.{Fields}
use Rattle.balise_rules.specs.Packet.{value, field_of, with_value}
use Rattle.balise_rules.specs.Telegram.{Telegram}
use Rattle.balise_rules.specs.Plan.{Group}
use Rattle.balise_rules.proofs.Tests.{key_test}
use Rattle.balise_rules.proofs.Lists.{find-each}
use Rattle.balise_telegram.specs.declared.fault.TelegramFault.{TelegramFault}
use Rattle.balise_telegram.specs.Setting.{SetsHead, with_head, fields_refusal}
use Rattle.balise_plan.specs.Walks.{FitsTotals}
use Rattle.balise_plan.specs.Turned.{with_turned_head}
use Rattle.balise_telegram.proofs.Turning.{each_to}

-- M_DUP is set where it is 1 or 2
not_refused : (hs gs : Fields) (n d : ℕ) → gs ≡ with_value NPig 0 n hs → value MDup 0 hs ≡ d → (eqb d 1 || eqb d 2) ≡ true → fields_refusal MDup (3 - d) gs ≡ None
unfolding width_of is_free_in_header
not_refused hs gs n d e v b = by (field_of MDup 0 hs) refl
  where
    by : (o : Option ℕ) → field_of MDup 0 hs ≡ o → fields_refusal MDup (3 - d) gs ≡ None
    by None q = absurd (let z : d ≡ 0 = sym v ∙ ap (λ x. unwrap_or x 0) q in true≢false (sym b ∙ ap (λ x. eqb x 1 || eqb x 2) z))
    by (Some m) q =
        let there : field_of MDup 0 gs ≡ Some m = ap (field_of MDup 0) e ∙ find-each key_test _ (MDup, 0) hs ∙ ap (option_map _) q in
        let wide : nat_lt (3 - d) 4 ≡ true = lt-ltb (3 - d) 4 (omega arith) in
        ap (λ o. first_of (when (is_none o) NoSuchVariable ∷ None ∷ when (not (nat_lt (3 - d) 4)) ValueTooWide ∷ [])) there ∙ ap (λ x. first_of (None ∷ None ∷ when (not x) ValueTooWide ∷ [])) wide

pub head_turned : (y y1 y2 : Telegram) (r : Result ℕ TelegramFault) (place last d : ℕ) → place ≡ value NPig 0 y.head → last ≡ value NTotal 0 y.head → d ≡ value MDup 0 y.head → (eqb d 1 || eqb d 2) ≡ true →
    y1 ≡ with_head NPig (last - place) y → SetsHead MDup (3 - d) y1 r y2 → y2 ≡ with_turned_head y
head_turned y y1 y2 (Err f) place last d p l e b w s = absurd (let z = sym s.0 ∙ not_refused y.head y1.head (last - place) d (ap (λ (x : Telegram). x.head) w) (sym e) b in cc)
head_turned y y1 y2 (Ok was) place last d p l e b w s =
    let q : (eqb (value MDup 0 y.head) 1 || eqb (value MDup 0 y.head) 2) ≡ true = ap (λ x. eqb x 1 || eqb x 2) (sym e) ∙ b in
    s.2 ∙ rw (w, e, l, p, q) refl

pub head_left : (y y1 : Telegram) (place last d : ℕ) → place ≡ value NPig 0 y.head → last ≡ value NTotal 0 y.head → d ≡ value MDup 0 y.head → (eqb d 1 || eqb d 2) ≡ false → y1 ≡ with_head NPig (last - place) y → y1 ≡ with_turned_head y
head_left y y1 place last d p l e b w =
    let q : (eqb (value MDup 0 y.head) 1 || eqb (value MDup 0 y.head) 2) ≡ false = ap (λ x. eqb x 1 || eqb x 2) (sym e) ∙ b in
    w ∙ rw (l, p, q) refl

-- ---- packets, one after another

pub marked : (a b : Bool) → (not a && not b) ≡ false → (a || b) ≡ true
marked a b e = grind arith

pub unmarked : (a b : Bool) → (not a && not b) ≡ true → (a || b) ≡ false
unmarked a b e = grind arith

pub totals_at : (f : ℕ → Telegram → Telegram) (i : ℕ) (xs : Group) (d : ℕ × Telegram) → FitsTotals xs → i < length xs → d ≡ get_or (each_to f i xs) i d → value NTotal 0 d.1.head < 8
totals_at f i [] d u h e = absurd (omega (arith, h))
totals_at f zero (y ∷ ys) d u h e = subst (λ (z : ℕ × Telegram). value NTotal 0 z.1.head < 8) (sym e) u.0
totals_at f (suc i) (y ∷ ys) d u h e = totals_at f i ys d u.1 (omega (arith, h)) e
