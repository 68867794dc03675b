-- Words that are printed hold no byte below `$`, 36: neither a space nor a line feed.
use Rattle.std.proofs.Common.{◌≡◌, ℕ, zero, suc, ◌<◌, ◌==◌, ◌&&◌, not, Bool, true, false, List, [], ◌∷◌, ◌++◌, Option, Some, None, decimal, All, length, get_or, refl, arith}
use Rattle.std.specs.Prelude.{◌≢◌, nat_le}
use Rattle.std.proofs.lemmas.Grind.{common_steps}
use Rattle.balise_rules.specs.declared.tag.Tag.{Tag}
use Rattle.balise_rules.specs.declared.tag.Tag.TheVariants.{Base, Fresh}
use Rattle.balise_rules.specs.declared.variable.Var.{Var}
use Rattle.balise_rules.specs.Variables.{name_of}
use Rattle.balise_rules.proofs.EachVariable.{each_variable}
use Rattle.balise_text.specs.Texts.{behind_marks, with_marks}
use Rattle.balise_text.specs.Words.{Word, is_digit, all_digits}
use Rattle.balise_text.specs.Places.{tag_text, anchor_text, neighbour_text, telegram_path, packet_path}
use Rattle.balise_text.specs.Laws.{IsNumber, IsTagNumber, IsSpot}
use Rattle.balise_text.proofs.Decimals.{digits_of_decimal}
use Rattle.balise_text.proofs.Marked.{lacks, lacks-append, both, all_lack}

abbrev pub is_high : Word → Bool
is_high [] = true
is_high (b ∷ bs) = nat_le 36 b && is_high bs

abbrev pub AllHigh : List Word → Type 0
AllHigh [] = Unit {0}
AllHigh (w ∷ ws) = (is_high w ≡ true) × AllHigh ws

pub high-append : (v w : Word) → is_high v ≡ true → is_high w ≡ true → is_high (v ++ w) ≡ true
high-append [] w p q = q
high-append (b ∷ bs) w p q = let h = both (nat_le 36 b) (is_high bs) p in rw (h.0, high-append bs w h.1 q) refl

pub all_high-append : (vs ws : List Word) → AllHigh vs → AllHigh ws → AllHigh (vs ++ ws)
all_high-append [] ws p q = q
all_high-append (v ∷ vs) ws p q = (p.0, all_high-append vs ws p.1 q)

-- a separator below `$` stands in no such word
pub high_lacks : (mark : ℕ) (w : Word) → mark < 36 → is_high w ≡ true → lacks mark w ≡ true
high_lacks mark [] m h = refl
high_lacks mark (b ∷ bs) m h =
    let p = both (nat_le 36 b) (is_high bs) h in
    let q : (b == mark) ≡ false = grind (arith, p.0) in
    rw (q, high_lacks mark bs m p.1) refl

pub all_high_lack : (mark : ℕ) (ws : List Word) → mark < 36 → AllHigh ws → all_lack mark ws ≡ true
all_high_lack mark [] m h = refl
all_high_lack mark (w ∷ ws) m h = rw (high_lacks mark w m h.0, all_high_lack mark ws m h.1) refl

-- What is printed.

digits_high : (w : Word) → all_digits w ≡ true → is_high w ≡ true
digits_high [] h = refl
digits_high (b ∷ bs) h =
    let p = both (is_digit b) (all_digits bs) h in
    let q : nat_le 36 b ≡ true = grind (arith, p.0) in
    rw (q, digits_high bs p.1) refl

pub decimal_high : (n : ℕ) → IsNumber n → is_high (decimal n) ≡ true
decimal_high n h = digits_high (decimal n) (digits_of_decimal n h)

pub name_high : (v : Var) → is_high (name_of v) ≡ true
unfolding name_of
name_high v = each_variable (λ w. is_high (name_of w)) refl v

pub tag_high : (g : Tag) → IsTagNumber g → is_high (tag_text g) ≡ true
tag_high (Base n) h = decimal_high n h
tag_high (Fresh n) h = decimal_high n h

pub anchor_high : (a : Option Tag) → IsSpot a → is_high (anchor_text a) ≡ true
anchor_high None h = refl
anchor_high (Some a) h = tag_high a h

pub neighbour_high : (b : Option Tag) → IsSpot b → is_high (neighbour_text b) ≡ true
neighbour_high None h = refl
neighbour_high (Some b) h = tag_high b h

pub telegram_path_high : (g : Tag) (t : ℕ) → IsTagNumber g → IsNumber t → is_high (telegram_path g t) ≡ true
telegram_path_high g t h k = high-append (tag_text g) _ (tag_high g h) (high-append (decimal t) [] (decimal_high t k) refl)

pub packet_path_high : (g : Tag) (t : ℕ) (p : Tag) → IsTagNumber g → IsNumber t → IsTagNumber p → is_high (packet_path g t p) ≡ true
packet_path_high g t p h k l = high-append (tag_text g) _ (tag_high g h) (high-append (decimal t) _ (decimal_high t k) (high-append (tag_text p) [] (tag_high p l) refl))

-- One line.

behind_lacks : (ws : List Word) → AllHigh ws → lacks 10 (behind_marks 32 ws) ≡ true
behind_lacks [] h = refl
behind_lacks (w ∷ ws) h = lacks-append 10 w (behind_marks 32 ws) (high_lacks 10 w (omega arith) h.0) (behind_lacks ws h.1)

line_lacks : (ws : List Word) → AllHigh ws → lacks 10 (with_marks 32 ws) ≡ true
line_lacks [] h = refl
line_lacks (w ∷ ws) h = lacks-append 10 w (behind_marks 32 ws) (high_lacks 10 w (omega arith) h.0) (behind_lacks ws h.1)

none_at : (mark : ℕ) (w : Word) → lacks mark w ≡ true → (k d : ℕ) → k < length w → get_or w k d ≢ mark
none_at mark [] h k d l = absurd (omega arith)
none_at mark (b ∷ bs) h zero d l = λ e. let p = both (not (b == mark)) (lacks mark bs) h in absurd (grind (arith, common_steps, p.0, e))
none_at mark (b ∷ bs) h (suc k) d l = let p = both (not (b == mark)) (lacks mark bs) h in none_at mark bs p.1 k d (omega (arith, l))

none_is : (mark : ℕ) (w : Word) → lacks mark w ≡ true → All (λ b. b ≢ mark) w
none_is mark w h = λ k d l. none_at mark w h k d l

pub one_line : (ws : List Word) → AllHigh ws → All (λ b. b ≢ 10) (with_marks 32 ws)
one_line ws h = none_is 10 (with_marks 32 ws) (line_lacks ws h)
