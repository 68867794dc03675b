-- Words that were printed are read back: tags, anchors, neighbours, paths and names.
use Rattle.std.proofs.Common.{◌≡◌, ℕ, ◌<◌, ◌==◌, true, false, [], ◌∷◌, Option, Some, None, decimal, refl, arith}
use Rattle.balise_rules.specs.declared.tag.Tag.{Tag}
use Rattle.balise_rules.specs.declared.tag.Tag.TheVariants.{Base, Fresh}
use Rattle.balise_text.specs.Words.{Word, is_digit, all_digits}
use Rattle.balise_text.specs.Places.{tag_text, anchor_text, neighbour_text, telegram_path, packet_path, tag_of, anchor_of, neighbour_of, telegram_path_of, packet_path_of}
use Rattle.balise_text.specs.Laws.{IsNumber, IsTagNumber, IsSpot}
use Rattle.balise_text.proofs.Decimals.{digits_of_decimal, number_of_decimal}
use Rattle.balise_text.proofs.Marked.{lacks, all_lack, both, parts_marked}

-- No digit is a separator below `0`.
digits_lack : (mark : ℕ) (w : Word) → mark < 48 → all_digits w ≡ true → lacks mark w ≡ true
digits_lack mark [] m h = refl
digits_lack mark (b ∷ bs) m h =
    let p = both (is_digit b) (all_digits bs) h in
    let q : (b == mark) ≡ false = grind (arith, p.0) in
    rw (q, digits_lack mark bs m p.1) refl

decimal_lacks : (mark n : ℕ) → mark < 48 → IsNumber n → lacks mark (decimal n) ≡ true
decimal_lacks mark n m h = digits_lack mark (decimal n) m (digits_of_decimal n h)

letter_lacks : (mark b : ℕ) (w : Word) → mark < b → lacks mark w ≡ true → lacks mark (b ∷ w) ≡ true
letter_lacks mark b w m h = let q : (b == mark) ≡ false = grind arith in rw (q, h) refl

tag_lacks : (mark : ℕ) (g : Tag) → mark < 48 → IsTagNumber g → lacks mark (tag_text g) ≡ true
tag_lacks mark (Base n) m h = letter_lacks mark 98 (decimal n) (omega arith) (decimal_lacks mark n m h)
tag_lacks mark (Fresh n) m h = letter_lacks mark 110 (decimal n) (omega arith) (decimal_lacks mark n m h)

pub tag_read : (g : Tag) → IsTagNumber g → tag_of (tag_text g) ≡ Some g
tag_read (Base n) h = rw (number_of_decimal n h) refl
tag_read (Fresh n) h = rw (number_of_decimal n h) refl

pub anchor_read : (a : Option Tag) → IsSpot a → anchor_of (anchor_text a) ≡ Some a
anchor_read None h = refl
anchor_read (Some (Base n)) h = rw (number_of_decimal n h) refl
anchor_read (Some (Fresh n)) h = rw (number_of_decimal n h) refl

pub neighbour_read : (b : Option Tag) → IsSpot b → neighbour_of (neighbour_text b) ≡ Some b
neighbour_read None h = refl
neighbour_read (Some (Base n)) h = rw (number_of_decimal n h) refl
neighbour_read (Some (Fresh n)) h = rw (number_of_decimal n h) refl

-- Paths.

pub telegram_path_read : (g : Tag) (t : ℕ) → IsTagNumber g → IsNumber t → telegram_path_of (telegram_path g t) ≡ Some (g, t)
telegram_path_read g t h k =
    let lack : all_lack 47 (tag_text g ∷ decimal t ∷ []) ≡ true = rw (tag_lacks 47 g (omega arith) h, decimal_lacks 47 t (omega arith) k) refl in
    rw (parts_marked 47 (tag_text g) (decimal t ∷ []) lack, tag_read g h, number_of_decimal t k) refl

pub packet_path_read : (g : Tag) (t : ℕ) (p : Tag) → IsTagNumber g → IsNumber t → IsTagNumber p → packet_path_of (packet_path g t p) ≡ Some (g, t, p)
packet_path_read g t p h k l =
    let lack : all_lack 47 (tag_text g ∷ decimal t ∷ tag_text p ∷ []) ≡ true = rw (tag_lacks 47 g (omega arith) h, decimal_lacks 47 t (omega arith) k, tag_lacks 47 p (omega arith) l) refl in
    rw (parts_marked 47 (tag_text g) (decimal t ∷ tag_text p ∷ []) lack, tag_read g h, number_of_decimal t k, tag_read p l) refl
