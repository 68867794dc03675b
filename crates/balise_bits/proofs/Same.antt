-- Packed bytes are the same where their bits are.
use Rattle.std.proofs.Common.{◌≡◌, ℕ, suc, ◌<◌, Bool, List, [], ◌∷◌, ◌++◌, length, take, drop, get_or, refl, sym, ap, ◌∙◌, arith}
use Rattle.std.proofs.lemmas.List.{take_at, drop_at}
use Rattle.balise_rules.specs.Bits.{num, bits, zeros}
use Rattle.balise_rules.specs.Digits.{fill}
use Rattle.balise_rules.proofs.Numbers.{length-bits, num-bits_fit}
use Rattle.balise_bits.specs.Bytes.{flat, IsPacked}
use Rattle.balise_bits.proofs.Flat.{flat-cons, length-flat}
use Rattle.balise_bits.proofs.Packing.{length-view, flat-view}

same_byte : (x y : ℕ) → x < 256 → y < 256 → bits 8 x ≡ bits 8 y → x ≡ y
same_byte x y hx hy e = sym (num-bits_fit 8 x hx) ∙ ap num e ∙ num-bits_fit 8 y hy

pub flat_injective : (a b : List ℕ) → ((i : ℕ) → get_or a i 0 < 256) → ((i : ℕ) → get_or b i 0 < 256) → flat a ≡ flat b → a ≡ b
flat_injective [] [] ha hb e = refl
flat_injective [] (y ∷ b) ha hb e = absurd (omega (arith, ap length e, length-flat [], length-flat (y ∷ b)))
flat_injective (x ∷ a) [] ha hb e = absurd (omega (arith, ap length e, length-flat [], length-flat (x ∷ a)))
flat_injective (x ∷ a) (y ∷ b) ha hb e =
    let split : bits 8 x ++ flat a ≡ bits 8 y ++ flat b = sym (flat-cons x a) ∙ e ∙ flat-cons y b in
    let first : bits 8 x ≡ bits 8 y = sym (take_at (bits 8 x) (flat a) 8 (length-bits 8 x)) ∙ ap (take 8) split ∙ take_at (bits 8 y) (flat b) 8 (length-bits 8 y) in
    let rest : flat a ≡ flat b = sym (drop_at (bits 8 x) (flat a) 8 (length-bits 8 x)) ∙ ap (drop 8) split ∙ drop_at (bits 8 y) (flat b) 8 (length-bits 8 y) in
    ap (λ (v : ℕ). v ∷ a) (same_byte x y (ha 0) (hb 0) first) ∙ ap (λ (l : List ℕ). y ∷ l) (flat_injective a b (λ i. ha (suc i)) (λ i. hb (suc i)) rest)

-- the same bits, and the same number of them: all bits of the bytes are the same
pub flat_from_view : (a b : ℕ) (xs ys : List ℕ) → IsPacked a xs → IsPacked b ys → a ≡ b → take a (flat xs) ≡ take b (flat ys) → flat xs ≡ flat ys
flat_from_view a b xs ys p q len view =
    flat-view a xs p ∙ ap (λ (l : List Bool). l ++ zeros (fill a)) view ∙ ap (λ (k : ℕ). take b (flat ys) ++ zeros (fill k)) len ∙ sym (flat-view b ys q)

pub len_from_view : (a b : ℕ) (xs ys : List ℕ) → IsPacked a xs → IsPacked b ys → take a (flat xs) ≡ take b (flat ys) → a ≡ b
len_from_view a b xs ys p q view = sym (length-view a xs p) ∙ ap length view ∙ length-view b ys q
