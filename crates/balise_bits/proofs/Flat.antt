-- The bits of bytes: joined, cut at a byte, counted, and as a number.
use Rattle.std.proofs.Common.{◌≡◌, ℕ, zero, suc, ◌+◌, ◌*◌, ◌<◌, ◌≤◌, Bool, true, false, List, [], ◌∷◌, ◌++◌, length, take, drop, get_or, replicate, refl, sym, ap, ◌∙◌, arith, length-append}
use Rattle.std.proofs.lemmas.List.{append-nil, take_at, drop_at, take-append-drop, length-take, length-drop, take_more, take_all}
use Rattle.std.proofs.lemmas.Grind.{flat_map-append}
use Rattle.balise_rules.specs.Bits.{num, bits, ones, part, zeros}
use Rattle.balise_rules.proofs.Numbers.{length-bits, num-bits_fit, num-append}
use Rattle.balise_bits.specs.Bytes.{byte_bits, flat}

pub flat-nil : flat [] ≡ []
unfolding flat
flat-nil = refl

pub flat-cons : (b : ℕ) (bs : List ℕ) → flat (b ∷ bs) ≡ bits 8 b ++ flat bs
unfolding flat
flat-cons b bs = refl

pub flat_one : (b : ℕ) → flat (b ∷ []) ≡ bits 8 b
flat_one b = flat-cons b [] ∙ ap (λ (x : List Bool). bits 8 b ++ x) flat-nil ∙ append-nil (bits 8 b)

pub flat-append : (a b : List ℕ) → flat (a ++ b) ≡ flat a ++ flat b
unfolding flat
flat-append a b = flat_map-append byte_bits a b

pub length-flat : (bs : List ℕ) → length (flat bs) ≡ 8 * length bs
length-flat [] = ap length flat-nil
length-flat (b ∷ bs) = ap length (flat-cons b bs) ∙ length-append (bits 8 b) (flat bs) ∙ omega (arith, length-bits 8 b, length-flat bs)

pub drop-flat : (i : ℕ) (bs : List ℕ) → i ≤ length bs → drop (8 * i) (flat bs) ≡ flat (drop i bs)
drop-flat i bs h =
    ap (drop (8 * i)) (ap flat (sym (take-append-drop i bs)) ∙ flat-append (take i bs) (drop i bs))
    ∙ drop_at (flat (take i bs)) (flat (drop i bs)) (8 * i) (omega (arith, length-flat (take i bs), length-take i bs))

pub take-flat : (i : ℕ) (bs : List ℕ) → i ≤ length bs → take (8 * i) (flat bs) ≡ flat (take i bs)
take-flat i bs h =
    ap (take (8 * i)) (ap flat (sym (take-append-drop i bs)) ∙ flat-append (take i bs) (drop i bs))
    ∙ take_at (flat (take i bs)) (flat (drop i bs)) (8 * i) (omega (arith, length-flat (take i bs), length-take i bs))

-- whole bytes of bytes
pub flat-part : (first n : ℕ) (bs : List ℕ) → first + n ≤ length bs → flat (take n (drop first bs)) ≡ part (8 * first) (8 * n) (flat bs)
flat-part first n bs h =
    sym (take-flat n (drop first bs) (omega (arith, length-drop first bs))) ∙ ap (take (8 * n)) (sym (drop-flat first bs (omega arith)))

-- one byte again and again, whose eight bits are the same
flat-replicate : (v : ℕ) (b : Bool) (k : ℕ) → bits 8 v ≡ replicate 8 b → flat (replicate k v) ≡ replicate (8 * k) b
flat-replicate v b zero e = flat-nil
flat-replicate v b (suc k) e =
    flat-cons v (replicate k v) ∙ ap (λ (x : List Bool). x ++ flat (replicate k v)) e
    ∙ ap (λ (x : List Bool). replicate 8 b ++ x) (flat-replicate v b k e)
    ∙ ap (λ (n : ℕ). replicate n b) (let s : suc (suc (suc (suc (suc (suc (suc (suc (8 * k)))))))) ≡ 8 * suc k = omega arith in s)

pub flat-zeros : (k : ℕ) → flat (replicate k 0) ≡ zeros (8 * k)
unfolding bits
flat-zeros k = flat-replicate 0 false k refl

pub flat-ones : (k : ℕ) → flat (replicate k 255) ≡ ones (8 * k)
unfolding bits
flat-ones k = flat-replicate 255 true k refl

pub num-flat_nil : num (flat []) ≡ 0
unfolding num
num-flat_nil = ap num flat-nil

-- one byte more
pub num-flat_more : (bs : List ℕ) (i : ℕ) → i < length bs → get_or bs i 0 < 256 → num (flat (take (i + 1) bs)) ≡ num (flat (take i bs)) * 256 + get_or bs i 0
num-flat_more bs i h lt =
    let b = get_or bs i 0 in
    rw (take_more bs i 0 h, flat-append (take i bs) (b ∷ []), flat_one b, num-append (flat (take i bs)) (bits 8 b), length-bits 8 b, num-bits_fit 8 b lt) refl

-- the number of one byte, of four, and of eight
pub num-flat_one : (bs : List ℕ) → length bs ≡ 1 → get_or bs 0 0 < 256 → num (flat bs) ≡ get_or bs 0 0
num-flat_one [] one byte = absurd (omega (arith, one))
num-flat_one (b ∷ []) one byte = ap num (flat_one b) ∙ num-bits_fit 8 b byte
num-flat_one (b ∷ c ∷ bs) one byte = absurd (omega (arith, one))

first_four : (bs : List ℕ) → 4 ≤ length bs → ((i : ℕ) → get_or bs i 0 < 256) → num (flat (take 4 bs)) ≡ get_or bs 0 0 * 16777216 + get_or bs 1 0 * 65536 + get_or bs 2 0 * 256 + get_or bs 3 0
first_four bs long byte = omega (arith, num-flat_nil, more 0 (omega arith), more 1 (omega arith), more 2 (omega arith), more 3 (omega arith))
  where
    more : (i : ℕ) → i < 4 → num (flat (take (i + 1) bs)) ≡ num (flat (take i bs)) * 256 + get_or bs i 0
    more i h = num-flat_more bs i (omega (arith, h, long)) (byte i)

pub num-flat_four : (bs : List ℕ) → length bs ≡ 4 → ((i : ℕ) → get_or bs i 0 < 256) → num (flat bs) ≡ get_or bs 0 0 * 16777216 + get_or bs 1 0 * 65536 + get_or bs 2 0 * 256 + get_or bs 3 0
num-flat_four bs four byte =
    sym (ap (λ (x : List ℕ). num (flat x)) (take_all 4 bs (omega (arith, four)))) ∙ first_four bs (omega (arith, four)) byte

pub num-flat_eight : (bs : List ℕ) → length bs ≡ 8 → ((i : ℕ) → get_or bs i 0 < 256) → num (flat bs) ≡ (get_or bs 0 0 * 16777216 + get_or bs 1 0 * 65536 + get_or bs 2 0 * 256 + get_or bs 3 0) * 4294967296 + (get_or bs 4 0 * 16777216 + get_or bs 5 0 * 65536 + get_or bs 6 0 * 256 + get_or bs 7 0)
num-flat_eight bs eight byte =
    sym (ap (λ (x : List ℕ). num (flat x)) (take_all 8 bs (omega (arith, eight)))) ∙ omega (arith, more 4 (omega arith), more 5 (omega arith), more 6 (omega arith), more 7 (omega arith), first_four bs (omega (arith, eight)) byte)
  where
    more : (i : ℕ) → i < 8 → num (flat (take (i + 1) bs)) ≡ num (flat (take i bs)) * 256 + get_or bs i 0
    more i h = num-flat_more bs i (omega (arith, h, eight)) (byte i)
