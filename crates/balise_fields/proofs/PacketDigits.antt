-- From the refusal of a packet by itself to what its digits are.
use Rattle.std.proofs.Common.{◌≡◌, ◌≢◌, ◌≤◌, ◌+◌, ◌∙◌, ℕ, Bool, true, false, eqb, nat_lt, ◌||◌, List, length, take, drop, Result, Ok, Err, inl, inr, sym, arith, ◌⊎◌}
use Rattle.std.proofs.lemmas.Bool.{ltb-false, or_parts, eqb-true}
use Rattle.std.proofs.lemmas.Bool.Decides.{nat_tests}
use Rattle.balise_rules.specs.declared.refusal.Refusal.{Refusal}
use Rattle.balise_rules.specs.declared.refusal.Refusal.TheVariants.{BadLength, SpareBits}
use Rattle.balise_rules.specs.Addresses.{packet_in}
use Rattle.balise_rules.specs.Bits.{num}
use Rattle.balise_rules.specs.Digits.{fill, all_zero}
use Rattle.balise_rules.specs.Packet.{Packet, read_body, read_first, length_said, is_cut}
use Rattle.balise_rules.proofs.Tests.{split_on}
pub use Rattle.balise_telegram.proofs.PacketDigits.{IsWhole, word_read}
use Rattle.balise_telegram.proofs.PacketDigits.{word_long, word_spare}

-- the tests before the length all pass
pub after_tests : {P : Type 0} (b : List Bool) → (nat_lt (length b) 8 ≡ true → P) → (nat_lt (length b) 8 ≡ false → eqb (num (take 8 b)) 0 ≡ true → P) → (nat_lt (length b) 8 ≡ false → eqb (num (take 8 b)) 0 ≡ false → eqb (num (take 8 b)) 255 ≡ true → P)
    → (nat_lt (length b) 8 ≡ false → eqb (num (take 8 b)) 0 ≡ false → eqb (num (take 8 b)) 255 ≡ false → is_cut b ≡ true → P) → (IsWhole b → P) → P
after_tests b short zero end cut whole =
    split_on (nat_lt (length b) 8) short (λ e. split_on (eqb (num (take 8 b)) 0) (zero e) (λ f. split_on (eqb (num (take 8 b)) 255) (end e f) (λ g. split_on (is_cut b) (cut e f g) (λ i. whole (record { long = e; some = f; not_end = g; whole = i })))))

-- where a bit after the packet's last isn't zero, the packet is all there
pub spare_whole : (v : ℕ) (b : List Bool) → packet_in v b ≡ Err SpareBits → IsWhole b
unfolding packet_in
spare_whole v b h = after_tests b
    (λ e. absurd (let k = simp e at h in cc))
    (λ e f. absurd (let k = simp (e, f) at h in cc))
    (λ e f g. absurd (let k = simp (e, f, g) at h in cc))
    (λ e f g i. absurd (let k = simp (e, f, g, i) at h in cc))
    (λ w. w)

pub whole_size : (b : List Bool) → IsWhole b → 23 ≤ length b
whole_size b w = ltb-false (length b) 23 (or_parts (nat_lt (length b) 23) (nat_lt (length_said b) 23) (or_parts (nat_lt (length b) 23 || nat_lt (length_said b) 23) (nat_lt (length b) (length_said b)) w.whole).0).0

pub whole_within : (b : List Bool) → IsWhole b → length_said b ≤ length b
whole_within b w = ltb-false (length b) (length_said b) (or_parts (nat_lt (length b) 23 || nat_lt (length_said b) 23) (nat_lt (length b) (length_said b)) w.whole).1

-- a packet that is read is refused for its length or for the bits after it alone
pub refused_after : (v : ℕ) (b : List Bool) (e : Refusal) (p : Packet) (after : List Bool) → read_first v b ≡ Ok (p, after) → packet_in v b ≡ Err e → (e ≡ BadLength) ⊎ (e ≡ SpareBits)
unfolding read_first read_body
refused_after v b e p after h k = after_tests b
    (λ s. absurd (let m = simp s at h in cc))
    (λ s t. absurd (let m = simp (s, t) at h in cc))
    (λ s t u. absurd (let m = simp (s, t, u) at h in cc))
    (λ s t u w. absurd (let m = simp (s, t, u, w) at h in cc))
    (λ w. split_on (eqb (length b) (length_said b + fill (length_said b)))
    (λ l. let n = eqb-true (length b) (length_said b + fill (length_said b)) l in split_on (all_zero (drop (length_said b) b))
    (λ z. absurd (let m : ◌≡◌ {A = Result Packet Refusal} (Ok p) (Err e) = sym (word_read v b w n z p after h) ∙ k in cc))
    (λ z. inr (let m : ◌≡◌ {A = Result Packet Refusal} (Err SpareBits) (Err e) = sym (word_spare v b w n z) ∙ k in cc)))
    (λ l. inl (let n : length b ≢ length_said b + fill (length_said b) = grind (arith, nat_tests) in let m : ◌≡◌ {A = Result Packet Refusal} (Err BadLength) (Err e) = sym (word_long v b w n) ∙ k in cc)))
