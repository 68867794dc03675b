-- A packet by itself, in the bits of digits: the tests one after another.
use Rattle.std.proofs.Common.{◌≡◌, ◌≢◌, ◌≤◌, ◌<◌, ◌+◌, ◌∙◌, ℕ, Bool, true, false, eqb, nat_lt, List, [], length, take, drop, Option, Some, None, Result, Ok, Err, sym, ap, arith}
use Rattle.std.proofs.lemmas.Bool.Decides.{nat_tests}
use Rattle.balise_rules.specs.declared.refusal.Refusal.{Refusal}
use Rattle.balise_rules.specs.declared.refusal.Refusal.TheVariants.{PacketCut, PacketZero, LayoutMismatch, BadLength, SpareBits}
use Rattle.balise_rules.specs.Refusals.{and_then}
use Rattle.balise_rules.specs.Addresses.{packet_in}
use Rattle.balise_rules.specs.Bits.{num}
use Rattle.balise_rules.specs.Digits.{fill, all_zero}
use Rattle.balise_rules.specs.Forms.{Fields, read_form}
use Rattle.balise_rules.specs.Packet.{Packet, read_packet, read_body, read_first, length_said, is_cut}
use Rattle.balise_rules.specs.Packets.{packet}
use Rattle.balise_rules.proofs.Cases.{unok}

pub word_short : (v : ℕ) (b : List Bool) → length b < 8 → packet_in v b ≡ Err PacketCut
unfolding packet_in
word_short v b h = let t : nat_lt (length b) 8 ≡ true = grind (arith, nat_tests) in simp t

pub word_zero : (v : ℕ) (b : List Bool) → 8 ≤ length b → num (take 8 b) ≡ 0 → packet_in v b ≡ Err PacketZero
unfolding packet_in
word_zero v b h z =
    let t : nat_lt (length b) 8 ≡ false = grind (arith, nat_tests) in
    let u : eqb (num (take 8 b)) 0 ≡ true = grind (arith, nat_tests) in simp (t, u)

-- eight bits are there, of another number than 0
pub record Begins (b : List Bool) : Type 0 where
  pub long : 8 ≤ length b
  pub some : num (take 8 b) ≢ 0

pub word_end : (v : ℕ) (b : List Bool) → Begins b → num (take 8 b) ≡ 255 → packet_in v b ≡ Err LayoutMismatch
unfolding packet_in
word_end v b i e =
    let t : nat_lt (length b) 8 ≡ false = let l = i.long in grind (arith, nat_tests) in
    let u : eqb (num (take 8 b)) 0 ≡ false = let l = i.some in grind (arith, nat_tests) in
    let w : eqb (num (take 8 b)) 255 ≡ true = grind (arith, nat_tests) in simp (t, u, w)

pub word_cut : (v : ℕ) (b : List Bool) → Begins b → num (take 8 b) ≢ 255 → is_cut b ≡ true → packet_in v b ≡ Err PacketCut
unfolding packet_in
word_cut v b i n k =
    let t : nat_lt (length b) 8 ≡ false = let l = i.long in grind (arith, nat_tests) in
    let u : eqb (num (take 8 b)) 0 ≡ false = let l = i.some in grind (arith, nat_tests) in
    let w : eqb (num (take 8 b)) 255 ≡ false = grind (arith, nat_tests) in simp (t, u, w, k)

-- the packet is all there
pub record IsWhole (b : List Bool) : Type 0 where
  pub long : nat_lt (length b) 8 ≡ false
  pub some : eqb (num (take 8 b)) 0 ≡ false
  pub not_end : eqb (num (take 8 b)) 255 ≡ false
  pub whole : is_cut b ≡ false

pub whole : (b : List Bool) → Begins b → num (take 8 b) ≢ 255 → 23 ≤ length b → 23 ≤ length_said b → length_said b ≤ length b → IsWhole b
whole b i n l s m = record {
  long = let k = i.long in grind (arith, nat_tests);
  some = let k = i.some in grind (arith, nat_tests);
  not_end = grind (arith, nat_tests);
  whole =
      let t : nat_lt (length b) 23 ≡ false = grind (arith, nat_tests) in
      let u : nat_lt (length_said b) 23 ≡ false = grind (arith, nat_tests) in
      let w : nat_lt (length b) (length_said b) ≡ false = grind (arith, nat_tests) in simp (t, u, w);
}

pub word_long : (v : ℕ) (b : List Bool) → IsWhole b → length b ≢ length_said b + fill (length_said b) → packet_in v b ≡ Err BadLength
unfolding packet_in
word_long v b i n =
    let t : eqb (length b) (length_said b + fill (length_said b)) ≡ false = grind (arith, nat_tests) in
    simp (i.long, i.some, i.not_end, i.whole, t)

pub word_spare : (v : ℕ) (b : List Bool) → IsWhole b → length b ≡ length_said b + fill (length_said b) → all_zero (drop (length_said b) b) ≡ false → packet_in v b ≡ Err SpareBits
unfolding packet_in
word_spare v b i e z =
    let t : eqb (length b) (length_said b + fill (length_said b)) ≡ true = grind (arith, nat_tests) in
    simp (i.long, i.some, i.not_end, i.whole, t, z)

word-rest : (v : ℕ) (b : List Bool) → IsWhole b → length b ≡ length_said b + fill (length_said b) → all_zero (drop (length_said b) b) ≡ true →
    packet_in v b ≡ and_then (read_packet [] (read_form (packet v) [] (take (length_said b) b))) (λ p. Ok p.0)
unfolding packet_in
word-rest v b i e z =
    let t : eqb (length b) (length_said b + fill (length_said b)) ≡ true = grind (arith, nat_tests) in
    simp (i.long, i.some, i.not_end, i.whole, t, z)

first-rest : (v : ℕ) (b : List Bool) → IsWhole b → read_first v b ≡ read_packet (drop (length_said b) b) (read_form (packet v) [] (take (length_said b) b))
unfolding read_first read_body
first-rest v b i = simp (i.long, i.some, i.not_end, i.whole)

rest-ok : (behind : List Bool) (o : Option (Fields × List Bool)) (x : Packet) (r : List Bool) → read_packet behind o ≡ Ok (x, r) → and_then (read_packet [] o) (λ p. Ok p.0) ≡ Ok x
rest-ok behind None x r h = absurd cc
rest-ok behind (Some f) x r h = ap (λ (z : Packet × List Bool). Ok z.0) (unok h)

rest-err : (behind : List Bool) (o : Option (Fields × List Bool)) (e : Refusal) → read_packet behind o ≡ Err e → ◌≡◌ {A = Result Packet Refusal} (and_then (read_packet [] o) (λ p. Ok p.0)) (Err e)
rest-err behind None e h = cc
rest-err behind (Some f) e h = absurd cc

pub word_read : (v : ℕ) (b : List Bool) → IsWhole b → length b ≡ length_said b + fill (length_said b) → all_zero (drop (length_said b) b) ≡ true → (x : Packet) (r : List Bool) → read_first v b ≡ Ok (x, r) → packet_in v b ≡ Ok x
word_read v b i e z x r h = word-rest v b i e z ∙ rest-ok (drop (length_said b) b) (read_form (packet v) [] (take (length_said b) b)) x r (sym (first-rest v b i) ∙ h)

pub word_fault : (v : ℕ) (b : List Bool) → IsWhole b → length b ≡ length_said b + fill (length_said b) → all_zero (drop (length_said b) b) ≡ true → (q : Refusal) → read_first v b ≡ Err q → packet_in v b ≡ Err q
word_fault v b i e z q h = word-rest v b i e z ∙ rest-err (drop (length_said b) b) (read_form (packet v) [] (take (length_said b) b)) q (sym (first-rest v b i) ∙ h)
