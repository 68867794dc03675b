-- A packet that is spelt is read again, whatever stands after it; its number is neither 0 nor 255.
-- From reading again what is spelt, and L_PACKET's place.
use Rattle.std.proofs.Common.{◌≡◌, ℕ, ◌+◌, ◌≤◌, ◌^◌, Bool, false, cond, ltb, eqb, ◌||◌, List, [], ◌++◌, length, take, drop, Ok, Err, refl, sym, ap, ◌∙◌, append_assoc, arith, length-append}
use Rattle.std.proofs.lemmas.Bool.{le-ltb, ltb-true, or_parts}
use Rattle.std.proofs.lemmas.List.{take_at, drop_at}
use Rattle.balise_rules.specs.declared.refusal.Refusal.TheVariants.{PacketCut}
use Rattle.balise_rules.specs.Bits.{num, bits}
use Rattle.balise_rules.specs.Forms.{Fields, Matches, spelling, read_form}
use Rattle.balise_rules.specs.Packets.{packet, body}
use Rattle.balise_rules.specs.Packet.{Packet, bits_of, IsSpelt, length_said, is_cut, read_packet, read_body, read_first}
use Rattle.balise_rules.proofs.Tests.{split_on}
use Rattle.balise_rules.proofs.Numbers.{length-bits, num-bits_fit}
use Rattle.balise_rules.proofs.Spelt.{read_again}
use Rattle.balise_rules.proofs.PacketRead.{begins, three_spelt, said_is, said_within}

-- What the front of a packet's bits says.
pub record Front (b : List Bool) : Type 0 where
  pub least : 23 ≤ length b
  pub number : ℕ
  pub is : (behind : List Bool) → num (take 8 (b ++ behind)) ≡ number
  pub some : eqb number 0 ≡ false
  pub no_end : eqb number 255 ≡ false

-- packets 0 and 255 have no body
pub bodied : (version n : ℕ) (fs : Fields) (rest : List Bool) → Matches (body version n) fs rest → (eqb n 0 || eqb n 255) ≡ false
unfolding body
bodied version n fs rest m = split_on (eqb n 0 || eqb n 255) (λ h. absurd (let k = simp h at m in k)) (λ h. h)

pub front_of : (version : ℕ) (p : Packet) → IsSpelt version p → Front (bits_of p)
front_of version p s =
    let b = begins version p.fields p.rest s.form s.numbered in
    let more = spelling b.more ++ p.rest in
    let two = bits 8 b.number ++ bits 2 b.direction in
    let parts : bits_of p ≡ two ++ (bits 13 b.said ++ more) = ap (λ (x : Fields). spelling x ++ p.rest) b.is ∙ three_spelt b.number b.direction b.said b.more p.rest in
    let n = or_parts (eqb b.number 0) (eqb b.number 255) (bodied version b.number b.more p.rest b.body) in
    let one : (behind : List Bool) → bits_of p ++ behind ≡ bits 8 b.number ++ (bits 2 b.direction ++ ((bits 13 b.said ++ more) ++ behind)) =
    λ behind. ap (λ (x : List Bool). x ++ behind) parts ∙ append_assoc two (bits 13 b.said ++ more) behind ∙ append_assoc (bits 8 b.number) (bits 2 b.direction) ((bits 13 b.said ++ more) ++ behind) in
    record {
      least = omega (arith, ap length parts, length-append two (bits 13 b.said ++ more), length-append (bits 8 b.number) (bits 2 b.direction), length-append (bits 13 b.said) more, length-bits 8 b.number, length-bits 2 b.direction, length-bits 13 b.said);
      number = b.number;
      is = λ behind. ap (λ (x : List Bool). num (take 8 x)) (one behind) ∙ ap num (take_at (bits 8 b.number) (bits 2 b.direction ++ ((bits 13 b.said ++ more) ++ behind)) 8 (length-bits 8 b.number)) ∙ num-bits_fit 8 b.number (ltb-true b.number (2 ^ 8) b.number_fits);
      some = n.0;
      no_end = n.1;
    }

-- L_PACKET of a packet with more bits after it
pub said_again : (version : ℕ) (p : Packet) (behind : List Bool) → IsSpelt version p → length_said (bits_of p ++ behind) ≡ length (bits_of p)
said_again version p behind s =
    let b = bits_of p in
    let f = front_of version p s in
    sym (said_within (length b) (b ++ behind) f.least) ∙ ap length_said (take_at b behind (length b) refl) ∙ sym (said_is version p.fields p.rest s.form s.numbered) ∙ s.said

pub body_again : (version : ℕ) (p : Packet) (behind : List Bool) → IsSpelt version p → read_body version (bits_of p ++ behind) ≡ Ok (p, behind)
unfolding read_body
body_again version p behind s =
    let b = bits_of p in
    let f = front_of version p s in
    let said = said_again version p behind s in
    let size : length (b ++ behind) ≡ length b + length behind = length-append b behind in
    let c1 : ltb (length (b ++ behind)) 23 ≡ false = le-ltb _ _ (omega (arith, size, f.least)) in
    let c2 : ltb (length_said (b ++ behind)) 23 ≡ false = le-ltb _ _ (omega (arith, said, f.least)) in
    let c3 : ltb (length (b ++ behind)) (length_said (b ++ behind)) ≡ false = le-ltb _ _ (omega (arith, said, size)) in
    let cut : is_cut (b ++ behind) ≡ false = rw (c1, c2, c3) refl in
    let own : take (length_said (b ++ behind)) (b ++ behind) ≡ b = ap (λ (k : ℕ). take k (b ++ behind)) said ∙ take_at b behind (length b) refl in
    let left : drop (length_said (b ++ behind)) (b ++ behind) ≡ behind = ap (λ (k : ℕ). drop k (b ++ behind)) said ∙ drop_at b behind (length b) refl in
    ap (λ (c : Bool). cond c (Err PacketCut) (read_packet (drop (length_said (b ++ behind)) (b ++ behind)) (read_form (packet version) [] (take (length_said (b ++ behind)) (b ++ behind))))) cut
    ∙ ap (λ (x : List Bool). read_packet x (read_form (packet version) [] (take (length_said (b ++ behind)) (b ++ behind)))) left
    ∙ ap (λ (x : List Bool). read_packet behind (read_form (packet version) [] x)) own
    ∙ ap (read_packet behind) (read_again (packet version) [] p.fields p.rest s.form s.numbered)

pub first_again : (version : ℕ) (p : Packet) (behind : List Bool) → IsSpelt version p → read_first version (bits_of p ++ behind) ≡ Ok (p, behind)
unfolding read_first
first_again version p behind s =
    let f = front_of version p s in
    let long : ltb (length (bits_of p ++ behind)) 8 ≡ false = le-ltb _ _ (omega (arith, length-append (bits_of p) behind, f.least)) in
    rw (long, f.is behind, f.some, f.no_end) (body_again version p behind s)
