-- Going over the packets of the bits that a telegram shows.
-- From what is shown, cut after some packets.
use Rattle.std.proofs.Common.{◌≡◌, ◌∙◌, ℕ, ◌+◌, ◌*◌, ◌<◌, ◌≤◌, Bool, false, eqb, List, [], ◌∷◌, ◌++◌, length, take, drop, get_or, slice_get, Some, Ok, option_map, refl, sym, ap, subst, append_assoc, length-append, arith}
use Rattle.std.specs.Prelude.{All}
use Rattle.std.proofs.lemmas.List.{drop_at, drop-drop, take-append-drop, take_all, length-drop, length-take-le, get_or-drop}
use Rattle.std.proofs.lemmas.List.Elements.{All-head, All-tail, All-take, All-drop}
use Rattle.std.proofs.lemmas.Option.{slice_get-get_or}
use Rattle.balise_rules.specs.declared.tag.Tag.{Tag}
use Rattle.balise_rules.specs.Bits.{num, ones, part}
use Rattle.balise_rules.specs.Forms.{spelling}
use Rattle.balise_rules.specs.Packet.{Packet, bits_of, width, IsSpelt, length_said, read_first}
use Rattle.balise_rules.specs.Telegram.{Telegram, header, version_of, used, packets_bits, shown, read_header}
use Rattle.balise_rules.proofs.Cases.{unsome}
use Rattle.balise_rules.proofs.PacketAgain.{front_of, first_again, said_again}
use Rattle.balise_rules.proofs.TelegramAgain.{fixed_length, header_again}
use Rattle.balise_rules.proofs.TelegramRead.{header_fixed}
use Rattle.balise_rules.proofs.TelegramShown.{used_is}
use Rattle.balise_telegram.specs.declared.telegram.walking.Place.{Place}
use Rattle.balise_telegram.specs.Shown.{IsPlace, IsShown, Passes}
use Rattle.balise_telegram.proofs.Left.{some_left}
use Rattle.balise_telegram.proofs.PackedPlaces.{length_within}
use Rattle.balise_telegram.proofs.Tagging.{Packets}
use Rattle.balise_telegram.proofs.Using.{used-take}

end_number : (behind : List Bool) → num (take 8 (ones 8 ++ behind)) ≡ 255
unfolding num
end_number behind = refl

-- what is shown after the packets
abbrev pub tail_of : Telegram → List Bool
tail_of y = ones 8 ++ drop (used y.packets) y.padding

pub packets_bits-append : (xs ys : Packets) → packets_bits (xs ++ ys) ≡ packets_bits xs ++ packets_bits ys
packets_bits-append [] ys = refl
packets_bits-append (x ∷ xs) ys = ap (λ (l : List Bool). bits_of x.1 ++ l) (packets_bits-append xs ys) ∙ sym (append_assoc (bits_of x.1) (packets_bits xs) (packets_bits ys))

-- header and packets before a place, then the packets from it on, then the rest
pub cut_at : (n : ℕ) (y : Telegram) → shown y ≡ (spelling y.head ++ packets_bits (take n y.packets)) ++ (packets_bits (drop n y.packets) ++ tail_of y)
cut_at n y =
    let ps = y.packets in
    let a = packets_bits (take n ps) in
    let c = packets_bits (drop n ps) in
    let two : packets_bits ps ≡ a ++ c = ap packets_bits (sym (take-append-drop n ps)) ∙ packets_bits-append (take n ps) (drop n ps) in
    ap (λ (l : List Bool). spelling y.head ++ (l ++ tail_of y)) two ∙ ap (λ (l : List Bool). spelling y.head ++ l) (append_assoc a c (tail_of y)) ∙ sym (append_assoc (spelling y.head) a (c ++ tail_of y))

pub front_long : (b : List Bool) (y : Telegram) (n at : ℕ) → IsShown b y → at + 8 ≡ used (take n y.packets) → length (spelling y.head ++ packets_bits (take n y.packets)) ≡ at
front_long b y n at s e =
    let fifty = fixed_length header 50 y.head [] header_fixed s.header in
    omega (arith, length-append (spelling y.head) (packets_bits (take n y.packets)), fifty, used_is (take n y.packets), e)

pub ahead : (b : List Bool) (y : Telegram) (n at : ℕ) → IsShown b y → at + 8 ≡ used (take n y.packets) → drop at b ≡ packets_bits (drop n y.packets) ++ tail_of y
ahead b y n at s e =
    ap (drop at) (sym s.shows ∙ cut_at n y)
    ∙ drop_at (spelling y.head ++ packets_bits (take n y.packets)) (packets_bits (drop n y.packets) ++ tail_of y) at (front_long b y n at s e)

-- the bits are as long as a telegram, and what is used lies within
pub shown_size : (b : List Bool) (y : Telegram) → IsShown b y → (58 ≤ length b) × (length b ≤ 830)
shown_size b y s = length_within (length b) s.size

pub used_within : (b : List Bool) (y : Telegram) → IsShown b y → used y.packets ≤ length b
used_within b y s =
    let fifty = fixed_length header 50 y.head [] header_fixed s.header in
    let left = drop (used y.packets) y.padding in
    let whole = ap length (sym s.shows) in
    omega (arith, whole, length-append (spelling y.head) (packets_bits y.packets ++ (ones 8 ++ left)), length-append (packets_bits y.packets) (ones 8 ++ left), length-append (ones 8) left, fifty, used_is y.packets)

pub head_shown : (b : List Bool) (y : Telegram) → IsShown b y → read_header b ≡ y.head
head_shown b y s = (header_again y b (packets_bits y.packets ++ tail_of y) s.header s.numbered (sym s.shows)).0

-- the next packet
pub record Next (b : List Bool) (y : Telegram) (n at : ℕ) : Type 0 where
  pub packet : Tag × Packet
  pub is : slice_get y.packets n ≡ Some packet
  pub below : n < length y.packets
  pub spelt : IsSpelt (version_of y) packet.1
  pub behind : List Bool
  pub bits : drop at b ≡ bits_of packet.1 ++ behind
  pub size : num (part (at + 10) 13 b) ≡ width packet.1
  pub least : 23 ≤ width packet.1
  pub within : at + width packet.1 + 8 ≤ length b
  pub further : used (take (n + 1) y.packets) ≡ used (take n y.packets) + width packet.1

next_of : (b : List Bool) (y : Telegram) (n at : ℕ) (x : Tag × Packet) (xs : Packets) → IsShown b y → at + 8 ≡ used (take n y.packets) → drop n y.packets ≡ x ∷ xs → Next b y n at
next_of b y n at x xs s e is =
    let ps = y.packets in
    let below : n < length ps = omega (arith, ap length is, length-drop n ps) in
    let spelt : IsSpelt (version_of y) x.1 =
    All-head (λ (q : Tag × Packet). IsSpelt (version_of y) q.1) x xs (subst (λ (l : Packets). All (λ (q : Tag × Packet). IsSpelt (version_of y) q.1) l) is (All-drop (λ (q : Tag × Packet). IsSpelt (version_of y) q.1) n ps s.packets)) in
    let behind = packets_bits xs ++ tail_of y in
    let bits : drop at b ≡ bits_of x.1 ++ behind = ahead b y n at s e ∙ ap (λ (l : Packets). packets_bits l ++ tail_of y) is ∙ append_assoc (bits_of x.1) (packets_bits xs) (tail_of y) in
    let same : n + 0 ≡ n = omega arith in
    let got : get_or ps n x ≡ x = sym (get_or-drop n ps 0 x ∙ ap (λ (k : ℕ). get_or ps k x) same) ∙ ap (λ (l : Packets). get_or l 0 x) is in
    let left = drop (used ps) y.padding in
    let f = front_of (version_of y) x.1 spelt in
    let long = ap length bits in
    record {
      packet = x;
      is = slice_get-get_or ps n x below ∙ ap (λ (q : Tag × Packet). Some q) got;
      below = below;
      spelt = spelt;
      behind = behind;
      bits = bits;
      size = ap (λ (l : List Bool). num (take 13 l)) (sym (drop-drop 10 at b)) ∙ ap length_said bits ∙ said_again (version_of y) x.1 behind spelt;
      least = f.least;
      within = omega (arith, long, length-drop at b, length-append (bits_of x.1) behind, length-append (packets_bits xs) (tail_of y), length-append (ones 8) left, f.least);
      further = used-take ps n x below ∙ ap (λ (q : Tag × Packet). used (take n ps) + width q.1) got;
    }

-- a packet stands where 255 isn't read
pub next_there : (b : List Bool) (y : Telegram) (n at number : ℕ) → IsShown b y → at + 8 ≡ used (take n y.packets) → number ≡ num (part at 8 b) → (number ≡ 255 → ⊥) → Next b y n at
next_there b y n at number s e is still = by (drop n y.packets) refl
  where
    by : (l : Packets) → drop n y.packets ≡ l → Next b y n at
    by [] h = absurd (still (is ∙ ap (λ (l : List Bool). num (take 8 l)) (ahead b y n at s e ∙ ap (λ (l : Packets). packets_bits l ++ tail_of y) h) ∙ end_number (drop (used y.packets) y.padding)))
    by (x ∷ xs) h = next_of b y n at x xs s e h

-- and where there are more packets
pub next_below : (b : List Bool) (y : Telegram) (n at : ℕ) → IsShown b y → at + 8 ≡ used (take n y.packets) → n < length y.packets → Next b y n at
next_below b y n at s e h = by (drop n y.packets) refl
  where
    by : (l : Packets) → drop n y.packets ≡ l → Next b y n at
    by [] k = absurd (omega (arith, ap length k, length-drop n y.packets, h))
    by (x ∷ xs) k = next_of b y n at x xs s e k

-- after the last packet where 255 is read
pub all_gone : (b : List Bool) (y : Telegram) (n at number : ℕ) → IsShown b y → at + 8 ≡ used (take n y.packets) → number ≡ num (part at 8 b) → number ≡ 255 → length y.packets ≤ n
all_gone b y n at number s e is end = by (drop n y.packets) refl
  where
    by : (l : Packets) → drop n y.packets ≡ l → length y.packets ≤ n
    by [] h = omega (arith, ap length h, length-drop n y.packets)
    by (x ∷ xs) h =
        let z = next_of b y n at x xs s e h in
        let f = front_of (version_of y) z.packet.1 z.spelt in
        let front : number ≡ f.number = is ∙ ap (λ (l : List Bool). num (take 8 l)) z.bits ∙ f.is z.behind in
        let same : eqb 255 255 ≡ false = ap (λ (k : ℕ). eqb k 255) (sym end ∙ front) ∙ f.no_end in
        absurd cc

-- and where fewer than 23 bits are left
pub too_short : (b : List Bool) (y : Telegram) (n at : ℕ) → IsShown b y → at + 8 ≡ used (take n y.packets) → length b < at + 23 → length y.packets ≤ n
too_short b y n at s e short = by (drop n y.packets) refl
  where
    by : (l : Packets) → drop n y.packets ≡ l → length y.packets ≤ n
    by [] h = omega (arith, ap length h, length-drop n y.packets)
    by (x ∷ xs) h = let z = next_of b y n at x xs s e h in absurd (omega (arith, z.within, z.least, short))

-- ---- the walk

-- n packets are gone over
pub record Walked (b : List Bool) (most n at : ℕ) : Type 0 where
  pub asked : n ≤ most
  pub place : (y : Telegram) → IsShown b y → (n ≤ length y.packets) × (at + 8 ≡ used (take n y.packets))

pub none_walked : (b : List Bool) (most : ℕ) → Walked b most 0 50
none_walked b most = record { asked = omega arith; place = λ y s. (omega arith, refl) }

pub one_walked : (b : List Bool) (most n at size : ℕ) → Walked b most n at → (n ≡ most → ⊥) → ((y : Telegram) → IsShown b y → n < length y.packets) → size ≡ num (part (at + 10) 13 b) → Walked b most (n + 1) (at + size)
one_walked b most n at size w more there e = record {
  asked = omega (arith, w.asked, more);
  place = λ y s.
      let p = w.place y s in
      let z = next_below b y n at s p.1 (there y s) in
      (omega (arith, z.below), omega (arith, z.further, p.1, e, z.size));
}

-- at the end
pub walked_most : (b : List Bool) (most n at : ℕ) → Walked b most n at → n ≡ most → (y : Telegram) → IsShown b y → Passes y.packets most n at
walked_most b most n at w e y s = let p = w.place y s in record { counted = omega (arith, p.0, e); place = p.1 }

-- each packet takes 23 bits at least
spare : (version : ℕ) (ps : Packets) → All (λ p. IsSpelt version p.1) ps → 23 * length ps + 58 ≤ used ps
spare version [] a = omega arith
spare version (x ∷ xs) a =
    let least = (front_of version x.1 (All-head (λ (q : Tag × Packet). IsSpelt version q.1) x xs a)).least in
    let more = spare version xs (All-tail (λ (q : Tag × Packet). IsSpelt version q.1) x xs a) in omega (arith, least, more)

-- a place within the bits, with room for packet 255
pub place_within : (b : List Bool) (y : Telegram) (n at : ℕ) → IsShown b y → n ≤ length y.packets → at + 8 ≡ used (take n y.packets) → (23 * n + 50 ≤ at) × (at + 8 ≤ length b)
place_within b y n at s h e =
    let ps = y.packets in
    let most = spare (version_of y) (take n ps) (All-take (λ (q : Tag × Packet). IsSpelt (version_of y) q.1) n ps s.packets) in
    let left = drop (used ps) y.padding in
    let long = ap length (ahead b y n at s e) in
    let small = shown_size b y s in (
      omega (arith, most, length-take-le n ps h, e),
      omega (arith, long, length-drop at b, length-append (packets_bits (drop n ps)) (tail_of y), length-append (ones 8) left),
    )

pub few : (b : List Bool) (y : Telegram) → IsShown b y → length y.packets ≤ 33
few b y s = omega (arith, spare (version_of y) y.packets s.packets, used_within b y s, (shown_size b y s).1)

-- what is known once all packets are gone over, which are fewer than were asked
pub passed_all : (b : List Bool) (y : Telegram) (p : Place) → IsShown b y → Passes y.packets 18446744073709551615 p.index p.at → (p.index ≡ length y.packets) × (p.at + 8 ≡ used y.packets)
passed_all b y p s passes =
    let all : p.index ≡ length y.packets = omega (arith, passes.counted, few b y s) in
    (all, passes.place ∙ ap used (take_all p.index y.packets (omega (arith, all))))

-- the packet at a place is read there
pub lent_at : (b : List Bool) (y : Telegram) (i at version : ℕ) → IsShown b y → i < length y.packets → at + 8 ≡ used (take i y.packets) → version ≡ version_of y → (x : Tag × Packet) × (behind : List Bool) × (slice_get y.packets i ≡ Some x) × (read_first version (drop at b) ≡ Ok (x.1, behind))
lent_at b y i at version s h place v =
    let z = next_below b y i at s place h in
    (z.packet, z.behind, z.is, ap (λ (k : ℕ). read_first k (drop at b)) v ∙ ap (read_first (version_of y)) z.bits ∙ first_again (version_of y) z.packet.1 z.behind z.spelt)

-- ---- places

-- the place that was gone to is as asked, if there are that many packets
pub passed_to : (y : Telegram) (most : ℕ) (p : Place) → Passes y.packets most p.index p.at → IsPlace y p
passed_to y most p passes = (omega (arith, passes.counted), passes.place)

-- the place after the packet at a place
pub one_after : (b : List Bool) (y : Telegram) (p q : Place) (n : ℕ) → IsShown b y → IsPlace y p → p.index < length y.packets → n ≡ num (part (p.at + 10) 13 b) → q.index ≡ p.index + 1 → q.at ≡ p.at + n → IsPlace y q
one_after b y p q n s is below size index far =
    let z = next_below b y p.index p.at s is.1 below in
    let far_ = ap (λ (k : ℕ). used (take k y.packets)) index in
    (omega (arith, index, below), omega (arith, far, size, z.size, z.further, is.1, far_))

-- the packet with this tag is read there
pub lent_with : (b : List Bool) (y : Telegram) (p : Place) (version : ℕ) (tag : Tag) → IsShown b y → IsPlace y p → version ≡ version_of y → Some tag ≡ option_map (λ (q : Tag × Packet). q.0) (slice_get y.packets p.index) →
    (x : Packet) × (after : List Bool) × (slice_get y.packets p.index ≡ Some (tag, x)) × (read_first version (drop p.at b) ≡ Ok (x, after))
lent_with b y p version tag s is v e =
    let l = some_left y.packets p.index tag e in
    let t = lent_at b y p.index p.at version s l.1 is.1 v in
    let same : t.0.1 ≡ l.0 = ap (λ (q : Tag × Packet). q.1) (unsome (sym t.2 ∙ l.2)) in
    (l.0, t.1, l.2, t.3 ∙ ap (λ (x : Packet). Ok (x, t.1)) same)
