-- A packet taken out of a telegram, or put in, where its bits stand.
-- From what is left of the bits, or what they become, cut into parts.
use Rattle.std.proofs.Common.{◌≡◌, ◌∙◌, ℕ, suc, ◌+◌, ◌-◌, ◌<◌, ◌≤◌, Bool, List, [], ◌∷◌, ◌++◌, length, take, drop, get_or, None, sym, ap, subst, add-one, append_assoc, length-append, arith}
use Rattle.std.specs.Prelude.{All}
use Rattle.std.specs.List.{insert, remove}
use Rattle.std.proofs.lemmas.List.{drop_more, length-drop, take-append-drop}
use Rattle.std.proofs.lemmas.List.Elements.{All-take, All-drop, All-cons, All-append}
use Rattle.std.proofs.lemmas.Option.{slice_get_within, get_or_from_slice_get}
use Rattle.balise_rules.specs.declared.tag.Tag.{Tag}
use Rattle.balise_rules.specs.Bits.{ones, part, put_at}
use Rattle.balise_rules.specs.Forms.{spelling}
use Rattle.balise_rules.specs.Packet.{Packet, bits_of, width, IsSpelt}
use Rattle.balise_rules.specs.Tagged.{find}
use Rattle.balise_rules.specs.Tags.{same_tag}
use Rattle.balise_rules.specs.Telegram.{Telegram, header, version_of, used, packets_bits, shown, IsLength}
use Rattle.balise_rules.specs.Back.{with_packets}
use Rattle.balise_rules.proofs.TelegramAgain.{fixed_length}
use Rattle.balise_rules.proofs.TelegramRead.{header_fixed}
use Rattle.balise_rules.proofs.TelegramShown.{used_is}
use Rattle.balise_telegram.specs.Reading.{IsHeld}
use Rattle.balise_telegram.specs.Shown.{Gap, IsShown, Spot}
use Rattle.balise_telegram.proofs.Tagging.{Packets, StandsAt}
use Rattle.balise_telegram.proofs.Placing.{held_without, held_insert, removed}
use Rattle.balise_telegram.proofs.Walking.{tail_of, packets_bits-append, cut_at, front_long, shown_size, used_within}
use Rattle.balise_telegram.proofs.Using.{used-take, used-take-le}
use Rattle.balise_telegram.proofs.Splices.{cut_out, cut_in}

-- the other packets, as they are shown over a ground
made : (y : Telegram) (xs ys : Packets) (n : ℕ) → n ≡ used (xs ++ ys) →
    (spelling y.head ++ packets_bits xs) ++ ((packets_bits ys ++ ones 8) ++ drop n y.padding) ≡ shown (with_packets y (xs ++ ys))
made y xs ys n e =
    let h = spelling y.head in
    let a = packets_bits xs in
    let c = packets_bits ys in
    append_assoc h a ((c ++ ones 8) ++ drop n y.padding)
    ∙ ap (λ (l : List Bool). h ++ (a ++ l)) (append_assoc c (ones 8) (drop n y.padding))
    ∙ ap (λ (l : List Bool). h ++ l) (sym (append_assoc a c (ones 8 ++ drop n y.padding)))
    ∙ ap (λ (l : List Bool). h ++ (l ++ (ones 8 ++ drop n y.padding))) (sym (packets_bits-append xs ys))
    ∙ ap (λ (k : ℕ). h ++ (packets_bits (xs ++ ys) ++ (ones 8 ++ drop k y.padding))) e

used-append : (xs ys : Packets) → used (xs ++ ys) ≡ used xs + length (packets_bits ys)
used-append xs ys = omega (arith, used_is (xs ++ ys), used_is xs, ap length (packets_bits-append xs ys), length-append (packets_bits xs) (packets_bits ys))

-- the invariants that the list of packets keeps
pub held : (b : List Bool) (y : Telegram) → IsShown b y → IsHeld y.packets y.padding
held b y s = record { tags = s.tags; size = subst IsLength (sym s.ground) s.size; fits = (let u = used_within b y s in omega (arith, u, s.ground)) }

-- a telegram with other packets, and the bits that it shows
pub with_shown : (b b2 : List Bool) (y : Telegram) (ps : Packets) → IsShown b y → b2 ≡ shown (with_packets y ps) → IsHeld ps y.padding → All (λ p. IsSpelt (version_of y) p.1) ps → IsShown b2 (with_packets y ps)
with_shown b b2 y ps s e h a =
    let fifty = fixed_length header 50 y.head [] header_fixed s.header in
    let left = drop (used ps) y.padding in
    let size : length b2 ≡ length b =
    omega (arith, ap length e, length-append (spelling y.head) (packets_bits ps ++ (ones 8 ++ left)), length-append (packets_bits ps) (ones 8 ++ left), length-append (ones 8) left, fifty, used_is ps, length-drop (used ps) y.padding, h.fits, s.ground) in
    record {
      size = subst IsLength (sym size) s.size;
      header = s.header;
      numbered = s.numbered;
      balise = s.balise;
      tags = h.tags;
      packets = a;
      shows = sym e;
      ground = s.ground ∙ sym size;
    }

-- the packet at a place taken out, by the bits after it moved over it, and the bits that are freed taken from the ground
pub taken_out : (b b1 b2 g : List Bool) (y : Telegram) (i : ℕ) (x : Tag × Packet) (at w u : ℕ) → IsShown b y → i < length y.packets → x ≡ get_or y.packets i x → at + 8 ≡ used (take i y.packets) → w ≡ width x.1 → u ≡ used y.packets → g ≡ y.padding →
    b1 ≡ put_at at (part (at + w) (u - (at + w)) b) b → b2 ≡ put_at (u - w) (part (u - w) w g) b1 → b2 ≡ shown (with_packets y (remove y.packets i))
taken_out b b1 b2 g y i x at w u s below is place wide all ground e1 e2 =
    let ps = y.packets in
    let xs = take i ps in
    let ys = drop (suc i) ps in
    let split : drop i ps ≡ x ∷ ys = drop_more ps i x below ∙ ap (λ (q : Tag × Packet). q ∷ drop (i + 1) ps) (sym is) ∙ ap (λ (k : ℕ). x ∷ drop k ps) (add-one i) in
    let a = spelling y.head ++ packets_bits xs in
    let c = packets_bits ys ++ ones 8 in
    let d = drop (used ps) y.padding in
    let m = u - (at + w) in
    let la : length a ≡ at = front_long b y i at s place in
    let parts : b ≡ a ++ (bits_of x.1 ++ (c ++ d)) =
    sym s.shows ∙ cut_at i y ∙ ap (λ (l : Packets). a ++ (packets_bits l ++ tail_of y)) split
    ∙ ap (λ (l : List Bool). a ++ l) (append_assoc (bits_of x.1) (packets_bits ys) (tail_of y))
    ∙ ap (λ (l : List Bool). a ++ (bits_of x.1 ++ l)) (sym (append_assoc (packets_bits ys) (ones 8) d)) in
    let lc : length c ≡ length (packets_bits ys) + 8 = length-append (packets_bits ys) (ones 8) in
    let whole : used ps ≡ used xs + (width x.1 + length (packets_bits ys)) =
    ap used (sym (append_take i ps)) ∙ used-append xs (drop i ps) ∙ ap (λ (l : Packets). used xs + length (packets_bits l)) split ∙ ap (λ (k : ℕ). used xs + k) (length-append (bits_of x.1) (packets_bits ys)) in
    let mid : length c ≡ m = omega (arith, lc, whole, place, wide, all) in
    let end : at + w + m ≡ used ps = omega (arith, whole, place, wide, all) in
    let short : at + m ≡ u - w = omega (arith, end, all) in
    let size : length g ≡ length b = ap length ground ∙ s.ground in
    let behind : d ≡ drop (at + w + m) g = ap (λ (k : ℕ). drop k y.padding) (sym end) ∙ ap (drop (at + w + m)) (sym ground) in
    let back : b2 ≡ put_at (at + m) (part (at + m) w g) b1 = e2 ∙ ap (λ (k : ℕ). put_at k (part k w g) b1) (sym short) in
    let left : at + m ≡ used (xs ++ ys) = omega (arith, used-append xs ys, place, mid, lc) in
    cut_out a (bits_of x.1) c d g b b1 b2 at w m la (sym wide) mid parts size behind e1 back
    ∙ ap (λ (l : List Bool). a ++ (c ++ drop (at + m) l)) ground ∙ made y xs ys (at + m) left
  where
    append_take : (i : ℕ) (ps : Packets) → take i ps ++ drop i ps ≡ ps
    append_take i ps = take-append-drop i ps

-- a packet put in at a place, by the bits from there on moved after it
pub put_in : (b b1 b2 : List Bool) (y : Telegram) (i : ℕ) (z : Tag × Packet) (at w u : ℕ) → IsShown b y → at + 8 ≡ used (take i y.packets) → w ≡ width z.1 → u ≡ used y.packets → u + w ≤ length b →
    b1 ≡ put_at (at + w) (part at (u - at) b) b → b2 ≡ put_at at (bits_of z.1) b1 → b2 ≡ shown (with_packets y (insert y.packets i z))
put_in b b1 b2 y i z at w u s place wide all room e1 e2 =
    let ps = y.packets in
    let xs = take i ps in
    let ys = drop i ps in
    let a = spelling y.head ++ packets_bits xs in
    let c = packets_bits ys ++ ones 8 in
    let d = drop (used ps) y.padding in
    let m = u - at in
    let la : length a ≡ at = front_long b y i at s place in
    let parts : b ≡ a ++ (c ++ d) =
    sym s.shows ∙ cut_at i y ∙ ap (λ (l : List Bool). a ++ l) (sym (append_assoc (packets_bits ys) (ones 8) d)) in
    let lc : length c ≡ length (packets_bits ys) + 8 = length-append (packets_bits ys) (ones 8) in
    let whole : used ps ≡ used xs + length (packets_bits ys) = ap used (sym (append_take i ps)) ∙ used-append xs ys in
    let mid : length c ≡ m = omega (arith, lc, whole, place, all) in
    let end : at + m ≡ used ps = omega (arith, whole, place, all) in
    let behind : d ≡ drop (at + m) y.padding = ap (λ (k : ℕ). drop k y.padding) (sym end) in
    let fits : at + m + w ≤ length b = omega (arith, end, all, room) in
    let now : at + m + w ≡ used (xs ++ z ∷ ys) =
    omega (arith, used-append xs (z ∷ ys), length-append (bits_of z.1) (packets_bits ys), whole, end, wide) in
    cut_in a (bits_of z.1) c d y.padding b b1 b2 at w m la (sym wide) mid parts behind fits e1 e2
    ∙ ap (λ (l : List Bool). a ++ l) (sym (append_assoc (bits_of z.1) c (drop (at + m + w) y.padding)))
    ∙ ap (λ (l : List Bool). a ++ (l ++ drop (at + m + w) y.padding)) (sym (append_assoc (bits_of z.1) (packets_bits ys) (ones 8)))
    ∙ made y xs (z ∷ ys) (at + m + w) now
  where
    append_take : (i : ℕ) (ps : Packets) → take i ps ++ drop i ps ≡ ps
    append_take i ps = take-append-drop i ps

-- the bits then, and the telegram that they show
pub taken_shown : (b b2 : List Bool) (y : Telegram) (tag : Tag) (i : ℕ) (x : Tag × Packet) → IsShown b y → StandsAt tag y.packets i x → b2 ≡ shown (with_packets y (remove y.packets i)) → IsShown b2 (with_packets y (remove y.packets i))
taken_shown b b2 y tag i x s h e =
    let ps = y.packets in
    let spelt = λ (q : Tag × Packet). IsSpelt (version_of y) q.1 in
    with_shown b b2 y (remove ps i) s e
    (subst (λ (l : Packets). IsHeld l y.padding) (removed tag ps i x s.tags h) (held_without tag ps y.padding (held b y s)))
    (All-append spelt (take i ps) (drop (suc i) ps) (All-take spelt i ps s.packets) (All-drop spelt (suc i) ps s.packets))

pub put_shown : (b b2 : List Bool) (y : Telegram) (i : ℕ) (z : Tag × Packet) → IsShown b y → find same_tag z.0 y.packets ≡ None → IsSpelt (version_of y) z.1 → used y.packets + width z.1 ≤ length b → b2 ≡ shown (with_packets y (insert y.packets i z)) → IsShown b2 (with_packets y (insert y.packets i z))
put_shown b b2 y i z s new word room e =
    let ps = y.packets in
    let spelt = λ (q : Tag × Packet). IsSpelt (version_of y) q.1 in
    with_shown b b2 y (insert ps i z) s e
    (held_insert ps y.padding i z (held b y s) new (omega (arith, room, s.ground)))
    (All-append spelt (take i ps) (z ∷ drop i ps) (All-take spelt i ps s.packets) (All-cons spelt z (drop i ps) word (All-drop spelt i ps s.packets)))

-- a packet lies within what is used, with packet 255 after it
pub record Fitting (b : List Bool) (y : Telegram) (i at w u : ℕ) (x : Tag × Packet) : Type 0 where
  pub below : i < length y.packets
  pub is : x ≡ get_or y.packets i x
  pub end : at + w + 8 ≤ u
  pub most : u ≤ length b
  pub small : length b ≤ 830

pub spot_fits : (b : List Bool) (y : Telegram) (i at w u : ℕ) → IsShown b y → (p : Spot y i at w u) → Fitting b y i at w u p.packet
spot_fits b y i at w u s p =
    let ps = y.packets in
    let below = slice_get_within ps i p.packet p.is in
    let got : get_or ps i p.packet ≡ p.packet = get_or_from_slice_get ps i p.packet p.packet p.is in
    let more = used-take ps i p.packet below in
    let one : width (get_or ps i p.packet).1 ≡ width p.packet.1 = ap (λ (q : Tag × Packet). width q.1) got in
    let least = used-take-le ps (i + 1) in
    let place = p.place in let all = p.all in let wide = p.wide in
    let within = used_within b y s in
    record {
      below = below;
      is = sym got;
      end = omega (arith, more, one, least, place, all, wide);
      most = omega (arith, all, within);
      small = (shown_size b y s).1;
    }

pub gap_fits : (b : List Bool) (y : Telegram) (i at w u : ℕ) → IsShown b y → Gap y i at w u → (at + 8 ≤ u) × (u + w ≤ length b) × (length b ≤ 830)
gap_fits b y i at w u s p =
    let least = used-take-le y.packets i in
    let place = p.place in let all = p.all in let room = p.room in
    (omega (arith, least, place, all), omega (arith, room, s.ground), (shown_size b y s).1)
