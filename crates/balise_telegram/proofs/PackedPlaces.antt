-- Going over the packets of a telegram that is held as its bits: what stands from a place on.
-- From what is shown, one packet after another.
use Rattle.std.proofs.Common.{◌≡◌, ◌∙◌, ℕ, ◌+◌, ◌-◌, ◌≤◌, Bool, true, inl, inr, List, [], ◌∷◌, ◌++◌, length, take, drop, Option, Some, None, refl, sym, ap, append_assoc, length-append, arith}
use Rattle.std.proofs.lemmas.List.{drop-drop, length-drop, length-replicate}
use Rattle.balise_rules.specs.declared.tag.Tag.{Tag}
use Rattle.balise_rules.specs.Bits.{num, ones, part}
use Rattle.balise_rules.specs.Forms.{spelling}
use Rattle.balise_rules.specs.Packet.{Packet, bits_of, field_of, width, IsSpelt}
use Rattle.balise_rules.specs.Tags.{same_tag}
use Rattle.balise_rules.specs.Telegram.{Telegram, header, version_of, used, packets_bits, IsLength, IsRead, read_header, read_telegram}
use Rattle.balise_rules.specs.declared.variable.Var.{Var}
use Rattle.balise_rules.specs.Variables.{width_of}
use Rattle.balise_rules.specs.Packets.{packet}
use Rattle.balise_rules.specs.Tagged.{find}
use Rattle.balise_rules.proofs.Tests.{split_on}
use Rattle.balise_rules.proofs.Numbers.{num-bits_fit}
use Rattle.balise_layout.specs.Held.{before, further}
use Rattle.balise_layout.proofs.Places.{standing, field_fits}
use Rattle.balise_rules.proofs.Cases.{unsome}
use Rattle.balise_rules.proofs.TelegramAgain.{header_again, fixed_length}
use Rattle.balise_rules.proofs.TelegramRead.{header_fixed}
use Rattle.balise_rules.proofs.TelegramShown.{telegram_read, used_is}
use Rattle.balise_telegram.specs.Packed.{telegram_of, packet_place, IsTelegram}
use Rattle.balise_telegram.proofs.Tagging.{Packets}

-- what is held is what is read
pub held_read : (b : List Bool) → IsTelegram b → IsRead b (telegram_of (read_telegram b))
held_read b e = telegram_read b (telegram_of (read_telegram b)) e

-- a telegram has room for its header and packet 255, and 830 bits at most
pub length_within : (n : ℕ) → IsLength n → (58 ≤ n) × (n ≤ 830)
length_within n (inl e) = (omega (arith, e), omega (arith, e))
length_within n (inr e) = (omega (arith, e), omega (arith, e))

-- the padding is as long as the telegram, and what is used lies within
pub padding_long : (b : List Bool) (y : Telegram) → IsRead b y → (length b ≡ length y.padding) × (used y.packets ≤ length y.padding)
padding_long b y r =
    let rest = packets_bits y.packets ++ (ones 8 ++ drop (used y.packets) y.padding) in
    let fifty = fixed_length header 50 y.head [] header_fixed r.header in
    let whole : length b ≡ length (spelling y.head) + (length (packets_bits y.packets) + (8 + length (drop (used y.packets) y.padding))) =
    ap length (sym r.shows) ∙ length-append (spelling y.head) rest ∙ ap (λ (k : ℕ). length (spelling y.head) + k) (length-append (packets_bits y.packets) (ones 8 ++ drop (used y.packets) y.padding) ∙ ap (λ (k : ℕ). length (packets_bits y.packets) + k) (length-append (ones 8) (drop (used y.packets) y.padding))) in
    let padded : length y.padding ≡ used y.packets + (length b - used y.packets) = ap length r.padding ∙ length-append (ones (used y.packets)) (drop (used y.packets) b) ∙ (let a = length-replicate (used y.packets) true in let d = length-drop (used y.packets) b in omega (arith, a, d)) in
    let front = used_is y.packets in (omega (arith, whole, padded, front, fifty), omega (arith, padded))

pub head_is : (b : List Bool) (y : Telegram) → IsRead b y → read_header b ≡ y.head
head_is b y r = (header_again y b (packets_bits y.packets ++ (ones 8 ++ drop (used y.packets) y.padding)) r.header r.numbered (sym r.shows)).0

-- the packet with a tag, and that its bits stand at a place
pub record Located (b : List Bool) (y : Telegram) (tag : Tag) (ps : Packets) (place : ℕ) : Type 0 where
  pub packet : Packet
  pub is : find same_tag tag ps ≡ Some packet
  pub spelt : IsSpelt (version_of y) packet
  pub behind : List Bool
  pub shows : drop place b ≡ bits_of packet ++ behind

pub not_located : (tag : Tag) (at : ℕ) (left : Packets) → packet_place at tag left ≡ None → find same_tag tag left ≡ None
not_located tag at [] e = refl
not_located tag at (x ∷ xs) e = split_on (same_tag tag x.0)
    (λ d. absurd (let h = simp d at e in cc))
    (λ d. simp d (not_located tag (at + width x.1) xs (simp d at e)))

-- a field of a packet that stands at a place
pub record FieldStands (b : List Bool) (v : Var) (k : ℕ) (p : Packet) (at : ℕ) : Type 0 where
  pub within : at + width_of v ≤ length b
  pub is : field_of v k p.fields ≡ Some (num (part at (width_of v) b))

pub field_stands : (b : List Bool) (y : Telegram) (tag : Tag) (ps : Packets) (place : ℕ) (v : Var) (k at : ℕ) → (l : Located b y tag ps place) → Some at ≡ further place (before (v, k) l.packet.fields) → place ≤ length b → FieldStands b v k l.packet at
field_stands b y tag ps place v k at l e within = by (before (v, k) l.packet.fields) refl e
  where
    by : (o : Option ℕ) → before (v, k) l.packet.fields ≡ o → Some at ≡ further place o → FieldStands b v k l.packet at
    by None is h = absurd cc
    by (Some d) is h =
        let p = l.packet in
        let raw = p.rest ++ l.behind in
        let s = standing v k p.fields raw d is in
        let whole : drop place b ≡ spelling p.fields ++ raw = l.shows ∙ append_assoc (spelling p.fields) p.rest l.behind in
        let far : at ≡ place + d = unsome h in
        let there : drop at b ≡ drop d (spelling p.fields ++ raw) = ap (λ (j : ℕ). drop j b) far ∙ sym (drop-drop d place b) ∙ ap (drop d) whole in
        let fit = field_fits (packet (version_of y)) p.fields p.rest v k s.value l.spelt.form s.is in
        let reads : num (part at (width_of v) b) ≡ s.value = ap (λ (x : List Bool). num (take (width_of v) x)) there ∙ ap num s.reads ∙ num-bits_fit (width_of v) s.value fit in
        record {
          within = omega (arith, s.within, far, ap length whole, length-drop place b, within);
          is = s.is ∙ ap Some (sym reads);
        }

pub further_none : (w : ℕ) (o : Option ℕ) → further w o ≡ None → o ≡ None
further_none w None h = refl
further_none w (Some d) h = absurd cc
