-- What reading answers by the number and the length at the front of the bits.
use Rattle.std.proofs.Common.{◌≡◌, ◌≢◌, ℕ, ◌+◌, ◌-◌, ◌<◌, ◌≤◌, Bool, true, false, ◌||◌, eqb, ltb, List, [], length, take, drop, Err, refl, ap, ◌∙◌, arith}
use Rattle.std.proofs.Math.Bool.{or-true}
use Rattle.std.proofs.lemmas.Bool.{lt-ltb, le-ltb, ne_eqb}
use Rattle.std.proofs.lemmas.List.{take-take, drop-take}
use Rattle.balise_rules.specs.declared.refusal.Refusal.TheVariants.{PacketCut, LayoutMismatch, PacketZero}
use Rattle.balise_rules.specs.Bits.{num}
use Rattle.balise_rules.specs.Forms.{read_form}
use Rattle.balise_rules.specs.Packets.{packet}
use Rattle.balise_rules.specs.Packet.{length_said, is_cut, read_packet, read_body, read_first}
use Rattle.balise_layout.specs.First.{Bounded}

pub refuse_short : (version : ℕ) (b : List Bool) → length b < 8 → read_first version b ≡ Err PacketCut
unfolding read_first
refuse_short version b h = let e : ltb (length b) 8 ≡ true = lt-ltb _ _ h in rw e refl

pub refuse_zero : (version : ℕ) (b : List Bool) → 8 ≤ length b → num (take 8 b) ≡ 0 → read_first version b ≡ Err PacketZero
unfolding read_first
refuse_zero version b h z =
    let e : ltb (length b) 8 ≡ false = le-ltb _ _ h in
    rw (e, z) refl

pub refuse_end : (version : ℕ) (b : List Bool) → 8 ≤ length b → num (take 8 b) ≡ 255 → read_first version b ≡ Err LayoutMismatch
unfolding read_first
refuse_end version b h z =
    let e : ltb (length b) 8 ≡ false = le-ltb _ _ h in
    rw (e, z) refl

refuse_cut : (version : ℕ) (b : List Bool) → 8 ≤ length b → num (take 8 b) ≢ 0 → num (take 8 b) ≢ 255 → is_cut b ≡ true → read_first version b ≡ Err PacketCut
unfolding read_first read_body
refuse_cut version b h z n c =
    let e : ltb (length b) 8 ≡ false = le-ltb _ _ h in
    let zero_not : eqb (num (take 8 b)) 0 ≡ false = ne_eqb _ _ z in
    let end_not : eqb (num (take 8 b)) 255 ≡ false = ne_eqb _ _ n in
    rw (e, zero_not, end_not, c) refl

pub refuse_few : (version : ℕ) (b : List Bool) → 8 ≤ length b → num (take 8 b) ≢ 0 → num (take 8 b) ≢ 255 → length b < 23 → read_first version b ≡ Err PacketCut
refuse_few version b h z n few =
    let e : ltb (length b) 23 ≡ true = lt-ltb _ _ few in
    refuse_cut version b h z n (rw e refl)

pub refuse_small : (version : ℕ) (b : List Bool) → 8 ≤ length b → num (take 8 b) ≢ 0 → num (take 8 b) ≢ 255 → length_said b < 23 → read_first version b ≡ Err PacketCut
refuse_small version b h z n small =
    let e : ltb (length_said b) 23 ≡ true = lt-ltb _ _ small in
    refuse_cut version b h z n (rw (e, or-true (ltb (length b) 23)) refl)

pub refuse_long : (version : ℕ) (b : List Bool) → 8 ≤ length b → num (take 8 b) ≢ 0 → num (take 8 b) ≢ 255 → length b < length_said b → read_first version b ≡ Err PacketCut
refuse_long version b h z n long =
    let e : ltb (length b) (length_said b) ≡ true = lt-ltb _ _ long in
    refuse_cut version b h z n (rw e (or-true (ltb (length b) 23 || ltb (length_said b) 23)))

-- ---- within its bounds

pub bounded_reads : (version number size : ℕ) (b : List Bool) → Bounded b number size → read_first version b ≡ read_packet (drop size b) (read_form (packet version) [] (take size b))
unfolding read_first read_body
bounded_reads version number size b h =
    let n = h.has_number in
    let long : ltb (length b) 8 ≡ false = le-ltb _ _ (omega (arith, h.least, h.within)) in
    let few : ltb (length b) 23 ≡ false = le-ltb _ _ (omega (arith, h.least, h.within)) in
    let small : ltb size 23 ≡ false = le-ltb _ _ h.least in
    let past : ltb (length b) size ≡ false = le-ltb _ _ h.within in
    let zero_not : eqb number 0 ≡ false = h.not_zero in
    let end_not : eqb number 255 ≡ false = h.not_end in
    let s = h.has_size in
    rw (n, s, long, zero_not, end_not, few, small, past) refl

pub bounded_number : (number size : ℕ) (b : List Bool) → Bounded b number size → num (take 8 (take size b)) ≡ number
bounded_number number size b h = ap num (take-take 8 size b (omega (arith, h.least))) ∙ h.has_number

pub bounded_size : (number size : ℕ) (b : List Bool) → Bounded b number size → length_said (take size b) ≡ size
bounded_size number size b h =
    let split : size ≡ 10 + (size - 10) = omega (arith, h.least) in
    let front : drop 10 (take size b) ≡ take (size - 10) (drop 10 b) = ap (λ (k : ℕ). drop 10 (take k b)) split ∙ drop-take 10 (size - 10) b in
    ap (λ (x : List Bool). num (take 13 x)) front ∙ ap num (take-take 13 (size - 10) (drop 10 b) (omega (arith, h.least))) ∙ h.has_size
