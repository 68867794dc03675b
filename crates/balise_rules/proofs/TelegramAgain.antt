-- A telegram that the bits are is read from them: reading gives just the one that is there.
-- From reading each packet again, header first and packet 255 last.
use Rattle.std.proofs.Common.{◌≡◌, ℕ, zero, suc, ◌-◌, ◌≤◌, ◌<◌, Bool, true, false, ltb, eqb, ◌||◌, inl, inr, List, [], ◌∷◌, ◌++◌, length, take, drop, Ok, refl, sym, ap, ◌∙◌, append_assoc, arith, length-append}
use Rattle.std.specs.Prelude.{All}
use Rattle.std.proofs.lemmas.Bool.{le-ltb}
use Rattle.std.proofs.lemmas.List.{take_at, drop_at, append-nil}
use Rattle.std.proofs.lemmas.List.Elements.{All-head, All-tail}
use Rattle.balise_rules.specs.declared.variable.Var.TheVariants.{MVersion}
use Rattle.balise_rules.specs.declared.tag.Tag.{Tag}
use Rattle.balise_rules.specs.declared.tag.Tag.TheVariants.{Base}
use Rattle.balise_rules.specs.Variables.{width_of}
use Rattle.balise_rules.specs.Bits.{num, bits, ones}
use Rattle.balise_rules.specs.Forms.{Form, done, shut, never, valued, Fields, Matches, Numbered, spelling, read_form}
use Rattle.balise_rules.specs.Packet.{Packet, bits_of, value, IsSpelt}
use Rattle.balise_rules.specs.Telegram.{header, Telegram, version_of, is_balise, used, packets_bits, TaggedFrom, IsLength, IsRead, shown, read_packets, fields_or_none, read_header, read_telegram}
use Rattle.balise_rules.proofs.Numbers.{length-bits}
use Rattle.balise_rules.proofs.Spelt.{read_again}
use Rattle.balise_rules.proofs.PacketAgain.{front_of, body_again}
use Rattle.balise_rules.proofs.TelegramRead.{Fixed, header_fixed}
use Rattle.balise_rules.proofs.TelegramShown.{used_is}

end_read : (most version n : ℕ) (behind : List Bool) → read_packets (suc most) version n (ones 8 ++ behind) ≡ Ok ([], behind)
unfolding read_packets num
end_read most version n behind =
    let long : ltb (length (ones 8 ++ behind)) 8 ≡ false = le-ltb _ _ (omega (arith, length-append (ones 8) behind)) in
    rw long refl

-- one packet read, where the rest is
step_read : (most version n : ℕ) (p : Packet) (ps : List (Tag × Packet)) (rest behind : List Bool) → IsSpelt version p → read_packets most version (suc n) rest ≡ Ok (ps, behind) → read_packets (suc most) version n (bits_of p ++ rest) ≡ Ok ((Base n, p) ∷ ps, behind)
unfolding read_packets
step_read most version n p ps rest behind s e =
    let f = front_of version p s in
    let long : ltb (length (bits_of p ++ rest)) 8 ≡ false = le-ltb _ _ (omega (arith, length-append (bits_of p) rest, f.least)) in
    rw (long, f.is rest, f.some, f.no_end, body_again version p rest s, e) refl

pub packets_again : (most version n : ℕ) (ps : List (Tag × Packet)) (behind : List Bool) → length ps < most → TaggedFrom n ps → All (λ p. IsSpelt version p.1) ps → read_packets most version n (packets_bits ps ++ (ones 8 ++ behind)) ≡ Ok (ps, behind)
packets_again zero version n ps behind h t a = absurd (omega arith)
packets_again (suc most) version n [] behind h t a = end_read most version n behind
packets_again (suc most) version n ((g, p) ∷ ps) behind h t a =
    let more = packets_again most version (suc n) ps behind (omega arith) t.1 (All-tail (λ (q : Tag × Packet). IsSpelt version q.1) (g, p) ps a) in
    ap (read_packets (suc most) version n) (append_assoc (bits_of p) (packets_bits ps) (ones 8 ++ behind))
    ∙ step_read most version n p ps (packets_bits ps ++ (ones 8 ++ behind)) behind (All-head (λ (q : Tag × Packet). IsSpelt version q.1) (g, p) ps a) more
    ∙ ap (λ (x : Tag). Ok ((x, p) ∷ ps, behind)) (sym t.0)

-- fields of variables alone take their widths
pub fixed_length : (form : Form) (n : ℕ) (fs : Fields) (rest : List Bool) → Fixed form n → Matches form fs rest → length (spelling fs) ≡ n
unfolding spelling
fixed_length done n [] rest f m = sym f
fixed_length done n (g ∷ fs) rest f m = absurd m
fixed_length shut n [] rest f m = sym f
fixed_length shut n (g ∷ fs) rest f m = absurd m
fixed_length never n fs rest f m = absurd m
fixed_length (valued v next) n [] rest f m = absurd m
fixed_length (valued v next) n (g ∷ fs) rest f m =
    let more = fixed_length (next g.1) (n - width_of v) fs rest (f.1 g.1) m.2 in
    let own : length (bits (width_of g.0.0) g.1) ≡ width_of v = length-bits (width_of g.0.0) g.1 ∙ ap width_of m.0 in
    omega (arith, length-append (bits (width_of g.0.0) g.1) (spelling fs), own, more, f.0)

-- each packet has some bits
few : (version : ℕ) (ps : List (Tag × Packet)) → All (λ p. IsSpelt version p.1) ps → length ps ≤ length (packets_bits ps)
few version [] a = omega arith
few version (p ∷ ps) a =
    let f = front_of version p.1 (All-head (λ (q : Tag × Packet). IsSpelt version q.1) p ps a) in
    let more = few version ps (All-tail (λ (q : Tag × Packet). IsSpelt version q.1) p ps a) in
    omega (arith, length-append (bits_of p.1) (packets_bits ps), f.least, more)

size_test : (n : ℕ) → IsLength n → (eqb n 210 || eqb n 830) ≡ true
size_test n (inl e) = rw e refl
size_test n (inr e) = rw e refl

pub header_again : (y : Telegram) (b rest : List Bool) → Matches header y.head [] → Numbered y.head → b ≡ spelling y.head ++ rest → (read_header b ≡ y.head) × (drop 50 b ≡ rest)
unfolding read_header
header_again y b rest m u e =
    let fifty = fixed_length header 50 y.head [] header_fixed m in
    let own : take 50 b ≡ spelling y.head ++ [] = ap (take 50) e ∙ take_at (spelling y.head) rest 50 fifty ∙ sym (append-nil (spelling y.head)) in
    (ap (λ (x : List Bool). fields_or_none (read_form header [] x)) own ∙ ap fields_or_none (read_again header [] y.head [] m u), ap (drop 50) e ∙ drop_at (spelling y.head) rest 50 fifty)

-- what is shown after packet 255 is the padding
pub padding_shown : (y : Telegram) → Matches header y.head [] → drop (used y.packets) (shown y) ≡ drop (used y.packets) y.padding
padding_shown y m =
    let behind = drop (used y.packets) y.padding in
    let before = spelling y.head ++ (packets_bits y.packets ++ ones 8) in
    let fifty = fixed_length header 50 y.head [] header_fixed m in
    let two : shown y ≡ before ++ behind = ap (λ (x : List Bool). spelling y.head ++ x) (sym (append_assoc (packets_bits y.packets) (ones 8) behind)) ∙ sym (append_assoc (spelling y.head) (packets_bits y.packets ++ ones 8) behind) in
    let count : length before ≡ used y.packets = omega (arith, length-append (spelling y.head) (packets_bits y.packets ++ ones 8), length-append (packets_bits y.packets) (ones 8), fifty, used_is y.packets) in
    ap (drop (used y.packets)) two ∙ drop_at before behind (used y.packets) count

pub telegram_again : (b : List Bool) (y : Telegram) → IsRead b y → read_telegram b ≡ Ok y
unfolding read_telegram
telegram_again b y r =
    let behind = drop (used y.packets) y.padding in
    let rest = packets_bits y.packets ++ (ones 8 ++ behind) in
    let h = header_again y b rest r.header r.numbered (sym r.shows) in
    let fifty = fixed_length header 50 y.head [] header_fixed r.header in
    let most : length y.packets < length b = omega (arith, ap length (sym r.shows), length-append (spelling y.head) rest, length-append (packets_bits y.packets) (ones 8 ++ behind), fifty, few (version_of y) y.packets r.packets) in
    let packets : read_packets (length b) (value MVersion 0 (read_header b)) 0 (drop 50 b) ≡ Ok (y.packets, behind) =
    ap (λ (x : Fields). read_packets (length b) (value MVersion 0 x) 0 (drop 50 b)) h.0 ∙ ap (read_packets (length b) (version_of y) 0) h.1 ∙ packets_again (length b) (version_of y) 0 y.packets behind most r.tags r.packets in
    let left : drop (used y.packets) b ≡ behind = ap (drop (used y.packets)) (sym r.shows) ∙ padding_shown y r.header in
    let padding : ones (used y.packets) ++ behind ≡ y.padding = ap (λ (x : List Bool). ones (used y.packets) ++ x) (sym left) ∙ sym r.padding in
    let balise : is_balise (read_header b) ≡ true = ap is_balise h.0 ∙ r.balise in
    rw (size_test (length b) r.size, balise, packets, h.0) (ap (λ (x : List Bool). Ok (record { head = y.head; packets = y.packets; padding = x })) padding)
