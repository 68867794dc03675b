-- The digits that are spelled are explained as the same fields.
use Rattle.std.proofs.Common.{◌≡◌, ◌≢◌, ◌∙◌, ◌+◌, ◌≤◌, inl, inr, ℕ, zero, suc, Bool, true, false, nat_lt, List, [], ◌∷◌, ◌++◌, length, drop, codes, decimal, Option, Some, None, Result, Ok, Err, refl, sym, ap, subst, arith, append-nil, length-append}
use Rattle.std.proofs.lemmas.Bool.{ltb-false}
use Rattle.std.proofs.lemmas.List.{drop_at, length-replicate}
use Rattle.balise_rules.specs.declared.refusal.Refusal.{Refusal}
use Rattle.balise_rules.specs.declared.refusal.Refusal.TheVariants as refusal
use Rattle.balise_rules.specs.Addresses.{packet_in}
use Rattle.balise_rules.specs.Bits.{zeros}
use Rattle.balise_rules.specs.Digits.{all_zero, fill, hex_of, read_digits, read_hex}
use Rattle.balise_rules.specs.Packet.{Packet, IsSpelt, bits_of, length_said, read_body, read_first}
use Rattle.balise_rules.specs.Telegram.{IsLength, Telegram, read_telegram}
use Rattle.balise_rules.proofs.PacketAgain.{first_again, said_again}
use Rattle.balise_rules.proofs.TelegramShown.{telegram_read}
use Rattle.balise_codec.specs.declared.explain.PacketFields.{PacketFields}
use Rattle.balise_codec.specs.declared.explain.TelegramFields.{TelegramFields}
use Rattle.balise_codec.specs.Places.{Explains, IsPlaced}
use Rattle.balise_text.specs.DigitWords.{bits_due, some_word}
use Rattle.balise_text.specs.Texts.{Text, line_of}
use Rattle.balise_text.specs.Words.{Word, most_number, words_of}
use Rattle.balise_text.proofs.Decimals.{number_of_decimal}
use Rattle.balise_text.proofs.HexDigits.{digits_high, due_read, hex_count, hex_read}
use Rattle.balise_text.proofs.High.{AllHigh, all_high_lack, decimal_high, is_high}
use Rattle.balise_text.proofs.Marked.{parts_marked}
use Rattle.balise_fields.specs.declared.explained.Explained.{Explained}
use Rattle.balise_fields.specs.declared.explained.Explained.TheVariants as explained
use Rattle.balise_fields.specs.DigitLines.{both, packet_digits, packet_words}
use Rattle.balise_fields.specs.Explaining.{IsAlone, IsAloneWhole, IsBits, IsExplained, IsPacket, IsPlan, IsTelegram}
use Rattle.balise_fields.proofs.PacketDigits.{IsWhole, after_tests, word_read}
use Rattle.balise_items.proofs.SpeltRead.{spelt_is_packet, spelt_is_telegram}
use Rattle.balise_fields_run.specs.SpelledBack.{PacketIsExplainedBack, TelegramIsExplainedBack}

words_are : (w : Word) (ws : List Word) → AllHigh (w ∷ ws) → words_of (line_of (w ∷ ws)) ≡ w ∷ ws
words_are w ws h = parts_marked 32 w ws (all_high_lack 32 (w ∷ ws) (omega arith) h)

hex_high : (b : List Bool) → is_high (hex_of b) ≡ true
hex_high b = digits_high (b ++ zeros (fill (length b)))

-- a line of another number of words is none of a plan
no_plan : (t : Text) (x : Explained) → length (words_of t) ≢ 2 → length (words_of t) ≢ 1 → IsPlan t x → ⊥
no_plan t explained.Plan two one p = two (ap (λ (s : Text). length (words_of s)) p)
no_plan t explained.Group two one p = one (ap (λ (s : Text). length (words_of s)) p)
no_plan t (explained.Telegram n f) two one p = p
no_plan t (explained.Begun y) two one p = p
no_plan t (explained.Packet v f) two one p = p
no_plan t (explained.PacketBegun v fs f) two one p = p
no_plan t (explained.Digits f) two one p = p

-- ---- a telegram

one_word : (b : List Bool) → words_of (hex_of b) ≡ hex_of b ∷ []
one_word b = ap words_of (sym (append-nil (hex_of b))) ∙ words_are (hex_of b) [] (hex_high b, tt)

due : (b : List Bool) → IsLength (length b) → bits_due (length (hex_of b)) ≡ length b
due b (inl e) = let n : length (hex_of b) ≡ 54 = omega (arith, hex_count b, e) in ap bits_due n ∙ sym e
due b (inr e) = let n : length (hex_of b) ≡ 208 = omega (arith, hex_count b, e) in ap bits_due n ∙ sym e

hex_plan : (b : List Bool) (x : Explained) → IsLength (length b) → IsPlan (hex_of b) x → ⊥
hex_plan b explained.Plan (inl e) p = let l : length (hex_of b) ≡ 6 = ap length p in absurd (omega (arith, hex_count b, e, l))
hex_plan b explained.Plan (inr e) p = let l : length (hex_of b) ≡ 6 = ap length p in absurd (omega (arith, hex_count b, e, l))
hex_plan b explained.Group (inl e) p = let l : length (hex_of b) ≡ 5 = ap length p in absurd (omega (arith, hex_count b, e, l))
hex_plan b explained.Group (inr e) p = let l : length (hex_of b) ≡ 5 = ap length p in absurd (omega (arith, hex_count b, e, l))
hex_plan b (explained.Telegram n f) e p = p
hex_plan b (explained.Begun y) e p = p
hex_plan b (explained.Packet v f) e p = p
hex_plan b (explained.PacketBegun v fs f) e p = p
hex_plan b (explained.Digits f) e p = p

no_packet : (b : List Bool) → packet_digits (hex_of b) ≡ None
no_packet b = ap packet_words (one_word b)

bits_found : (b : List Bool) (x : Explained) (y : Telegram) → read_telegram b ≡ Ok y → IsBits b x → (t : TelegramFields) × (x ≡ explained.Telegram (length b) t) × Explains b y t
bits_found b (explained.Telegram n t) y r (l, (z, s, e)) =
    let same : z ≡ y = (let k : ◌≡◌ {A = Result Telegram Refusal} (Ok z) (Ok y) = sym s ∙ r in cc) in
    (t, ap (λ (k : ℕ). explained.Telegram k t) l, subst (λ (w : Telegram). Explains b w t) same e)
bits_found b (explained.Begun z) y r p = absurd (let k : ◌≡◌ {A = Result Telegram Refusal} (Err p.0.0) (Ok y) = sym p.0.1 ∙ r in cc)
bits_found b explained.Plan y r p = absurd p
bits_found b explained.Group y r p = absurd p
bits_found b (explained.Packet v f) y r p = absurd p
bits_found b (explained.PacketBegun v fs f) y r p = absurd p
bits_found b (explained.Digits f) y r p = absurd p

not_refused : (e : Refusal) (r : Result (List Bool) Refusal) (b : List Bool) → r ≡ Ok b → r ≡ Err e → ⊥
not_refused e r b h k = let m : ◌≡◌ {A = Result (List Bool) Refusal} (Ok b) (Err e) = sym h ∙ k in cc

telegram_found : (b : List Bool) (x : Explained) (y : Telegram) → read_telegram b ≡ Ok y → IsLength (length b) → IsTelegram (hex_of b) x → (t : TelegramFields) × (x ≡ explained.Telegram (length b) t) × Explains b y t
telegram_found b x y r l t =
    let read : read_hex (bits_due (length (hex_of b))) (hex_of b) ≡ Ok b = ap (λ (n : ℕ). read_hex n (hex_of b)) (due b l) ∙ due_read b in
    elim t [
      | inl p ↦ (let same : p.0 ≡ b = (let k : ◌≡◌ {A = Result (List Bool) Refusal} (Ok p.0) (Ok b) = sym p.1 ∙ read in cc) in bits_found b x y r (subst (λ (c : List Bool). IsBits c x) same p.2))
      | inr q ↦ elim q [
        | inl p ↦ absurd (not_refused refusal.BadHex _ b read p.0)
        | inr s ↦ elim s [
          | inl p ↦ absurd (not_refused refusal.BadLength _ b read p.0)
          | inr p ↦ absurd (not_refused refusal.SpareBits _ b read p.0)
        ]
      ]
    ]

pub telegram_is_explained_back : TelegramIsExplainedBack
telegram_is_explained_back end i b x size h e =
    let g = spelt_is_telegram end i b size h in
    let long = (telegram_read b g.0 g.1.read).size in
    let found : (t : TelegramFields) × (x ≡ explained.Telegram (length b) t) × Explains b g.0 t = elim e [
      | inl p ↦ absurd (hex_plan b x long p)
      | inr q ↦ elim q [
        | inl p ↦ absurd (let k : ◌≡◌ {A = Option (ℕ × Word)} None (Some (p.0, p.1)) = sym (no_packet b) ∙ p.2 in cc)
        | inr p ↦ telegram_found b x g.0 g.1.read long p.1
      ]
    ] in
    (g.0, found.0, found.1, g.1, found.2)

-- ---- a packet

zeros_are : (n : ℕ) → all_zero (zeros n) ≡ true
zeros_are zero = refl
zeros_are (suc n) = zeros_are n

whole_again : (version : ℕ) (p : Packet) (after : List Bool) → IsSpelt version p → IsWhole (bits_of p ++ after)
unfolding read_first read_body
whole_again version p after s =
    let b = bits_of p ++ after in
    let h = first_again version p after s in
    after_tests b
    (λ e. absurd (let m = simp e at h in cc))
    (λ e f. absurd (let m = simp (e, f) at h in cc))
    (λ e f g. absurd (let m = simp (e, f, g) at h in cc))
    (λ e f g i. absurd (let m = simp (e, f, g, i) at h in cc))
    (λ w. w)

in_again : (version : ℕ) (p : Packet) → IsSpelt version p → packet_in version (bits_of p ++ zeros (fill (length (bits_of p)))) ≡ Ok p
in_again version p s =
    let n = length (bits_of p) in
    let after = zeros (fill n) in
    let b = bits_of p ++ after in
    let said : length_said b ≡ n = said_again version p after s in
    let long : length b ≡ length_said b + fill (length_said b) = length-append (bits_of p) after ∙ ap (λ (k : ℕ). n + k) (length-replicate (fill n) false) ∙ ap (λ (k : ℕ). k + fill k) (sym said) in
    let none : all_zero (drop (length_said b) b) ≡ true = ap (λ (k : ℕ). all_zero (drop k b)) said ∙ ap all_zero (drop_at (bits_of p) after n refl) ∙ zeros_are (fill n) in
    word_read version b (whole_again version p after s) long none p after (first_again version p after s)

not_err : (e : Refusal) (p : Packet) (r : Result Packet Refusal) → r ≡ Ok p → r ≡ Err e → ⊥
not_err e p r h k = let m : ◌≡◌ {A = Result Packet Refusal} (Ok p) (Err e) = sym h ∙ k in cc

whole_found : (version : ℕ) (b : List Bool) (x : Explained) (p : Packet) → packet_in version b ≡ Ok p → IsAloneWhole version b x → (f : PacketFields) × (x ≡ explained.Packet version f) × IsPlaced 0 p f
whole_found version b (explained.Packet v f) p h (e, (q, k, i)) =
    let same : q ≡ p = (let m : ◌≡◌ {A = Result Packet Refusal} (Ok q) (Ok p) = sym k ∙ h in cc) in
    (f, ap (λ (n : ℕ). explained.Packet n f) e, subst (λ (w : Packet). IsPlaced 0 w f) same i)
whole_found version b explained.Plan p h w = absurd w
whole_found version b explained.Group p h w = absurd w
whole_found version b (explained.Telegram n t) p h w = absurd w
whole_found version b (explained.Begun y) p h w = absurd w
whole_found version b (explained.PacketBegun v fs f) p h w = absurd w
whole_found version b (explained.Digits f) p h w = absurd w

alone_found : (version : ℕ) (b : List Bool) (x : Explained) (p : Packet) → packet_in version b ≡ Ok p → IsAlone version b x → (f : PacketFields) × (x ≡ explained.Packet version f) × IsPlaced 0 p f
alone_found version b x p h a = elim a [
  | inl w ↦ whole_found version b x p h w
  | inr q ↦ elim q [
    | inl k ↦ absurd (not_err refusal.BadLength p _ h k.0)
    | inr s ↦ elim s [
      | inl k ↦ absurd (not_err refusal.SpareBits p _ h k.0)
      | inr k ↦ absurd (not_err k.0 p _ h k.1)
    ]
  ]
]

some_so : (w : Word) → 0 ≢ length w → some_word w ≡ Some w
some_so [] h = absurd (h refl)
some_so (b ∷ bs) h = refl

packet_found : (version : ℕ) (p : Packet) (x : Explained) → IsSpelt version p → IsPacket version (hex_of (bits_of p)) x → (f : PacketFields) × (x ≡ explained.Packet version f) × IsPlaced 0 p f
packet_found version p x s k =
    let b = bits_of p in
    let read : read_digits (hex_of b) ≡ Ok (b ++ zeros (fill (length b))) = hex_read b in
    elim k [
      | inl q ↦ (let same : q.0 ≡ b ++ zeros (fill (length b)) = (let m : ◌≡◌ {A = Result (List Bool) Refusal} (Ok q.0) (Ok (b ++ zeros (fill (length b)))) = sym q.1 ∙ read in cc) in
          alone_found version (b ++ zeros (fill (length b))) x p (in_again version p s) (subst (λ (c : List Bool). IsAlone version c x) same q.2))
      | inr q ↦ absurd (not_refused refusal.BadHex _ _ read q.0)
    ]

-- a packet has bits
some_bits : (version : ℕ) (p : Packet) → IsSpelt version p → 0 ≢ length (hex_of (bits_of p))
some_bits version p s = λ e.
    let n = length (bits_of p) in
    let w = whole_again version p [] s in
    let long : nat_lt (length (bits_of p ++ [])) 8 ≡ false = w.long in
    let eight : 8 ≤ length (bits_of p ++ []) = ltb-false _ 8 long in
    omega (arith, eight, length-append (bits_of p) [], hex_count (bits_of p), e)

module _ (version : ℕ) (p : Packet) (s : IsSpelt version p) (v : version ≤ most_number) where
  line : Text
  line = line_of (codes "packet" ∷ decimal version ∷ hex_of (bits_of p) ∷ [])

  three : words_of line ≡ codes "packet" ∷ decimal version ∷ hex_of (bits_of p) ∷ []
  unfolding line
  three = words_are (codes "packet") (decimal version ∷ hex_of (bits_of p) ∷ []) (refl, (decimal_high version v, (hex_high (bits_of p), tt)))

  digits : packet_digits line ≡ Some (version, hex_of (bits_of p))
  digits = ap packet_words three ∙ ap (λ (o : Option ℕ). both o (some_word (hex_of (bits_of p)))) (number_of_decimal version v) ∙ ap (both (Some version)) (some_so (hex_of (bits_of p)) (some_bits version p s))

  count : length (words_of line) ≡ 3
  count = ap length three

  pub line_found : (x : Explained) → IsExplained (line_of (codes "packet" ∷ decimal version ∷ hex_of (bits_of p) ∷ [])) x → (f : PacketFields) × (x ≡ explained.Packet version f) × IsPlaced 0 p f
  unfolding line
  line_found x e = elim e [
    | inl q ↦ absurd (no_plan line x (λ k. absurd (omega (arith, count, k))) (λ k. absurd (omega (arith, count, k))) q)
    | inr q ↦ elim q [
      | inl r ↦ (
          let same : (r.0, r.1) ≡ (version, hex_of (bits_of p)) = (let m : ◌≡◌ {A = Option (ℕ × Word)} (Some (r.0, r.1)) (Some (version, hex_of (bits_of p))) = sym r.2 ∙ digits in cc) in
          packet_found version p x s (subst (λ (n : ℕ). IsPacket n (hex_of (bits_of p)) x) (ap (λ (y : ℕ × Word). y.0) same) (subst (λ (w : Word). IsPacket r.0 w x) (ap (λ (y : ℕ × Word). y.1) same) r.3)))
      | inr r ↦ absurd (let m : ◌≡◌ {A = Option (ℕ × Word)} (Some (version, hex_of (bits_of p))) None = sym digits ∙ r.0.2 in cc)
    ]
  ]

pub packet_is_explained_back : PacketIsExplainedBack
packet_is_explained_back version s b x v h e =
    let g = spelt_is_packet version s b h in
    let p = g.0 in
    let found = line_found version p g.1.0.spelt v x (subst (λ (c : List Bool). IsExplained (line_of (codes "packet" ∷ decimal version ∷ hex_of c ∷ [])) x) g.2 e) in
    (p, found.0, found.1, g.1, g.2, found.2)
