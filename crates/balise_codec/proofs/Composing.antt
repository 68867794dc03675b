-- The bits of a header, of packets and of a padding are a telegram's, if their number is that of a telegram.
use Rattle.std.proofs.Common.{◌≡◌, ◌∙◌, ℕ, zero, suc, ◌+◌, ◌^◌, ◌<◌, List, [], ◌∷◌, ◌++◌, Bool, true, false, IsTrue, cond, All, length, take, drop, get_or, slice_get, Some, None, Result, Ok, Err, refl, sym, ap, subst, append_assoc, length-append, arith}
use Rattle.std.specs.Result.{IfErr, IsErr, IsErrAnd}
use Rattle.std.proofs.lemmas.Bool.{lt-ltb, ltb-true}
use Rattle.std.proofs.lemmas.List.{take-append-drop, drop_at, append-nil, take_more, length-replicate}
use Rattle.std.proofs.lemmas.List.Elements.{All-nil, All-cons}
use Rattle.std.proofs.Math.Seq.{drop-cons}
use Rattle.balise_rules.specs.declared.variable.Var.{Var}
use Rattle.balise_rules.specs.declared.variable.Var.TheVariants.{MVersion}
use Rattle.balise_rules.specs.declared.tag.Tag.{Tag}
use Rattle.balise_rules.specs.declared.tag.Tag.TheVariants.{Base}
use Rattle.balise_rules.specs.Variables.{width_of}
use Rattle.balise_rules.specs.Bits.{bits, fits, ones}
use Rattle.balise_rules.specs.Tags.{Key}
use Rattle.balise_rules.specs.Forms.{Fields, Matches, Numbered, spelling}
use Rattle.balise_rules.specs.Packet.{Packet, bits_of, value, IsSpelt}
use Rattle.balise_rules.specs.Telegram.{Telegram, IsLength, IsRead, TaggedFrom, header, is_balise, packets_bits, used}
use Rattle.balise_rules.proofs.Cases.{unsome}
use Rattle.balise_rules.proofs.TelegramRead.{header_fixed}
use Rattle.balise_rules.proofs.TelegramAgain.{fixed_length, telegram_again}
use Rattle.balise_rules.proofs.TelegramShown.{used_is}
use Rattle.balise_layout.specs.Collected.{keyed, all_keyed}
use Rattle.balise_layout.proofs.Counts.{all_keyed-push}
use Rattle.balise_telegram.specs.declared.header.Header.{Header}
use Rattle.balise_telegram.specs.HeaderFields.{fields_in}
use Rattle.balise_codec.specs.declared.telegram.PacketValues.{PacketValues}
use Rattle.balise_codec.specs.declared.telegram.TelegramMisfit.{TelegramMisfit}
use Rattle.balise_codec.specs.Spelling.{SpeltBy}
use Rattle.balise_codec.specs.Telegrams.{AreSpelt, IsOf, Takes, too_wide}

abbrev Tagged : Type 0
Tagged = Tag × Packet

-- ---- fields, one more

spelling-append : (fs gs : Fields) → spelling (fs ++ gs) ≡ spelling fs ++ spelling gs
unfolding spelling
spelling-append [] gs = refl
spelling-append (f ∷ fs) gs = ap (λ (x : List Bool). bits (width_of f.0.0) f.1 ++ x) (spelling-append fs gs) ∙ sym (append_assoc (bits (width_of f.0.0) f.1) (spelling fs) (spelling gs))

spelling-one : (f : Key × ℕ) → spelling (f ∷ []) ≡ bits (width_of f.0.0) f.1
unfolding spelling
spelling-one f = append-nil (bits (width_of f.0.0) f.1)

pub none_spelt : spelling [] ≡ []
unfolding spelling
none_spelt = refl

pub spelt_more : (xs : List (Var × ℕ × ℕ)) (i : ℕ) (d : Var × ℕ × ℕ) → i < length xs → spelling (all_keyed (take (i + 1) xs)) ≡ spelling (all_keyed (take i xs)) ++ bits (width_of (get_or xs i d).0) (get_or xs i d).2
spelt_more xs i d h =
    let x = get_or xs i d in
    let is : all_keyed (take (i + 1) xs) ≡ all_keyed (take i xs) ++ keyed x ∷ [] = ap all_keyed (take_more xs i d h) ∙ all_keyed-push (take i xs) x.0 x.1 x.2 in
    ap spelling is ∙ spelling-append (all_keyed (take i xs)) (keyed x ∷ []) ∙ ap (λ (y : List Bool). spelling (all_keyed (take i xs)) ++ y) (spelling-one (keyed x))

-- ---- whether each value fits

too_wide-append : (fs gs : Fields) → too_wide fs ≡ None → too_wide (fs ++ gs) ≡ too_wide gs
unfolding too_wide
too_wide-append [] gs h = refl
too_wide-append (f ∷ fs) gs h = by (fits (width_of f.0.0) f.1) h (too_wide-append fs gs)
  where
    by : (b : Bool) → cond b (too_wide fs) (Some f.0.0) ≡ None → (too_wide fs ≡ None → too_wide (fs ++ gs) ≡ too_wide gs) → cond b (too_wide (fs ++ gs)) (Some f.0.0) ≡ too_wide gs
    by true h go = go h
    by false h go = absurd cc

one_fits : (f : Key × ℕ) → fits (width_of f.0.0) f.1 ≡ true → too_wide (f ∷ []) ≡ None
unfolding too_wide
one_fits f e = rw e refl

first_wide : (f : Key × ℕ) (fs : Fields) → fits (width_of f.0.0) f.1 ≡ false → too_wide (f ∷ fs) ≡ Some f.0.0
unfolding too_wide
first_wide f fs e = rw e refl

pub none_wide : too_wide [] ≡ None
unfolding too_wide
none_wide = refl

pub fit_more : (xs : List (Var × ℕ × ℕ)) (i : ℕ) (d : Var × ℕ × ℕ) → i < length xs → too_wide (all_keyed (take i xs)) ≡ None → (get_or xs i d).2 < 2 ^ width_of (get_or xs i d).0 → too_wide (all_keyed (take (i + 1) xs)) ≡ None
fit_more xs i d h none fit =
    let x = get_or xs i d in
    let is : all_keyed (take (i + 1) xs) ≡ all_keyed (take i xs) ++ keyed x ∷ [] = ap all_keyed (take_more xs i d h) ∙ all_keyed-push (take i xs) x.0 x.1 x.2 in
    let own : fits (width_of x.0) x.2 ≡ true = lt-ltb x.2 (2 ^ width_of x.0) fit in
    let one : too_wide (keyed x ∷ []) ≡ None = one_fits (keyed x) own in
    ap too_wide is ∙ too_wide-append (all_keyed (take i xs)) (keyed x ∷ []) none ∙ one

keyed-append : (xs ys : List (Var × ℕ × ℕ)) → all_keyed (xs ++ ys) ≡ all_keyed xs ++ all_keyed ys
keyed-append [] ys = refl
keyed-append (x ∷ xs) ys = ap (λ (l : Fields). keyed x ∷ l) (keyed-append xs ys)

pub wide_there : (xs : List (Var × ℕ × ℕ)) (i : ℕ) (d : Var × ℕ × ℕ) → i < length xs → too_wide (all_keyed (take i xs)) ≡ None → ((get_or xs i d).2 < 2 ^ width_of (get_or xs i d).0 → ⊥) → too_wide (all_keyed xs) ≡ Some (get_or xs i d).0
wide_there xs i d h none wide =
    let x = get_or xs i d in
    let one : suc i ≡ i + 1 = omega arith in
    let next : drop i xs ≡ x ∷ drop (i + 1) xs = drop-cons xs i d h ∙ ap (λ (k : ℕ). x ∷ drop k xs) one in
    let all : xs ≡ take i xs ++ (x ∷ drop (i + 1) xs) = sym (take-append-drop i xs) ∙ ap (λ (y : List (Var × ℕ × ℕ)). take i xs ++ y) next in
    let own : fits (width_of x.0) x.2 ≡ false = not_fit (fits (width_of x.0) x.2) refl in
    let first : too_wide (all_keyed (x ∷ drop (i + 1) xs)) ≡ Some x.0 = first_wide (keyed x) (all_keyed (drop (i + 1) xs)) own in
    ap (λ (y : List (Var × ℕ × ℕ)). too_wide (all_keyed y)) all ∙ ap too_wide (keyed-append (take i xs) (x ∷ drop (i + 1) xs)) ∙ too_wide-append (all_keyed (take i xs)) (all_keyed (x ∷ drop (i + 1) xs)) none ∙ first
  where
    not_fit : (b : Bool) → fits (width_of (get_or xs i d).0) (get_or xs i d).2 ≡ b → fits (width_of (get_or xs i d).0) (get_or xs i d).2 ≡ false
    not_fit true e = absurd (wide (ltb-true _ _ e))
    not_fit false e = e

-- ---- the header

abbrev EachFits : Fields → Type 0
EachFits [] = Unit {0}
EachFits (f ∷ fs) = IsTrue (fits (width_of f.0.0) f.1) × EachFits fs

each_fits : (fs : Fields) → too_wide fs ≡ None → EachFits fs
unfolding too_wide
each_fits [] h = tt
each_fits (f ∷ fs) h = by (fits (width_of f.0.0) f.1) refl h (each_fits fs)
  where
    by : (b : Bool) → fits (width_of f.0.0) f.1 ≡ b → cond b (too_wide fs) (Some f.0.0) ≡ None → (too_wide fs ≡ None → EachFits fs) → EachFits (f ∷ fs)
    by true e h go = (e, go h)
    by false e h go = absurd cc

header_form : (h : Header) → too_wide (fields_in h) ≡ None → Matches header (fields_in h) []
unfolding header
header_form h e = let f = each_fits (fields_in h) e in (refl, f.0, (refl, f.1.0, (refl, f.1.1.0, (refl, f.1.1.1.0, (refl, f.1.1.1.1.0, (refl, f.1.1.1.1.1.0, (refl, f.1.1.1.1.1.1.0, (refl, f.1.1.1.1.1.1.1.0, (refl, f.1.1.1.1.1.1.1.1.0, (refl, f.1.1.1.1.1.1.1.1.1.0, tt))))))))))

header_numbered : (h : Header) → Numbered (fields_in h)
header_numbered h = (refl, (refl, (refl, (refl, (refl, (refl, (refl, (refl, (refl, (refl, tt))))))))))

-- ---- the packets

pub take_get : {A : Type 0} (xs : List A) (i : ℕ) (x : A) → slice_get xs i ≡ Some x → take (i + 1) xs ≡ take i xs ++ x ∷ []
take_get {A = A} [] i x h = absurd cc
take_get {A = A} (y ∷ ys) zero x h = ap (λ (z : A). z ∷ []) (unsome h)
take_get {A = A} (y ∷ ys) (suc i) x h = let e : suc i + 1 ≡ suc (i + 1) = omega arith in ap (λ (k : ℕ). take k (y ∷ ys)) e ∙ ap (λ (z : List A). y ∷ z) (take_get ys i x h)

pub spelt_push : (version : ℕ) (vs : List PacketValues) (ps : List Tagged) (v : PacketValues) (p : Tagged) → AreSpelt version vs ps → SpeltBy version v.values.items v.rest p.1 → AreSpelt version (vs ++ v ∷ []) (ps ++ p ∷ [])
spelt_push version [] [] v p a s = (s, tt)
spelt_push version [] (q ∷ ps) v p a s = absurd a
spelt_push version (w ∷ vs) [] v p a s = absurd a
spelt_push version (w ∷ vs) (q ∷ ps) v p a s = (a.0, spelt_push version vs ps v p a.1 s)

pub tagged_push : (n : ℕ) (ps : List Tagged) (p : Packet) → TaggedFrom n ps → TaggedFrom n (ps ++ (Base (n + length ps), p) ∷ [])
tagged_push n [] p t = (ap Base (let e : n + 0 ≡ n = omega arith in e), tt)
tagged_push n (q ∷ ps) p t = (t.0, subst (λ (k : ℕ). TaggedFrom (suc n) (ps ++ (Base k, p) ∷ [])) (let e : suc n + length ps ≡ n + suc (length ps) = omega arith in e) (tagged_push (suc n) ps p t.1))

pub packets_push : (ps : List Tagged) (p : Tagged) → packets_bits (ps ++ p ∷ []) ≡ packets_bits ps ++ bits_of p.1
packets_push [] p = append-nil (bits_of p.1)
packets_push (q ∷ ps) p = ap (λ (x : List Bool). bits_of q.1 ++ x) (packets_push ps p) ∙ sym (append_assoc (bits_of q.1) (packets_bits ps) (bits_of p.1))

all_spelt : (version : ℕ) (vs : List PacketValues) (ps : List Tagged) → AreSpelt version vs ps → All (λ (p : Tagged). IsSpelt version p.1) ps
all_spelt version [] [] a = All-nil (λ (p : Tagged). IsSpelt version p.1)
all_spelt version [] (q ∷ ps) a = absurd a
all_spelt version (w ∷ vs) [] a = absurd a
all_spelt version (w ∷ vs) (q ∷ ps) a = All-cons (λ (p : Tagged). IsSpelt version p.1) q ps a.0.spelt (all_spelt version vs ps a.1)

-- ---- the telegram

pub eight_ones : bits 8 255 ≡ ones 8
unfolding bits
eight_ones = refl

-- header, packets, packet 255 and padding, as they are written
pub record Composed (h : Header) (vs : List PacketValues) (padding b : List Bool) : Type 0 where
  pub fit : too_wide (fields_in h) ≡ None
  pub packets : List Tagged
  pub spelt : AreSpelt h.m_version vs packets
  pub tags : TaggedFrom 0 packets
  pub is : b ≡ ((spelling (fields_in h) ++ packets_bits packets) ++ ones 8) ++ padding

-- as they are written one after another
pub compose : (h : Header) (vs : List PacketValues) (padding start one two three b : List Bool) (xs : List (Var × ℕ × ℕ)) → start ≡ [] → all_keyed xs ≡ fields_in h → (one ≡ start ++ spelling (all_keyed xs)) × (too_wide (all_keyed xs) ≡ None) → (ps : List Tagged) × AreSpelt h.m_version vs ps × TaggedFrom 0 ps × (two ≡ one ++ packets_bits ps) → three ≡ two ++ bits 8 255 → b ≡ three ++ padding → Composed h vs padding b
compose h vs padding start one two three b xs none head first packets end last =
    let front : one ≡ spelling (fields_in h) = first.0 ∙ ap (λ (x : List Bool). x ++ spelling (all_keyed xs)) none ∙ ap spelling head in
    let more : two ≡ spelling (fields_in h) ++ packets_bits packets.0 = packets.3 ∙ ap (λ (x : List Bool). x ++ packets_bits packets.0) front in
    record {
      fit = ap too_wide (sym head) ∙ first.1;
      packets = packets.0;
      spelt = packets.1;
      tags = packets.2;
      is = last ∙ ap (λ (x : List Bool). x ++ padding) (end ∙ ap (λ (x : List Bool). x ++ bits 8 255) more ∙ ap (λ (x : List Bool). (spelling (fields_in h) ++ packets_bits packets.0) ++ x) eight_ones);
    }

pub composed_long : (h : Header) (vs : List PacketValues) (padding b : List Bool) (c : Composed h vs padding b) → length b ≡ used c.packets + length padding
composed_long h vs padding b c =
    let head = spelling (fields_in h) in
    let fifty = fixed_length header 50 (fields_in h) [] header_fixed (header_form h c.fit) in
    omega (arith, ap length c.is, length-append ((head ++ packets_bits c.packets) ++ ones 8) padding, length-append (head ++ packets_bits c.packets) (ones 8), length-append head (packets_bits c.packets), fifty, used_is c.packets)

pub version_is : (h : Header) → value MVersion 0 (fields_in h) ≡ h.m_version
version_is h = refl

pub takes : (h : Header) (vs : List PacketValues) (padding b : List Bool) → Composed h vs padding b → Takes (value MVersion 0 (fields_in h)) vs padding (length b)
takes h vs padding b c = (c.packets, c.spelt, composed_long h vs padding b c)

pub composed : (h : Header) (vs : List PacketValues) (padding b : List Bool) → Composed h vs padding b → IsLength (length b) → is_balise (fields_in h) ≡ true → (y : Telegram) × IsOf (fields_in h) vs padding b y
composed h vs padding b c size balise =
    let n = used c.packets in
    let head = spelling (fields_in h) in
    let front = (head ++ packets_bits c.packets) ++ ones 8 in
    let y : Telegram = record { head = fields_in h; packets = c.packets; padding = ones n ++ padding } in
    let fifty = fixed_length header 50 (fields_in h) [] header_fixed (header_form h c.fit) in
    let long : length front ≡ n = omega (arith, length-append (head ++ packets_bits c.packets) (ones 8), length-append head (packets_bits c.packets), fifty, used_is c.packets) in
    let left : drop n (ones n ++ padding) ≡ padding = drop_at (ones n) padding n (length-replicate n true) in
    let there : drop n b ≡ padding = ap (drop n) c.is ∙ drop_at front padding n long in
    let parts : head ++ (packets_bits c.packets ++ (ones 8 ++ padding)) ≡ b = ap (λ (x : List Bool). head ++ x) (sym (append_assoc (packets_bits c.packets) (ones 8) padding)) ∙ sym (append_assoc head (packets_bits c.packets ++ ones 8) padding) ∙ ap (λ (x : List Bool). x ++ padding) (sym (append_assoc head (packets_bits c.packets) (ones 8))) ∙ sym c.is in
    let read : IsRead b y = record {
      size = size;
      header = header_form h c.fit;
      numbered = header_numbered h;
      balise = balise;
      tags = c.tags;
      packets = all_spelt h.m_version vs c.packets c.spelt;
      shows = ap (λ (x : List Bool). head ++ (packets_bits c.packets ++ (ones 8 ++ x))) left ∙ parts;
      padding = ap (λ (x : List Bool). ones n ++ x) (sym there);
    } in
    (y, record { read = telegram_again b y read; head = refl; packets = c.spelt; padding = there })

-- ---- a fault that `?` passes on

pub passed_on : {T : Type 0} (P : TelegramMisfit → Type 0) (r : Result T TelegramMisfit) (e : TelegramMisfit) → IsErr r × IsErrAnd r (λ x. x ≡ e) → P e → IfErr r P
passed_on P (Ok x) e h p = absurd h.1
passed_on P (Err x) e h p = subst P (sym h.1) p
