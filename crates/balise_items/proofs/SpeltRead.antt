-- What is spelt is read as a packet or a telegram with the same fields.
use Rattle.std.proofs.Common.{◌≡◌, ◌∙◌, ◌+◌, ◌&&◌, ◌⊎◌, inl, inr, ℕ, suc, nat_lt, eqb, Bool, true, false, not, cond, List, [], ◌∷◌, ◌++◌, All, length, drop, Option, Some, None, Result, Ok, Err, refl, sym, ap, subst, arith, append_assoc, append-nil, length-append}
use Rattle.std.proofs.lemmas.Bool.{ltb-true, eqb-true}
use Rattle.std.proofs.lemmas.List.{drop_at, length-replicate}
use Rattle.std.proofs.lemmas.List.Elements.{All-nil, All-cons}
use Rattle.balise_rules.specs.declared.tag.Tag.{Tag}
use Rattle.balise_rules.specs.declared.tag.Tag.TheVariants.{Base}
use Rattle.balise_rules.specs.declared.variable.Var.TheVariants.{MVersion}
use Rattle.balise_rules.specs.Bits.{bits, ones}
use Rattle.balise_rules.specs.Forms.{spelling}
use Rattle.balise_rules.specs.Packets.{is_known}
use Rattle.balise_rules.specs.Packet.{Packet, IsSpelt, bits_of, value, width}
use Rattle.balise_rules.specs.Telegram.{Telegram, IsLength, IsRead, TaggedFrom, header, packets_bits, used}
use Rattle.balise_rules.proofs.TelegramRead.{header_fixed}
use Rattle.balise_rules.proofs.TelegramAgain.{fixed_length, telegram_again}
use Rattle.balise_rules.proofs.TelegramShown.{used_is}
use Rattle.balise_codec.specs.declared.misfit.Misfit.{Misfit}
use Rattle.balise_codec.specs.Given.{IsGivenBy, LengthIs, but_length, length_given}
use Rattle.balise_codec.specs.Misfits.{first_misfit, front_value, misfit_along}
use Rattle.balise_codec.specs.Spelling.{Values, laid, size_of, written}
use Rattle.balise_codec.proofs.Composing.{eight_ones}
use Rattle.balise_codec.proofs.Made.{fitting_is_spelt}
use Rattle.balise_items.specs.declared.reason.Bad.{Bad}
use Rattle.balise_items.specs.declared.reason.Reason.TheVariants.{TooLong, BitsLeft, OtherLength, NoEnd, NotABalise, BadLength}
use Rattle.balise_items.specs.Items.{GivenItem}
use Rattle.balise_items.specs.Laws.{AreGivenBy, SpeltIsPacket, SpeltIsTelegram, after_head, given_padding}
use Rattle.balise_items.specs.Packets.{are_left, are_some, bits_fitting, is_length, packet_of, packets_of}
use Rattle.balise_items.specs.Reasons.{joined}
use Rattle.balise_items.specs.Sections.{Given}
use Rattle.balise_items.specs.Telegrams.{checked, front_of, has_end, head_of, header_fitting, header_of, is_balise_given, padded, telegram_of, version_given, whole_telegram}
use Rattle.balise_items.proofs.HeaderFields.{MadeOf, balise_is, header_made, laid_said, version_is}
use Rattle.balise_items.proofs.PacketBits.{fitting}

abbrev pub Part : Type 0
Part = Result (List Bool) Bad

abbrev Tagged : Type 0
Tagged = Tag × Packet

not_bad : {b : List Bool} (e : Bad) → ◌≡◌ {A = Part} (Err e) (Ok b) → ⊥
not_bad e h = cc

the_bits : (b c : List Bool) → ◌≡◌ {A = Part} (Ok b) (Ok c) → b ≡ c
the_bits b c h = cc

-- ---- a packet

may_follow : (version : ℕ) (vs : Values) (raw : List Bool) → are_left version vs raw ≡ false → (raw ≡ []) ⊎ (is_known version (front_value vs) ≡ false)
may_follow version vs raw h = by (is_known version (front_value vs)) refl raw refl h
  where
    by : (k : Bool) → is_known version (front_value vs) ≡ k → (r : List Bool) → raw ≡ r → (k && are_some r) ≡ false → (raw ≡ []) ⊎ (is_known version (front_value vs) ≡ false)
    by false e r f h = inr e
    by true e [] f h = inl f
    by true e (b ∷ r) f h = absurd (let k = h in cc)

its_length : (o : Option ℕ) (p : Packet) (n : ℕ) → width p ≡ n → is_length o n ≡ true → LengthIs o p
its_length None p n w h = tt
its_length (Some l) p n w h = eqb-true l n h ∙ sym w

abbrev either : Bool → Part → Part → Part
either b x y = cond b x y

pub spelt_is_packet : SpeltIsPacket
spelt_is_packet version s b h = by (first_misfit version vs) refl h
  where
    vs : Values
    vs = but_length s.values

    size : ℕ
    size = size_of vs s.rest

    made : first_misfit version vs ≡ None → nat_lt size 8192 ≡ true → are_left version vs s.rest ≡ false → is_length (length_given s.values) size ≡ true → written vs s.rest size ≡ b → (p : Packet) × IsGivenBy version s.values s.rest p × (b ≡ bits_of p)
    made fit few left own is =
        let p = fitting_is_spelt version vs s.rest fit (ltb-true size 8192 few) (may_follow version vs s.rest left) in
        let f = fitting version s vs p.0 p.1 in
        (p.0, (p.1, its_length (length_given s.values) p.0 size f.size own), sym is ∙ sym f.bits)

    last : (c : Bool) → is_length (length_given s.values) size ≡ c → first_misfit version vs ≡ None → nat_lt size 8192 ≡ true → are_left version vs s.rest ≡ false → either c (Ok (written vs s.rest size)) (Err (record { line = s.line; reason = OtherLength size })) ≡ Ok b
        → (p : Packet) × IsGivenBy version s.values s.rest p × (b ≡ bits_of p)
    last true own fit few left h = made fit few left own (the_bits (written vs s.rest size) b h)
    last false own fit few left h = absurd (not_bad _ h)

    left : (c : Bool) → are_left version vs s.rest ≡ c → first_misfit version vs ≡ None → nat_lt size 8192 ≡ true
        → either c (Err (record { line = s.line + 1 + length s.values; reason = BitsLeft })) (either (is_length (length_given s.values) size) (Ok (written vs s.rest size)) (Err (record { line = s.line; reason = OtherLength size }))) ≡ Ok b
        → (p : Packet) × IsGivenBy version s.values s.rest p × (b ≡ bits_of p)
    left true l fit few h = absurd (not_bad _ h)
    left false l fit few h = last (is_length (length_given s.values) size) refl fit few l h

    sized : (c : Bool) → nat_lt size 8192 ≡ c → first_misfit version vs ≡ None
        → either (not c) (Err (record { line = s.line; reason = TooLong })) (either (are_left version vs s.rest) (Err (record { line = s.line + 1 + length s.values; reason = BitsLeft })) (either (is_length (length_given s.values) size) (Ok (written vs s.rest size)) (Err (record { line = s.line; reason = OtherLength size })))) ≡ Ok b
        → (p : Packet) × IsGivenBy version s.values s.rest p × (b ≡ bits_of p)
    sized false few fit h = absurd (not_bad _ h)
    sized true few fit h = left (are_left version vs s.rest) refl fit few h

    by : (o : Option (ℕ × Misfit)) → first_misfit version vs ≡ o → bits_fitting version s vs o ≡ Ok b → (p : Packet) × IsGivenBy version s.values s.rest p × (b ≡ bits_of p)
    by (Some x) fit h = absurd (not_bad _ h)
    by None fit h = sized (nat_lt size 8192) refl fit h

-- ---- packets

record Packets (version n : ℕ) (ss : List Given) (b : List Bool) : Type 0 where
  packets : List Tagged
  given : AreGivenBy version ss packets
  tags : TaggedFrom n packets
  spelt : All (λ (p : Tagged). IsSpelt version p.1) packets
  bits : b ≡ packets_bits packets

-- both parts are there
parts : (x y : Part) (b : List Bool) → joined x y ≡ Ok b → (c : List Bool) × (d : List Bool) × (x ≡ Ok c) × (y ≡ Ok d) × (b ≡ c ++ d)
parts (Err e) y b h = absurd (not_bad e h)
parts (Ok c) (Err e) b h = absurd (not_bad e h)
parts (Ok c) (Ok d) b h = (c, d, refl, refl, sym (the_bits (c ++ d) b h))

packets_read : (version n : ℕ) (ss : List Given) (b : List Bool) → packets_of version ss ≡ Ok b → Packets version n ss b
packets_read version n [] b h = record { packets = []; given = tt; tags = tt; spelt = All-nil (λ (p : Tagged). IsSpelt version p.1); bits = sym (the_bits [] b h) }
packets_read version n (s ∷ ss) b h =
    let both = parts (packet_of version s) (packets_of version ss) b h in
    let p = spelt_is_packet version s both.0 both.2 in
    let more = packets_read version (suc n) ss both.1 both.3 in
    let one : Tagged = (Base n, p.0) in
    record {
      packets = one ∷ more.packets;
      given = (p.1, more.given);
      tags = (refl, more.tags);
      spelt = All-cons (λ (q : Tagged). IsSpelt version q.1) one more.packets p.1.0.spelt more.spelt;
      bits = both.4 ∙ ap (λ (x : List Bool). x ++ both.1) p.2 ∙ ap (λ (x : List Bool). bits_of p.0 ++ x) more.bits;
    }

-- ---- a header and packets

header_read : (s : Given) (b : List Bool) → header_of s ≡ Ok b → (misfit_along header 0 s.values ≡ None) × (b ≡ laid s.values)
header_read s b h = by (misfit_along header 0 s.values) refl h
  where
    by : (o : Option (ℕ × Misfit)) → misfit_along header 0 s.values ≡ o → header_fitting s o ≡ Ok b → (misfit_along header 0 s.values ≡ None) × (b ≡ laid s.values)
    by None e h = (e, sym (the_bits (laid s.values) b h))
    by (Some x) e h = absurd (not_bad _ h)

record Front (before : List Given) (last : Given) (b : List Bool) : Type 0 where
  fits : misfit_along header 0 (head_of before last).values ≡ None
  packets : Packets (version_given (head_of before last).values) 0 (after_head before last) (drop (length (laid (head_of before last).values)) b)
  bits : b ≡ laid (head_of before last).values ++ packets_bits packets.packets

front_read : (before : List Given) (last : Given) (b : List Bool) → front_of before last ≡ Ok b → Front before last b
front_read [] last b h =
    let e = header_read last b h in
    let none : Packets (version_given last.values) 0 [] (drop (length (laid last.values)) b)
    = packets_read (version_given last.values) 0 [] _ (ap Ok (sym (ap (drop (length (laid last.values))) (e.1 ∙ sym (append-nil (laid last.values))) ∙ drop_at (laid last.values) [] (length (laid last.values)) refl))) in
    record { fits = e.0; packets = none; bits = e.1 ∙ sym (append-nil (laid last.values)) ∙ ap (λ (x : List Bool). laid last.values ++ x) (nothing none) }
  where
    nothing : (p : Packets (version_given last.values) 0 [] (drop (length (laid last.values)) b)) → [] ≡ packets_bits p.packets
    nothing p = by p.packets p.given
      where
        by : (ps : List Tagged) → AreGivenBy (version_given last.values) [] ps → [] ≡ packets_bits ps
        by [] g = refl
        by (q ∷ qs) g = absurd g
front_read (head ∷ ss) last b h =
    let both = parts (header_of head) (packets_of (version_given head.values) (ss ++ last ∷ [])) b h in
    let e = header_read head both.0 both.2 in
    let whole : b ≡ laid head.values ++ both.1 = both.4 ∙ ap (λ (x : List Bool). x ++ both.1) e.1 in
    let left : both.1 ≡ drop (length (laid head.values)) b = sym (ap (drop (length (laid head.values))) whole ∙ drop_at (laid head.values) both.1 (length (laid head.values)) refl) in
    let ps = packets_read (version_given head.values) 0 (ss ++ last ∷ []) both.1 both.3 in
    let moved : Packets (version_given head.values) 0 (ss ++ last ∷ []) (drop (length (laid head.values)) b)
    = record { packets = ps.packets; given = ps.given; tags = ps.tags; spelt = ps.spelt; bits = sym left ∙ ps.bits } in
    record { fits = e.0; packets = moved; bits = whole ∙ ap (λ (x : List Bool). laid head.values ++ x) ps.bits }

-- ---- a telegram

pub padded_so : (due : ℕ) (padding b : List Bool) → padded due padding b ≡ b ++ given_padding due (length b) padding
padded_so due [] b = refl
padded_so due (x ∷ xs) b = refl

checked_read : (line due : ℕ) (balise : Bool) (c b : List Bool) → checked line due balise c ≡ Ok b → (length c ≡ due) × (balise ≡ true) × (c ≡ b)
checked_read line due balise c b h = size (eqb (length c) due) refl h
  where
    is : (x : Bool) → balise ≡ x → length c ≡ due → either x (Ok c) (Err (record { line = line; reason = NotABalise })) ≡ Ok b → (length c ≡ due) × (balise ≡ true) × (c ≡ b)
    is true e l h = (l, e, the_bits c b h)
    is false e l h = absurd (not_bad _ h)

    size : (x : Bool) → eqb (length c) due ≡ x → either x (either balise (Ok c) (Err (record { line = line; reason = NotABalise }))) (Err (record { line = line; reason = BadLength (length c) })) ≡ Ok b → (length c ≡ due) × (balise ≡ true) × (c ≡ b)
    size true e h = is balise refl (eqb-true (length c) due e) h
    size false e h = absurd (not_bad _ h)

-- the front, and the bits after it
record Whole (i : GivenItem) (b : List Bool) : Type 0 where
  front : List Bool
  is_front : front_of i.before i.last ≡ Ok front
  balise : is_balise_given (head_of i.before i.last).values ≡ true
  long : length b ≡ i.number
  bits : b ≡ (front ++ bits 8 255) ++ given_padding i.number (length (front ++ bits 8 255)) i.padding

whole_read : (end : ℕ) (i : GivenItem) (b : List Bool) → telegram_of end i ≡ Ok b → Whole i b
whole_read end i b h = by (front_of i.before i.last) refl h
  where
    head : Given
    head = head_of i.before i.last

    ended : (f : List Bool) → front_of i.before i.last ≡ Ok f → (x : Bool) → either x (checked head.line i.number (is_balise_given head.values) (padded i.number i.padding (f ++ bits 8 255))) (Err (record { line = end; reason = NoEnd })) ≡ Ok b → Whole i b
    ended f e true h =
        let c = checked_read head.line i.number (is_balise_given head.values) (padded i.number i.padding (f ++ bits 8 255)) b h in
        record { front = f; is_front = e; balise = c.1; long = sym (ap length c.2) ∙ c.0; bits = sym c.2 ∙ padded_so i.number i.padding (f ++ bits 8 255) }
    ended f e false h = absurd (not_bad _ h)

    by : (r : Part) → front_of i.before i.last ≡ r → whole_telegram end i r ≡ Ok b → Whole i b
    by (Ok f) e h = ended f e (has_end i.place) h
    by (Err x) e h = absurd (not_bad x h)

pub spelt_is_telegram : SpeltIsTelegram
spelt_is_telegram end i b size h = (y, record { read = telegram_again b y read; head = m.are; packets = given; padding = there })
  where
    w : Whole i b
    w = whole_read end i b h

    head : Given
    head = head_of i.before i.last

    f : Front i.before i.last w.front
    f = front_read i.before i.last w.front w.is_front

    m : MadeOf header [] head.values
    m = header_made head.values f.fits

    ps : List Tagged
    ps = f.packets.packets

    y : Telegram
    y = record { head = m.fields; packets = ps; padding = ones (used ps) ++ given_padding i.number (used ps) i.padding }

    version : version_given head.values ≡ value MVersion 0 m.fields
    version = sym (ap version_given m.are) ∙ version_is m.fields m.matches m.numbered

    given : AreGivenBy (value MVersion 0 m.fields) (after_head i.before i.last) ps
    given = subst (λ (v : ℕ). AreGivenBy v (after_head i.before i.last) ps) version f.packets.given

    spelling_is : laid head.values ≡ spelling m.fields
    spelling_is = sym (ap laid m.are) ∙ laid_said m.fields

    front : w.front ++ bits 8 255 ≡ (spelling m.fields ++ packets_bits ps) ++ ones 8
    front = ap (λ (x : List Bool). x ++ bits 8 255) (f.bits ∙ ap (λ (x : List Bool). x ++ packets_bits ps) spelling_is) ∙ ap (λ (x : List Bool). (spelling m.fields ++ packets_bits ps) ++ x) eight_ones

    fifty : length (spelling m.fields) ≡ 50
    fifty = fixed_length header 50 m.fields [] header_fixed m.matches

    taken : length (w.front ++ bits 8 255) ≡ used ps
    taken = ap length front ∙ omega (arith, length-append (spelling m.fields ++ packets_bits ps) (ones 8), length-append (spelling m.fields) (packets_bits ps), fifty, used_is ps)

    padding : List Bool
    padding = given_padding i.number (used ps) i.padding

    whole : b ≡ (w.front ++ bits 8 255) ++ padding
    whole = w.bits ∙ ap (λ (n : ℕ). (w.front ++ bits 8 255) ++ given_padding i.number n i.padding) taken

    there : drop (used ps) b ≡ padding
    there = ap (drop (used ps)) whole ∙ drop_at (w.front ++ bits 8 255) padding (used ps) taken

    left : drop (used ps) (ones (used ps) ++ padding) ≡ padding
    left = drop_at (ones (used ps)) padding (used ps) (length-replicate (used ps) true)

    read : IsRead b y
    read = record {
      size = subst IsLength (sym w.long) size;
      header = m.matches;
      numbered = m.numbered;
      balise = sym (balise_is m.fields m.matches m.numbered) ∙ ap is_balise_given m.are ∙ w.balise;
      tags = f.packets.tags;
      packets = subst (λ (v : ℕ). All (λ (p : Tagged). IsSpelt v p.1) ps) version f.packets.spelt;
      shows = ap (λ (x : List Bool). spelling m.fields ++ (packets_bits ps ++ (ones 8 ++ x))) left
          ∙ ap (λ (x : List Bool). spelling m.fields ++ x) (sym (append_assoc (packets_bits ps) (ones 8) padding))
          ∙ sym (append_assoc (spelling m.fields) (packets_bits ps ++ ones 8) padding)
          ∙ ap (λ (x : List Bool). x ++ padding) (sym (append_assoc (spelling m.fields) (packets_bits ps) (ones 8)) ∙ sym front) ∙ sym whole;
      padding = ap (λ (x : List Bool). ones (used ps) ++ x) (sym there);
    }
