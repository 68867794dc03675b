-- What a telegram or a packet is explained as is spelt as its bits.
use Rattle.std.proofs.Common.{◌≡◌, ◌∙◌, ◌+◌, ◌-◌, ◌⊎◌, inl, inr, ℕ, eqb, Bool, true, List, [], ◌∷◌, ◌++◌, All, length, map, drop, Some, Ok, refl, sym, ap, subst, arith, eq-eqb, append_assoc, length-append}
use Rattle.std.proofs.lemmas.List.{drop_at, length-replicate}
use Rattle.std.proofs.lemmas.List.Elements.{All-head, All-tail}
use Rattle.balise_rules.specs.Bits.{bits, ones}
use Rattle.balise_rules.specs.Forms.{spelling}
use Rattle.balise_rules.specs.Packet.{Packet, IsSpelt, bits_of}
use Rattle.balise_rules.specs.Telegram.{Telegram, IsRead, packets_bits, read_telegram, used, version_of}
use Rattle.balise_rules.proofs.TelegramShown.{telegram_read}
use Rattle.balise_codec.specs.Given.{IsGivenBy}
use Rattle.balise_codec.specs.Spelling.{Values, said}
use Rattle.balise_codec.proofs.AllGiven.{all_given}
use Rattle.balise_codec.proofs.Composing.{eight_ones}
use Rattle.balise_fields.specs.declared.field_line.FieldLine.{FieldLine}
use Rattle.balise_fields.specs.declared.field_line.FieldLine.TheVariants as line
use Rattle.balise_items.specs.declared.place.Place.{Place}
use Rattle.balise_items.specs.declared.place.Place.TheVariants.{Header, End, Padding, Alone, AloneRest}
use Rattle.balise_items.specs.declared.spelling.Spelling.TheVariants as spelt
use Rattle.balise_items.specs.Items.{GivenItem, with_line}
use Rattle.balise_items.specs.Laws.{PacketIsSpelt, TelegramIsSpelt, bits_lines, field_lines, given_padding, item_of, packets_lines, telegram_lines, with_lines}
use Rattle.balise_items.specs.Packets.{packet_of, packets_of}
use Rattle.balise_items.specs.Reasons.{joined}
use Rattle.balise_items.specs.Sections.{Given, begun_at}
use Rattle.balise_items.specs.Spellings.{spelling_by, spelling_of}
use Rattle.balise_items.specs.Telegrams.{checked, front_of, head_of, header_fitting, header_of, is_balise_given, padded, version_given, whole_telegram}
use Rattle.balise_items.proofs.HeaderFields.{balise_is, header_none, laid_said, version_is}
use Rattle.balise_items.proofs.ItemsMade.{AreOf, IsBeforeEnd, Sections, Tagged, alone_made, fields_made, lines-append, packets_made, section_of, sound}
use Rattle.balise_items.proofs.PacketBits.{given_bits}
use Rattle.balise_items.proofs.PartsJoined.{joined-end}
use Rattle.balise_items.proofs.SpeltRead.{Part, padded_so}

-- ---- a packet

whole_packet : (version : ℕ) (s : Given) (p : Packet) → s.values ≡ map said p.fields → s.rest ≡ p.rest → IsSpelt version p → packet_of version s ≡ Ok (bits_of p)
whole_packet version s p v r t =
    given_bits version s p (subst (λ (vs : Values). IsGivenBy version vs s.rest p) (sym v) (subst (λ (b : List Bool). IsGivenBy version (map said p.fields) b p) (sym r) (all_given version p t)))

alone_spelt : (end version n : ℕ) (p : Packet) (q : Place) → (q ≡ Alone) ⊎ (q ≡ AloneRest) → IsSpelt version p → spelling_of end (sound q version [] (section_of n p) []) ≡ spelt.Packet version (bits_of p)
alone_spelt end version n p q (inl e) t =
    ap (λ (x : Place). spelling_of end (sound x version [] (section_of n p) [])) e ∙ ap (spelling_by (spelt.Packet version)) (whole_packet version (section_of n p) p refl refl t)
alone_spelt end version n p q (inr e) t =
    ap (λ (x : Place). spelling_of end (sound x version [] (section_of n p) [])) e ∙ ap (spelling_by (spelt.Packet version)) (whole_packet version (section_of n p) p refl refl t)

pub packet_is_spelt : PacketIsSpelt
packet_is_spelt n end version p t =
    let m = alone_made (n + 1) n version p in
    ap (spelling_of end) m.2 ∙ alone_spelt end version n p m.0 m.1 t

-- ---- packets

packets_whole : (version : ℕ) (ss : List Given) (ps : List Tagged) → AreOf ss ps → All (λ (p : Tagged). IsSpelt version p.1) ps → packets_of version ss ≡ Ok (packets_bits ps)
packets_whole version [] [] o a = refl
packets_whole version [] (p ∷ ps) o a = absurd o
packets_whole version (s ∷ ss) [] o a = absurd o
packets_whole version (s ∷ ss) (p ∷ ps) o a =
    ap (λ (r : Part). joined r (packets_of version ss)) (whole_packet version s p.1 o.0 o.1 (All-head (λ (q : Tagged). IsSpelt version q.1) p ps a))
    ∙ ap (joined (Ok (bits_of p.1))) (packets_whole version ss ps o.2 (All-tail (λ (q : Tagged). IsSpelt version q.1) p ps a))

front_is : (before : List Given) (last head : Given) (more : List Given) → before ++ last ∷ [] ≡ head ∷ more → (front_of before last ≡ joined (header_of head) (packets_of (version_given head.values) more)) × (head_of before last ≡ head)
front_is [] last head more e =
    let h : last ≡ head = cc in
    let m : [] ≡ more = cc in
    (sym (joined-end (header_of last)) ∙ ap (λ (x : Given). joined (header_of x) (Ok [])) h ∙ ap (λ (ss : List Given). joined (header_of head) (packets_of (version_given head.values) ss)) m, h)
front_is (x ∷ xs) last head more e =
    let h : x ≡ head = cc in
    let m : xs ++ last ∷ [] ≡ more = cc in
    (ap (λ (s : Given). joined (header_of s) (packets_of (version_given s.values) (xs ++ last ∷ []))) h ∙ ap (λ (ss : List Given). joined (header_of head) (packets_of (version_given head.values) ss)) m, h)

-- ---- the end

end_line : (q : Place) → IsBeforeEnd q → (k n : ℕ) (before : List Given) (s : Given) → with_line k line.End (sound q n before s []) ≡ sound End n before s []
end_line q (inl e) k n before s = ap (λ (x : Place). with_line k line.End (sound x n before s [])) e
end_line q (inr (inl e)) k n before s = ap (λ (x : Place). with_line k line.End (sound x n before s [])) e
end_line q (inr (inr e)) k n before s = ap (λ (x : Place). with_line k line.End (sound x n before s [])) e

ended : (q : Place) → IsBeforeEnd q → (k n : ℕ) (before : List Given) (s : Given) (padding : List Bool) →
    (x : Place) × ((x ≡ End) ⊎ (x ≡ Padding)) × (with_lines k (sound q n before s []) (line.End ∷ bits_lines line.Padding padding) ≡ sound x n before s padding)
ended q o k n before s [] = (End, inl refl, end_line q o k n before s)
ended q o k n before s (b ∷ bs) = (Padding, inr refl, ap (λ (i : GivenItem). with_lines (k + 1) i (line.Padding (Some (b ∷ bs)) ∷ [])) (end_line q o k n before s))

spelt_whole : (end n : ℕ) (before : List Given) (s : Given) (padding front b : List Bool) (x : Place) → (x ≡ End) ⊎ (x ≡ Padding) → front_of before s ≡ Ok front
    → checked (head_of before s).line n (is_balise_given (head_of before s).values) (padded n padding (front ++ bits 8 255)) ≡ Ok b → spelling_of end (sound x n before s padding) ≡ spelt.Telegram b
spelt_whole end n before s padding front b x (inl e) f c =
    ap (λ (y : Place). spelling_of end (sound y n before s padding)) e ∙ ap (λ (r : Part). spelling_by spelt.Telegram (whole_telegram end (sound End n before s padding) r)) f ∙ ap (spelling_by spelt.Telegram) c
spelt_whole end n before s padding front b x (inr e) f c =
    ap (λ (y : Place). spelling_of end (sound y n before s padding)) e ∙ ap (λ (r : Part). spelling_by spelt.Telegram (whole_telegram end (sound Padding n before s padding) r)) f ∙ ap (spelling_by spelt.Telegram) c

checked_whole : (line : ℕ) (balise : Bool) (x b : List Bool) → balise ≡ true → x ≡ b → checked line (length b) balise x ≡ Ok b
checked_whole line balise x b t e =
    let size : eqb (length b) (length b) ≡ true = eq-eqb (length b) (length b) refl in
    ap (checked line (length b) balise) e ∙ (let done : checked line (length b) balise b ≡ Ok b = rw (size, t) refl in done)

padding_is : (x padding b : List Bool) → x ++ padding ≡ b → given_padding (length b) (length x) padding ≡ padding
padding_is x [] b e = let none : length b - length x ≡ 0 = omega (arith, ap length e, length-append x []) in ap ones none
padding_is x (p ∷ ps) b e = refl

-- ---- a telegram

module _ (n end : ℕ) (b : List Bool) (y : Telegram) (e : read_telegram b ≡ Ok y) where
  r : IsRead b y
  r = telegram_read b y e

  padding : List Bool
  padding = drop (used y.packets) b

  head : Given
  head = record { line = n; values = map said y.head; rest = [] }

  -- the numbers of the first lines after the header and after the packets
  after_header : ℕ
  after_header = n + 1 + length (field_lines y.head)

  after_packets : ℕ
  after_packets = after_header + length (packets_lines y.packets)

  last_lines : List FieldLine
  last_lines = line.End ∷ bits_lines line.Padding padding

  made : Sections (with_lines after_header (sound Header (length b) [] head []) (packets_lines y.packets)) (length b) [] head y.packets
  made = packets_made Header (inl refl) after_header (length b) [] head y.packets

  closed : (x : Place) × ((x ≡ End) ⊎ (x ≡ Padding)) × (with_lines after_packets (sound made.place (length b) made.before_last made.last []) last_lines ≡ sound x (length b) made.before_last made.last padding)
  unfolding last_lines
  closed = ended made.place made.open_place after_packets (length b) made.before_last made.last padding

  item_is : item_of n (line.Telegram (Some (length b))) (telegram_lines b y) ≡ sound closed.0 (length b) made.before_last made.last padding
  unfolding padding head after_header after_packets last_lines
  item_is =
      lines-append (n + 1) (sound Header (length b) [] (begun_at n) []) (field_lines y.head) (packets_lines y.packets ++ last_lines)
      ∙ ap (λ (i : GivenItem). with_lines after_header i (packets_lines y.packets ++ last_lines)) (fields_made Header tt (n + 1) (length b) [] (begun_at n) [] y.head)
      ∙ lines-append after_header (sound Header (length b) [] head []) (packets_lines y.packets) last_lines
      ∙ ap (λ (i : GivenItem). with_lines after_packets i last_lines) made.is ∙ closed.2

  front : List Bool
  front = spelling y.head ++ packets_bits y.packets

  its : (front_of made.before_last made.last ≡ joined (header_of head) (packets_of (version_given head.values) made.more)) × (head_of made.before_last made.last ≡ head)
  its = front_is made.before_last made.last head made.more made.all

  header_is : header_of head ≡ Ok (spelling y.head)
  unfolding head
  header_is = ap (header_fitting (record { line = n; values = map said y.head; rest = [] })) (header_none y.head r.header) ∙ ap Ok (laid_said y.head)

  packets_are : packets_of (version_given head.values) made.more ≡ Ok (packets_bits y.packets)
  unfolding head
  packets_are =
      ap (λ (v : ℕ). packets_of v made.more) (version_is y.head r.header r.numbered) ∙ packets_whole (version_of y) made.more y.packets made.are r.packets

  front_so : front_of made.before_last made.last ≡ Ok front
  unfolding front
  front_so = its.0 ∙ ap (λ (x : Part). joined x (packets_of (version_given head.values) made.more)) header_is ∙ ap (joined (Ok (spelling y.head))) packets_are

  shown : (front ++ bits 8 255) ++ padding ≡ b
  unfolding front padding
  shown =
      let left : drop (used y.packets) y.padding ≡ drop (used y.packets) b = ap (drop (used y.packets)) r.padding ∙ drop_at (ones (used y.packets)) (drop (used y.packets) b) (used y.packets) (length-replicate (used y.packets) true) in
      ap (λ (x : List Bool). ((spelling y.head ++ packets_bits y.packets) ++ x) ++ drop (used y.packets) b) eight_ones
      ∙ ap (λ (x : List Bool). ((spelling y.head ++ packets_bits y.packets) ++ ones 8) ++ x) (sym left)
      ∙ append_assoc (spelling y.head ++ packets_bits y.packets) (ones 8) (drop (used y.packets) y.padding)
      ∙ append_assoc (spelling y.head) (packets_bits y.packets) (ones 8 ++ drop (used y.packets) y.padding)
      ∙ r.shows

  whole : padded (length b) padding (front ++ bits 8 255) ≡ b
  whole = padded_so (length b) padding (front ++ bits 8 255) ∙ ap (λ (x : List Bool). (front ++ bits 8 255) ++ x) (padding_is (front ++ bits 8 255) padding b shown) ∙ shown

  balise : is_balise_given (head_of made.before_last made.last).values ≡ true
  unfolding head
  balise = ap (λ (s : Given). is_balise_given s.values) its.1 ∙ balise_is y.head r.header r.numbered ∙ r.balise

  pub spelt_so : spelling_of end (item_of n (line.Telegram (Some (length b))) (telegram_lines b y)) ≡ spelt.Telegram b
  spelt_so =
      ap (spelling_of end) item_is
      ∙ spelt_whole end (length b) made.before_last made.last padding front b closed.0 closed.1 front_so (checked_whole (head_of made.before_last made.last).line (is_balise_given (head_of made.before_last made.last).values) (padded (length b) padding (front ++ bits 8 255)) b balise whole)

pub telegram_is_spelt : TelegramIsSpelt
telegram_is_spelt n end b y e = spelt_so n end b y e
