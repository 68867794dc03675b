-- The lines that are printed for what is explained, and what they say.
use Rattle.std.proofs.Common.{◌≡◌, ◌∙◌, ℕ, suc, ◌+◌, ◌^◌, ◌<◌, ◌≤◌, inl, inr, Bool, true, false, cond, nat_lt, List, [], ◌∷◌, ◌++◌, All, length, codes, decimal, bytes_eq, Option, Some, refl, sym, ap, subst, arith, append_assoc, append-nil, length-append}
use Rattle.std.specs.Prelude.{nat_le}
use Rattle.std.proofs.lemmas.Bool.{leb-true, ltb-true}
use Rattle.std.proofs.lemmas.List.Elements.{All-head, All-tail}
use Rattle.std.proofs.lemmas.Slice.Eq.{bytes_eq-Decides}
use Rattle.balise_rules.specs.declared.tag.Tag.{Tag}
use Rattle.balise_rules.specs.declared.variable.Var.{Var}
use Rattle.balise_rules.specs.Variables.{name_of, var_named, width_of}
use Rattle.balise_rules.specs.Bits.{bits}
use Rattle.balise_rules.specs.Tags.{is_of}
use Rattle.balise_rules.specs.Forms.{Form, done, shut, never, valued, Fields, Matches, NumberedFrom, count_of, spelling}
use Rattle.balise_rules.specs.Packet.{Packet, IsSpelt, bits_of, width}
use Rattle.balise_rules.specs.Packets.{packet}
use Rattle.balise_rules.specs.Telegram.{IsLength, packets_bits}
use Rattle.balise_rules.proofs.EachVariable.{each_variable}
use Rattle.balise_rules.proofs.Numbers.{length-bits}
use Rattle.balise_rules.proofs.VariableNames.{name_read}
use Rattle.balise_codec.specs.declared.explain.PacketFields.{PacketFields}
use Rattle.balise_codec.specs.declared.placed.Placed.{Placed}
use Rattle.balise_codec.specs.Places.{ArePlaced, IsPlaced, placed}
use Rattle.balise_text.specs.Texts.{Text, line_of}
use Rattle.balise_text.specs.Words.{Word, all_digits, most_number, number_of}
use Rattle.balise_text.specs.DigitWords.{some_word}
use Rattle.balise_text.specs.Laws.{IsNumber}
use Rattle.balise_text.proofs.Decimals.{digits_of_decimal, number_of_decimal}
use Rattle.balise_text.proofs.HexDigits.{digits_high}
use Rattle.balise_text.proofs.High.{AllHigh, all_high_lack, decimal_high, name_high, one_line}
use Rattle.balise_text.proofs.Marked.{parts_marked}
use Rattle.balise_fields.specs.declared.field_line.FieldLine.{FieldLine}
use Rattle.balise_fields.specs.declared.field_line.FieldLine.TheVariants as line
use Rattle.balise_fields.specs.DigitLines.{both}
use Rattle.balise_fields.specs.ExplainedTexts.{bits_text, field_text, fields_text, in_packet, packet_text, packets_text}
use Rattle.balise_fields.specs.FieldLines.{bits_line, bits_words, field_line, if_length, if_number, line_in, named, named_line, value_line}
use Rattle.balise_text.specs.Printing.{filled, fours_of}
use Rattle.balise_items.specs.Laws.{Printed, Says, SayAll, bits_lines, field_lines, packet_lines, packets_lines, with_ends}
use Rattle.balise_items.proofs.DigitsBack.{fours_back, fours_some}

-- ---- lines one after another

pub none_printed : Printed [] []
none_printed = record { lines = []; whole = refl; say = tt }

pub one_printed : (t : Text) (l : FieldLine) → Says t l → Printed (t ++ codes "\n") (l ∷ [])
one_printed t l s = record { lines = t ∷ []; whole = sym (append-nil (t ++ codes "\n")); say = (s, tt) }

ends-append : (ts us : List Text) → with_ends (ts ++ us) ≡ with_ends ts ++ with_ends us
ends-append [] us = refl
ends-append (t ∷ ts) us = ap (λ (x : Text). (t ++ codes "\n") ++ x) (ends-append ts us) ∙ sym (append_assoc (t ++ codes "\n") (with_ends ts) (with_ends us))

say-append : (ts us : List Text) (ls ms : List FieldLine) → SayAll ts ls → SayAll us ms → SayAll (ts ++ us) (ls ++ ms)
say-append [] us [] ms s t = t
say-append [] us (l ∷ ls) ms s t = absurd s
say-append (x ∷ xs) us [] ms s t = absurd s
say-append (x ∷ xs) us (l ∷ ls) ms s t = (s.0, say-append xs us ls ms s.1 t)

pub both_printed : (t u : Text) (ls ms : List FieldLine) → Printed t ls → Printed u ms → Printed (t ++ u) (ls ++ ms)
both_printed t u ls ms p q = record {
  lines = p.lines ++ q.lines;
  whole = ap (λ (x : Text). x ++ u) p.whole ∙ ap (λ (x : Text). with_ends p.lines ++ x) q.whole ∙ sym (ends-append p.lines q.lines);
  say = say-append p.lines q.lines ls ms p.say q.say;
}

pub printed_so : (t u : Text) (ls : List FieldLine) → t ≡ u → Printed u ls → Printed t ls
printed_so t u ls e p = record { lines = p.lines; whole = e ∙ p.whole; say = p.say }

-- ---- a line of words

pub line_says : (w : Word) (ws : List Word) (l : FieldLine) → AllHigh (w ∷ ws) → line_in (w ∷ ws) ≡ l → Says (line_of (w ∷ ws)) l
line_says w ws l h e = record { one = one_line (w ∷ ws) h; says = ap line_in (parts_marked 32 w ws (all_high_lack 32 (w ∷ ws) (omega arith) h)) ∙ e }

digits_apart : (w v : Word) → all_digits w ≡ true → all_digits v ≡ false → bytes_eq w v ≡ false
digits_apart w v d o = by (bytes_eq w v) refl
  where
    by : (b : Bool) → bytes_eq w v ≡ b → bytes_eq w v ≡ false
    by true e = let same : w ≡ v = (bytes_eq-Decides w v).0 e in absurd (let k = sym d ∙ ap all_digits same ∙ o in cc)
    by false e = e

-- no other line begins with a number
number_line : (w : Word) (ws : List Word) → all_digits w ≡ true → named_line w ws ≡ field_line w ws
number_line w ws d =
    rw (digits_apart w (codes "rest") d refl, digits_apart w (codes "padding") d refl, digits_apart w (codes "telegram") d refl, digits_apart w (codes "packet") d refl, digits_apart w (codes "end") d refl, digits_apart w (codes "group") d refl, digits_apart w (codes "plan") d refl, digits_apart w (codes "fault") d refl) refl

is_number : (w : Word) (n : ℕ) (l : FieldLine) → number_of w ≡ Some n → if_number w l ≡ l
is_number w n l e = rw e refl

named_so : (name value : Word) (v : Option Var) (n : ℕ) → 0 < length name → var_named name ≡ v → number_of value ≡ Some n → named name value ≡ line.Field v n
named_so [] value v n h a b = absurd (omega arith)
named_so (x ∷ xs) value v n h a b = ap (λ (o : Option Var). value_line o (number_of value)) a ∙ ap (value_line v) b

-- ---- a field

name_some : (v : Var) → 0 < length (name_of v)
unfolding name_of
name_some v = ltb-true 0 (length (name_of v)) (each_variable (λ w. nat_lt 0 (length (name_of w))) refl v)

width_some : (v : Var) → 0 < width_of v
unfolding width_of
width_some v = ltb-true 0 (width_of v) (each_variable (λ w. nat_lt 0 (width_of w)) refl v)

width_number : (v : Var) → IsNumber (width_of v)
unfolding width_of
width_number v = leb-true (width_of v) most_number (each_variable (λ w. nat_le (width_of w) most_number) refl v)

most_value : (v : Var) → 2 ^ width_of v ≤ most_number
unfolding width_of
most_value v = leb-true (2 ^ width_of v) most_number (each_variable (λ w. nat_le (2 ^ width_of w) most_number) refl v)

value_number : (v : Var) (n : ℕ) → n < 2 ^ width_of v → IsNumber n
value_number v n h = omega (arith, h, most_value v)

field_says : (f : Placed) → IsNumber f.at → IsNumber f.occurrence → f.value < 2 ^ width_of f.var → Says (line_of (decimal f.at ∷ decimal (width_of f.var) ∷ name_of f.var ∷ decimal f.occurrence ∷ decimal f.value ∷ [])) (line.Field (Some f.var) f.value)
field_says f a k v =
    let w = width_number f.var in
    let n = value_number f.var f.value v in
    let name = name_of f.var in
    let all : List Word = decimal (width_of f.var) ∷ name ∷ decimal f.occurrence ∷ decimal f.value ∷ [] in
    line_says (decimal f.at) all (line.Field (Some f.var) f.value)
    (decimal_high f.at a, (decimal_high (width_of f.var) w, (name_high f.var, (decimal_high f.occurrence k, (decimal_high f.value n, tt)))))
    (number_line (decimal f.at) all (digits_of_decimal f.at a) ∙ is_number (decimal f.at) f.at _ (number_of_decimal f.at a) ∙ is_number (decimal (width_of f.var)) (width_of f.var) _ (number_of_decimal (width_of f.var) w)
    ∙ is_number (decimal f.occurrence) f.occurrence _ (number_of_decimal f.occurrence k) ∙ named_so name (decimal f.value) (Some f.var) f.value (name_some f.var) (name_read f.var) (number_of_decimal f.value n))

count_below : (v : Var) (seen : Fields) → count_of v seen ≤ length seen
count_below v [] = omega arith
count_below v (f ∷ fs) = by (is_of v f.0) (count_below v fs)
  where
    by : (b : Bool) → count_of v fs ≤ length fs → cond b (suc (count_of v fs)) (count_of v fs) ≤ length (f ∷ fs)
    by true h = omega (arith, h)
    by false h = omega (arith, h)

longer : (f : _) (fs : Fields) → length (spelling (f ∷ fs)) ≡ width_of f.0.0 + length (spelling fs)
unfolding spelling
longer f fs = length-append (bits (width_of f.0.0) f.1) (spelling fs) ∙ ap (λ (n : ℕ). n + length (spelling fs)) (length-bits (width_of f.0.0) f.1)

-- fields of a form, where places and occurrences are numbers of 32 bits
pub fields_printed : (at : ℕ) (form : Form) (seen fs : Fields) (raw : List Bool) → Matches form fs raw → NumberedFrom seen fs → at + length (spelling fs) ≤ most_number → length seen + length (spelling fs) ≤ most_number
    → Printed (fields_text (placed at fs)) (field_lines fs)
fields_printed at form seen [] raw m u a s = none_printed
fields_printed at done seen (f ∷ fs) raw m u a s = absurd m
fields_printed at shut seen (f ∷ fs) raw m u a s = absurd m
fields_printed at never seen (f ∷ fs) raw m u a s = absurd m
fields_printed at (valued v next) seen (f ∷ fs) raw m u a s =
    let long = longer f fs in
    let some = width_some f.0.0 in
    let fit : f.1 < 2 ^ width_of f.0.0 = subst (λ (x : Var). f.1 < 2 ^ width_of x) (sym m.0) (ltb-true f.1 (2 ^ width_of v) m.1) in
    let one : Placed = record { at = at; var = f.0.0; occurrence = f.0.1; value = f.1 } in
    let here : IsNumber at = omega (arith, a) in
    let times : IsNumber f.0.1 = omega (arith, u.0, count_below f.0.0 seen, s) in
    let more : length (seen ++ f ∷ []) ≡ length seen + 1 = length-append seen (f ∷ []) in
    both_printed (field_text one) (fields_text (placed (at + width_of f.0.0) fs)) (line.Field (Some f.0.0) f.1 ∷ []) (field_lines fs) (one_printed _ _ (field_says one here times fit))
    (fields_printed (at + width_of f.0.0) (next f.1) (seen ++ f ∷ []) fs raw m.2 u.1 (omega (arith, long, a)) (omega (arith, long, some, more, s)))

-- ---- bits

some_so : (w : Word) → 0 < length w → some_word w ≡ Some w
some_so [] h = absurd (omega arith)
some_so (b ∷ bs) h = refl

bits_said : (of : Option (List Bool) → FieldLine) (b : List Bool) → 0 < length (fours_of b) → IsNumber (length b) → bits_line of (bits_words (decimal (length b) ∷ fours_of b ∷ [])) ≡ of (Some b)
bits_said of b some n =
    ap (λ (o : Option ℕ). bits_line of (both o (some_word (fours_of b)))) (number_of_decimal (length b) n) ∙ ap (λ (o : Option Word). bits_line of (both (Some (length b)) o)) (some_so (fours_of b) some) ∙ ap of (fours_back b)

pub rest_printed : (b : List Bool) → IsNumber (length b) → Printed (bits_text (codes "rest") b) (bits_lines line.Rest b)
rest_printed [] n = none_printed
rest_printed (x ∷ b) n = one_printed _ _ (line_says (codes "rest") (decimal (length (x ∷ b)) ∷ fours_of (x ∷ b) ∷ []) (line.Rest (Some (x ∷ b))) (refl, (decimal_high (length (x ∷ b)) n, (digits_high (filled (x ∷ b)), tt))) (bits_said line.Rest (x ∷ b) (fours_some x b) n))

pub padding_printed : (b : List Bool) → IsNumber (length b) → Printed (bits_text (codes "padding") b) (bits_lines line.Padding b)
padding_printed [] n = none_printed
padding_printed (x ∷ b) n = one_printed _ _ (line_says (codes "padding") (decimal (length (x ∷ b)) ∷ fours_of (x ∷ b) ∷ []) (line.Padding (Some (x ∷ b))) (refl, (decimal_high (length (x ∷ b)) n, (digits_high (filled (x ∷ b)), tt))) (bits_said line.Padding (x ∷ b) (fours_some x b) n))

-- ---- first lines

pub telegram_says : (n : ℕ) → IsLength n → Says (line_of (codes "telegram" ∷ decimal n ∷ [])) (line.Telegram (Some n))
telegram_says n (inl e) = let k : IsNumber n = omega (arith, e) in line_says (codes "telegram") (decimal n ∷ []) (line.Telegram (Some n)) (refl, (decimal_high n k, tt)) (ap (λ (o : Option ℕ). line.Telegram (if_length o)) (number_of_decimal n k) ∙ subst (λ (m : ℕ). line.Telegram (if_length (Some m)) ≡ line.Telegram (Some m)) (sym e) refl)
telegram_says n (inr e) = let k : IsNumber n = omega (arith, e) in line_says (codes "telegram") (decimal n ∷ []) (line.Telegram (Some n)) (refl, (decimal_high n k, tt)) (ap (λ (o : Option ℕ). line.Telegram (if_length o)) (number_of_decimal n k) ∙ subst (λ (m : ℕ). line.Telegram (if_length (Some m)) ≡ line.Telegram (Some m)) (sym e) refl)

pub alone_says : (n : ℕ) → IsNumber n → Says (line_of (codes "packet" ∷ decimal n ∷ [])) (line.Alone (Some n))
alone_says n k = line_says (codes "packet") (decimal n ∷ []) (line.Alone (Some n)) (refl, (decimal_high n k, tt)) (ap line.Alone (number_of_decimal n k))

pub packet_says : Says (codes "packet") line.Packet
packet_says = line_says (codes "packet") [] line.Packet (refl, tt) refl

pub end_says : Says (codes "end") line.End
end_says = line_says (codes "end") [] line.End (refl, tt) refl

-- ---- packets

pub packet_printed : (version at : ℕ) (p : Packet) (x : PacketFields) → IsSpelt version p → IsPlaced at p x → at + width p ≤ most_number → Printed (in_packet x) (packet_lines p)
packet_printed version at p x s i h =
    let all : width p ≡ length (spelling p.fields) + length p.rest = length-append (spelling p.fields) p.rest in
    printed_so (in_packet x) (fields_text (placed at p.fields) ++ bits_text (codes "rest") p.rest) (packet_lines p) (ap (λ (fs : List Placed). fields_text fs ++ bits_text (codes "rest") x.rest) i.1 ∙ ap (λ (b : List Bool). fields_text (placed at p.fields) ++ bits_text (codes "rest") b) i.2)
    (both_printed (fields_text (placed at p.fields)) (bits_text (codes "rest") p.rest) (field_lines p.fields) (bits_lines line.Rest p.rest)
    (fields_printed at (packet version) [] p.fields p.rest s.form s.numbered (omega (arith, all, h)) (omega (arith, all, h))) (rest_printed p.rest (omega (arith, all, h))))

pub packets_printed : (version at : ℕ) (ps : List (Tag × Packet)) (xs : List PacketFields) → All (λ (p : Tag × Packet). IsSpelt version p.1) ps → ArePlaced at ps xs → at + length (packets_bits ps) ≤ most_number → Printed (packets_text xs) (packets_lines ps)
packets_printed version at [] [] s i h = none_printed
packets_printed version at [] (x ∷ xs) s i h = absurd i
packets_printed version at (p ∷ ps) [] s i h = absurd i
packets_printed version at (p ∷ ps) (x ∷ xs) s i h =
    let all : length (packets_bits (p ∷ ps)) ≡ width p.1 + length (packets_bits ps) = length-append (bits_of p.1) (packets_bits ps) in
    both_printed (packet_text x) (packets_text xs) (line.Packet ∷ packet_lines p.1) (packets_lines ps)
    (both_printed (codes "packet\n") (in_packet x) (line.Packet ∷ []) (packet_lines p.1) (one_printed (codes "packet") line.Packet packet_says)
    (packet_printed version at p.1 x (All-head (λ (q : Tag × Packet). IsSpelt version q.1) p ps s) i.0 (omega (arith, all, h))))
    (packets_printed version (at + width p.1) ps xs (All-tail (λ (q : Tag × Packet). IsSpelt version q.1) p ps s) i.1 (omega (arith, all, h)))
