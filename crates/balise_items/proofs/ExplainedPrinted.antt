-- What is printed for a telegram or a packet says what its lines do.
use Rattle.std.proofs.Common.{◌≡◌, ◌∙◌, ◌+◌, ◌≤◌, inl, inr, ℕ, Bool, List, [], ◌∷◌, ◌++◌, length, drop, codes, decimal, Some, ap, subst, arith, append_assoc, length-append}
use Rattle.std.proofs.lemmas.List.{length-drop}
use Rattle.balise_rules.specs.Bits.{ones}
use Rattle.balise_rules.specs.Forms.{spelling}
use Rattle.balise_rules.specs.Packet.{width}
use Rattle.balise_rules.specs.Telegram.{IsLength, header, packets_bits, used, version_of}
use Rattle.balise_rules.proofs.TelegramRead.{header_fixed}
use Rattle.balise_rules.proofs.TelegramAgain.{fixed_length}
use Rattle.balise_rules.proofs.TelegramShown.{telegram_read}
use Rattle.balise_codec.specs.declared.placed.Placed.{Placed}
use Rattle.balise_codec.specs.Places.{placed}
use Rattle.balise_codec.specs.Spelling.{given, size_of}
use Rattle.balise_codec.proofs.Written.{laid_of, written-long}
use Rattle.balise_text.specs.Texts.{Text, whole_line}
use Rattle.balise_fields.specs.declared.field_line.FieldLine.{FieldLine}
use Rattle.balise_fields.specs.declared.field_line.FieldLine.TheVariants as line
use Rattle.balise_fields.specs.ExplainedTexts.{alone_line, bits_text, fields_text, in_packet, packets_text, telegram_text}
use Rattle.balise_items.specs.Laws.{PacketIsPrinted, Printed, TelegramIsPrinted, bits_lines, field_lines, packet_lines, packets_lines, telegram_lines}
use Rattle.balise_items.proofs.PrintedLines.{alone_says, both_printed, end_says, fields_printed, one_printed, packet_printed, packets_printed, padding_printed, printed_so, telegram_says}

-- no telegram is longer
few : (n : ℕ) → IsLength n → n ≤ 830
few n (inl e) = omega (arith, e)
few n (inr e) = omega (arith, e)

pub telegram_is_printed : TelegramIsPrinted
telegram_is_printed b y t e x =
    let r = telegram_read b y e in
    let n = few (length b) r.size in
    let fifty : length (spelling y.head) ≡ 50 = fixed_length header 50 y.head [] header_fixed r.header in
    let behind : List Bool = ones 8 ++ drop (used y.packets) y.padding in
    let long : length b ≡ 50 + (length (packets_bits y.packets) + length behind) = omega (arith, ap length r.shows, length-append (spelling y.head) (packets_bits y.packets ++ behind), length-append (packets_bits y.packets) behind, fifty) in
    let padding : List Bool = drop (used y.packets) b in
    let head : Text = fields_text (placed 0 y.head) in
    let packets : Text = packets_text t.packets.items in
    let first : Text = whole_line (codes "telegram" ∷ decimal (length b) ∷ []) in
    let last : Text = codes "end\n" ++ bits_text (codes "padding") padding in
    let last_lines : List FieldLine = line.End ∷ bits_lines line.Padding padding in
    let is : telegram_text (length b) t ≡ (first ++ (head ++ packets)) ++ last =
    ap (λ (hs : List Placed). (first ++ (fields_text hs ++ packets)) ++ (codes "end\n" ++ bits_text (codes "padding") t.padding)) x.header
    ∙ ap (λ (p : List Bool). (first ++ (head ++ packets)) ++ (codes "end\n" ++ bits_text (codes "padding") p)) x.padding in
    let heads = fields_printed 0 header [] y.head [] r.header r.numbered (omega (arith, fifty)) (omega (arith, fifty)) in
    let more = packets_printed (version_of y) 50 y.packets t.packets.items r.packets x.packets (omega (arith, long, n)) in
    let ends = both_printed (codes "end\n") (bits_text (codes "padding") padding) (line.End ∷ []) (bits_lines line.Padding padding) (one_printed (codes "end") line.End end_says) (padding_printed padding (omega (arith, length-drop (used y.packets) b, n))) in
    let front = both_printed first (head ++ packets) (line.Telegram (Some (length b)) ∷ []) (field_lines y.head ++ packets_lines y.packets) (one_printed _ _ (telegram_says (length b) r.size)) (both_printed head packets (field_lines y.head) (packets_lines y.packets) heads more) in
    printed_so (telegram_text (length b) t) ((first ++ (head ++ packets)) ++ last) (line.Telegram (Some (length b)) ∷ telegram_lines b y) is
    (subst (λ (ls : List FieldLine). Printed ((first ++ (head ++ packets)) ++ last) (line.Telegram (Some (length b)) ∷ ls)) (append_assoc (field_lines y.head) (packets_lines y.packets) last_lines)
    (both_printed (first ++ (head ++ packets)) last (line.Telegram (Some (length b)) ∷ (field_lines y.head ++ packets_lines y.packets)) last_lines front ends))

pub packet_is_printed : PacketIsPrinted
packet_is_printed version p x v s i =
    let l = laid_of version p s in
    let size : width p ≡ size_of (given p.fields) p.rest = ap length l.bits ∙ written-long (given p.fields) p.rest (size_of (given p.fields) p.rest) in
    both_printed (alone_line version) (in_packet x) (line.Alone (Some version) ∷ []) (packet_lines p) (one_printed _ _ (alone_says version v)) (packet_printed version 0 p x s i (omega (arith, size, l.writable.short)))
