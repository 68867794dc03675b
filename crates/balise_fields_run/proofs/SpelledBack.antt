-- What is printed for a telegram or a packet is one item, and it is spelled as its digits.
use Rattle.std.proofs.Common.{◌≡◌, ◌∙◌, ◌+◌, ℕ, Bool, true, false, List, [], ◌∷◌, ◌++◌, length, map, drop, codes, Option, Some, None, refl, ap, append_assoc}
use Rattle.balise_rules.specs.declared.tag.Tag.{Tag}
use Rattle.balise_rules.specs.Forms.{Fields}
use Rattle.balise_rules.specs.Packet.{Packet, bits_of}
use Rattle.balise_rules.specs.Telegram.{Telegram, used}
use Rattle.balise_lines.specs.Lines.{Line, ended, lines_of}
use Rattle.balise_lines.proofs.FirstLines.{lines_of-ended}
use Rattle.balise_text.specs.Texts.{Text}
use Rattle.balise_fields.specs.declared.explained.Explained.TheVariants as explained
use Rattle.balise_fields.specs.declared.field_line.FieldLine.{FieldLine}
use Rattle.balise_fields.specs.declared.field_line.FieldLine.TheVariants.{Plan, Group, Telegram as TelegramLine, Alone, Packet as PacketLine, Field, Rest, End, Padding, Other}
use Rattle.balise_fields.specs.ExplainedTexts.{explained_text}
use Rattle.balise_fields.specs.FieldLines.{field_line_of}
use Rattle.balise_items.specs.declared.spelling.Spelling.{Spelling}
use Rattle.balise_items.specs.declared.spelling.Spelling.TheVariants as spelling
use Rattle.balise_items.specs.Items.{GivenItem, begun, with_line}
use Rattle.balise_items.specs.Laws.{Printed, Says, SayAll, bits_lines, field_lines, item_of, packet_lines, packets_lines, telegram_lines, with_ends, with_lines}
use Rattle.balise_items.specs.Spellings.{spelling_of, spelling_text}
use Rattle.balise_items.proofs.ExplainedPrinted.{packet_is_printed, telegram_is_printed}
use Rattle.balise_items.proofs.ExplainedSpelt.{packet_is_spelt, telegram_is_spelt}
use Rattle.balise_fields_run.specs.ItemLines.{begun_after, closed_text, ends_item, grown, line_text, lines_text, next_of, open_after, open_at_end, open_of, plan_text}
use Rattle.balise_fields_run.specs.SpelledBack.{PacketIsSpelledBack, TelegramIsSpelledBack, spelled_text}

-- ---- the lines of the text

cut : (ts : List Text) (ls : List FieldLine) → SayAll ts ls → lines_of (with_ends ts) ≡ map ended ts
cut [] [] s = refl
cut [] (l ∷ ls) s = absurd s
cut (t ∷ ts) [] s = absurd s
cut (t ∷ ts) (l ∷ ls) s = ap lines_of (append_assoc t (codes "\n") (with_ends ts)) ∙ lines_of-ended t (with_ends ts) s.0.one ∙ ap (λ (x : List Line). ended t ∷ x) (cut ts ls s.1)

-- ---- a line within an item

abbrev IsInner : FieldLine → Type 0
IsInner PacketLine = Unit {0}
IsInner (Field v x) = Unit {0}
IsInner (Rest b) = Unit {0}
IsInner End = Unit {0}
IsInner (Padding b) = Unit {0}
IsInner Plan = ⊥
IsInner Group = ⊥
IsInner (TelegramLine n) = ⊥
IsInner (Alone n) = ⊥
IsInner Other = ⊥

abbrev AllInner : List FieldLine → Type 0
AllInner [] = Unit {0}
AllInner (l ∷ ls) = IsInner l × AllInner ls

ends_none : (t : Text) (l : FieldLine) → IsInner l → ends_item t l ≡ false
ends_none t PacketLine i = refl
ends_none t (Field v x) i = refl
ends_none t (Rest b) i = refl
ends_none t End i = refl
ends_none t (Padding b) i = refl
ends_none t Plan i = absurd i
ends_none t Group i = absurd i
ends_none t (TelegramLine n) i = absurd i
ends_none t (Alone n) i = absurd i
ends_none t Other i = absurd i

not_ended : (t : Text) (l : FieldLine) → Says t l → IsInner l → ends_item t (field_line_of t) ≡ false
not_ended t l s i = ap (ends_item t) s.says ∙ ends_none t l i

inner_text : (n : ℕ) (t : Text) (l : FieldLine) (o : Option GivenItem) → Says t l → IsInner l → line_text n t o ≡ []
inner_text n t l o s i = rw (not_ended t l s i) refl

inner_after : (n : ℕ) (t : Text) (l : FieldLine) (i : GivenItem) → Says t l → IsInner l → open_after n t (Some i) ≡ Some (with_line n l i)
inner_after n t l i s in_item =
    (let one : open_after n t (Some i) ≡ Some (grown n (field_line_of t) (Some i)) = rw (not_ended t l s in_item) refl in one) ∙ ap (λ (k : FieldLine). Some (with_line n k i)) s.says

inner_texts : (n : ℕ) (i : GivenItem) (ts : List Text) (ls : List FieldLine) → SayAll ts ls → AllInner ls → lines_text n (Some i) (map ended ts) ≡ []
inner_texts n i [] [] s a = refl
inner_texts n i [] (l ∷ ls) s a = absurd s
inner_texts n i (t ∷ ts) [] s a = absurd s
inner_texts n i (t ∷ ts) (l ∷ ls) s a =
    ap (λ (x : Text). x ++ lines_text (n + 1) (open_after n t (Some i)) (map ended ts)) (inner_text n t l (Some i) s.0 a.0)
    ∙ ap (λ (o : Option GivenItem). lines_text (n + 1) o (map ended ts)) (inner_after n t l i s.0 a.0) ∙ inner_texts (n + 1) (with_line n l i) ts ls s.1 a.1

inner_open : (n : ℕ) (i : GivenItem) (ts : List Text) (ls : List FieldLine) → SayAll ts ls → AllInner ls → open_at_end n (Some i) (map ended ts) ≡ Some (with_lines n i ls)
inner_open n i [] [] s a = refl
inner_open n i [] (l ∷ ls) s a = absurd s
inner_open n i (t ∷ ts) [] s a = absurd s
inner_open n i (t ∷ ts) (l ∷ ls) s a =
    ap (λ (o : Option GivenItem). open_at_end (n + 1) o (map ended ts)) (inner_after n t l i s.0 a.0) ∙ inner_open (n + 1) (with_line n l i) ts ls s.1 a.1

-- ---- an item

-- a line that begins an item, and is none of a plan
record Begins (t : Text) (l : FieldLine) : Type 0 where
  ends : ends_item t l ≡ true
  plan : plan_text l ≡ []
  begun_so : begun_after 1 l ≡ Some (begun 1 l)

spelled_item : (text : Text) (l : FieldLine) (ls : List FieldLine) (x : Spelling) → ((t : Text) → Begins t l) → AllInner ls → Printed text (l ∷ ls) → ((end : ℕ) → spelling_of end (item_of 1 l ls) ≡ x) → spelled_text text ≡ spelling_text x
spelled_item text l ls x begins a p is = by p.lines p.say p.whole
  where
    by : (ts : List Text) → SayAll ts (l ∷ ls) → text ≡ with_ends ts → spelled_text text ≡ spelling_text x
    by [] s w = absurd s
    by (t ∷ ts) s w =
        let b = begins t in
        let ends : ends_item t (field_line_of t) ≡ true = ap (ends_item t) s.0.says ∙ b.ends in
        let lines : lines_of text ≡ map ended (t ∷ ts) = ap lines_of w ∙ cut (t ∷ ts) (l ∷ ls) s in
        let first : line_text 1 t None ≡ [] = (let k : line_text 1 t None ≡ plan_text (field_line_of t) = rw ends refl in k) ∙ ap plan_text s.0.says ∙ b.plan in
        let after : open_after 1 t None ≡ Some (begun 1 l) = (let k : open_after 1 t None ≡ begun_after 1 (field_line_of t) = rw ends refl in k) ∙ ap (begun_after 1) s.0.says ∙ b.begun_so in
        let none : lines_text 1 None (map ended (t ∷ ts)) ≡ []
        = ap (λ (y : Text). y ++ lines_text 2 (open_after 1 t None) (map ended ts)) first ∙ ap (λ (o : Option GivenItem). lines_text 2 o (map ended ts)) after ∙ inner_texts 2 (begun 1 l) ts ls s.1 a in
        let item : open_of (map ended (t ∷ ts)) ≡ Some (item_of 1 l ls) = ap (λ (o : Option GivenItem). open_at_end 2 o (map ended ts)) after ∙ inner_open 2 (begun 1 l) ts ls s.1 a in
        let end : ℕ = next_of (map ended (t ∷ ts)) in
        ap (λ (k : List Line). lines_text 1 None k ++ closed_text (next_of k) (open_of k)) lines
        ∙ ap (λ (y : Text). y ++ closed_text end (open_of (map ended (t ∷ ts)))) none
        ∙ ap (closed_text end) item ∙ ap spelling_text (is end)

-- ---- the lines of a telegram or a packet stand within one item

inner-append : (ls ms : List FieldLine) → AllInner ls → AllInner ms → AllInner (ls ++ ms)
inner-append [] ms a b = b
inner-append (l ∷ ls) ms a b = (a.0, inner-append ls ms a.1 b)

fields_inner : (fs : Fields) → AllInner (field_lines fs)
fields_inner [] = tt
fields_inner (f ∷ fs) = (tt, fields_inner fs)

rest_inner : (b : List Bool) → AllInner (bits_lines Rest b)
rest_inner [] = tt
rest_inner (x ∷ b) = (tt, tt)

padding_inner : (b : List Bool) → AllInner (bits_lines Padding b)
padding_inner [] = tt
padding_inner (x ∷ b) = (tt, tt)

packet_inner : (p : Packet) → AllInner (packet_lines p)
packet_inner p = inner-append (field_lines p.fields) (bits_lines Rest p.rest) (fields_inner p.fields) (rest_inner p.rest)

packets_inner : (ps : List (Tag × Packet)) → AllInner (packets_lines ps)
packets_inner [] = tt
packets_inner (p ∷ ps) = (tt, inner-append (packet_lines p.1) (packets_lines ps) (packet_inner p.1) (packets_inner ps))

telegram_inner : (b : List Bool) (y : Telegram) → AllInner (telegram_lines b y)
telegram_inner b y =
    let padding = bits_lines Padding (drop (used y.packets) b) in
    inner-append (field_lines y.head) (packets_lines y.packets ++ (End ∷ padding)) (fields_inner y.head) (inner-append (packets_lines y.packets) (End ∷ padding) (packets_inner y.packets) (tt, padding_inner (drop (used y.packets) b)))

telegram_begins : (n : ℕ) (t : Text) → Begins t (TelegramLine (Some n))
telegram_begins n t = record { ends = refl; plan = refl; begun_so = refl }

alone_begins : (n : ℕ) (t : Text) → Begins t (Alone (Some n))
alone_begins n t = record { ends = refl; plan = refl; begun_so = refl }

pub telegram_is_spelled_back : TelegramIsSpelledBack
telegram_is_spelled_back b y t e x =
    spelled_item (explained_text (explained.Telegram (length b) t)) (TelegramLine (Some (length b))) (telegram_lines b y) (spelling.Telegram b) (telegram_begins (length b)) (telegram_inner b y) (telegram_is_printed b y t e x) (λ end. telegram_is_spelt 1 end b y e)

pub packet_is_spelled_back : PacketIsSpelledBack
packet_is_spelled_back version p x v s i =
    spelled_item (explained_text (explained.Packet version x)) (Alone (Some version)) (packet_lines p) (spelling.Packet version (bits_of p)) (alone_begins version) (packet_inner p) (packet_is_printed version p x v s i) (λ end. packet_is_spelt 1 end version p s)
