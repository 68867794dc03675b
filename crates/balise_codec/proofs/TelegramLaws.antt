-- A telegram is spelt as it was read, explained as it was spelt, and refused only where there is none.
use Rattle.std.proofs.Common.{◌≡◌, ◌∙◌, ℕ, zero, suc, ◌+◌, List, [], ◌∷◌, ◌++◌, Bool, true, false, All, length, drop, slice_get, Option, Some, None, Result, Ok, refl, sym, ap, subst, length-append, arith}
use Rattle.std.proofs.lemmas.Bool.{true≢false}
use Rattle.std.proofs.lemmas.List.Elements.{All-head, All-tail}
use Rattle.balise_rules.specs.declared.variable.Var.{Var}
use Rattle.balise_rules.specs.declared.variable.Var.TheVariants.{MVersion}
use Rattle.balise_rules.specs.declared.tag.Tag.{Tag}
use Rattle.balise_rules.specs.declared.refusal.Refusal.{Refusal}
use Rattle.balise_rules.specs.Variables.{width_of}
use Rattle.balise_rules.specs.Bits.{fits, ones}
use Rattle.balise_rules.specs.Forms.{Form, done, shut, never, valued, Fields, Matches, spelling}
use Rattle.balise_rules.specs.Packet.{Packet, value, width, IsSpelt}
use Rattle.balise_rules.specs.Telegram.{Telegram, IsLength, IsRead, TaggedFrom, header, is_balise, packets_bits, shown, used, version_of}
use Rattle.balise_rules.proofs.Cases.{unok, unsome}
use Rattle.balise_rules.proofs.TelegramRead.{header_fixed}
use Rattle.balise_rules.proofs.TelegramAgain.{fixed_length, padding_shown}
use Rattle.balise_rules.proofs.TelegramShown.{telegram_read, used_is}
use Rattle.balise_codec.specs.declared.explain.PacketFields.{PacketFields}
use Rattle.balise_codec.specs.declared.telegram.PacketValues.{PacketValues}
use Rattle.balise_codec.specs.declared.telegram.TelegramMisfit.TheVariants as misfit
use Rattle.balise_codec.specs.Places.{placed, ArePlaced}
use Rattle.balise_codec.specs.Spelling.{Values, given, SpeltBy}
use Rattle.balise_codec.specs.Telegrams.{AreSpelt, IsOf, too_wide}
use Rattle.balise_codec.specs.TelegramLaws.{AreValuesOf, AreExplained, OneTelegram, ReadIsOf, RefusedIsNone, SpeltIsExplained, unplaced}
use Rattle.balise_codec.proofs.Written.{reads_written}

abbrev Tagged : Type 0
Tagged = Tag × Packet

-- ---- read, then spelt

are_spelt : (version : ℕ) (ps : List Tagged) (vs : List PacketValues) → All (λ (p : Tagged). IsSpelt version p.1) ps → AreValuesOf ps vs → AreSpelt version vs ps
are_spelt version [] [] a h = tt
are_spelt version [] (v ∷ vs) a h = absurd h
are_spelt version (p ∷ ps) [] a h = absurd h
are_spelt version (p ∷ ps) (v ∷ vs) a h = (record { spelt = All-head (λ (q : Tagged). IsSpelt version q.1) p ps a; values = sym h.0; rest = sym h.1 }, are_spelt version ps vs (All-tail (λ (q : Tagged). IsSpelt version q.1) p ps a) h.2)

pub read_is_of : ReadIsOf
read_is_of b y values e h = record { read = e; head = refl; packets = are_spelt (version_of y) y.packets values (telegram_read b y e).packets h; padding = refl }

-- ---- one telegram

one_packet : (version : ℕ) (vs : Values) (raw : List Bool) (p q : Packet) → SpeltBy version vs raw p → SpeltBy version vs raw q → p ≡ q
one_packet version vs raw p q s t =
    let both : ◌≡◌ {A = Result (Packet × List Bool) Refusal} (Ok (p, [])) (Ok (q, [])) = sym (reads_written version vs raw p s).1 ∙ (reads_written version vs raw q t).1 in
    ap (λ (x : Packet × List Bool). x.0) (unok both)

same_packets : (version n : ℕ) (vs : List PacketValues) (ps qs : List Tagged) → AreSpelt version vs ps → AreSpelt version vs qs → TaggedFrom n ps → TaggedFrom n qs → ps ≡ qs
same_packets version n [] [] [] a b t u = refl
same_packets version n [] (p ∷ ps) qs a b t u = absurd a
same_packets version n [] [] (q ∷ qs) a b t u = absurd b
same_packets version n (v ∷ vs) [] qs a b t u = absurd a
same_packets version n (v ∷ vs) (p ∷ ps) [] a b t u = absurd b
same_packets version n (v ∷ vs) ((g, p) ∷ ps) ((h, q) ∷ qs) a b t u =
    let tag : g ≡ h = t.0 ∙ sym u.0 in
    let packet : p ≡ q = one_packet version v.values.items v.rest p q a.0 b.0 in
    ap (λ (x : Tag). (x, p) ∷ ps) tag ∙ ap (λ (x : Packet). (h, x) ∷ ps) packet ∙ ap (λ (x : List Tagged). (h, q) ∷ x) (same_packets version (suc n) vs ps qs a.1 b.1 t.1 u.1)

same_used : (version : ℕ) (vs : List PacketValues) (ps qs : List Tagged) → AreSpelt version vs ps → AreSpelt version vs qs → used ps ≡ used qs
same_used version [] [] [] a b = refl
same_used version [] (p ∷ ps) qs a b = absurd a
same_used version [] [] (q ∷ qs) a b = absurd b
same_used version (v ∷ vs) [] qs a b = absurd a
same_used version (v ∷ vs) (p ∷ ps) [] a b = absurd b
same_used version (v ∷ vs) (p ∷ ps) (q ∷ qs) a b =
    let one : width p.1 ≡ width q.1 = ap (λ (x : Packet). width x) (one_packet version v.values.items v.rest p.1 q.1 a.0 b.0) in
    omega (arith, one, same_used version vs ps qs a.1 b.1)

-- the packets of a telegram, in the version of the header that is given
version_spelt : (fields : Fields) (values : List PacketValues) (rest b : List Bool) (y : Telegram) → IsOf fields values rest b y → AreSpelt (value MVersion 0 fields) values y.packets
version_spelt fields values rest b y s = subst (λ (x : Fields). AreSpelt (value MVersion 0 x) values y.packets) s.head s.packets

made_of : Fields → List Tagged → List Bool → Telegram
made_of head packets padding = record { head = head; packets = packets; padding = padding }

pub one_telegram : OneTelegram
unfolding made_of
one_telegram head values rest a b y z s t =
    let r = telegram_read a y s.read in
    let q = telegram_read b z t.read in
    let packets : y.packets ≡ z.packets = same_packets (value MVersion 0 head) 0 values y.packets z.packets (version_spelt head values rest a y s) (version_spelt head values rest b z t) r.tags q.tags in
    let heads : y.head ≡ z.head = s.head ∙ sym t.head in
    let own : y.padding ≡ ones (used y.packets) ++ rest = r.padding ∙ ap (λ (x : List Bool). ones (used y.packets) ++ x) s.padding in
    let other : z.padding ≡ ones (used z.packets) ++ rest = q.padding ∙ ap (λ (x : List Bool). ones (used z.packets) ++ x) t.padding in
    let padding : y.padding ≡ z.padding = own ∙ ap (λ (x : List Tagged). ones (used x) ++ rest) packets ∙ sym other in
    let same : y ≡ z = ap (λ (x : Fields). made_of x y.packets y.padding) heads ∙ ap (λ (x : List Tagged). made_of z.head x y.padding) packets ∙ ap (made_of z.head z.packets) padding in
    (sym r.shows ∙ ap shown same ∙ q.shows, same)

-- ---- what is refused

form_fits : (form : Form) (fs : Fields) (raw : List Bool) → Matches form fs raw → too_wide fs ≡ None
unfolding too_wide
form_fits done [] raw m = refl
form_fits done (f ∷ fs) raw m = absurd m
form_fits shut [] raw m = refl
form_fits shut (f ∷ fs) raw m = absurd m
form_fits never fs raw m = absurd m
form_fits (valued v next) [] raw m = absurd m
form_fits (valued v next) (f ∷ fs) raw m =
    let own : fits (width_of f.0.0) f.1 ≡ true = ap (λ (x : Var). fits (width_of x) f.1) m.0 ∙ m.1 in
    rw own (form_fits (next f.1) fs raw m.2)

spelt_at : (version i : ℕ) (vs : List PacketValues) (ps : List Tagged) (v : PacketValues) → AreSpelt version vs ps → slice_get vs i ≡ Some v → (p : Packet) × SpeltBy version v.values.items v.rest p
spelt_at version i [] ps v a h = absurd cc
spelt_at version i (w ∷ vs) [] v a h = absurd a
spelt_at version zero (w ∷ vs) (p ∷ ps) v a h = (p.1, subst (λ (x : PacketValues). SpeltBy version x.values.items x.rest p.1) (unsome h) a.0)
spelt_at version (suc i) (w ∷ vs) (p ∷ ps) v a h = spelt_at version i vs ps v a.1 h

-- how many bits a telegram has
long : (b : List Bool) (y : Telegram) → IsRead b y → length b ≡ used y.packets + length (drop (used y.packets) b)
long b y r =
    let n = used y.packets in
    let left = drop n y.padding in
    let fifty = fixed_length header 50 y.head [] header_fixed r.header in
    let rest : drop n b ≡ left = ap (drop n) (sym r.shows) ∙ padding_shown y r.header in
    omega (arith, ap length (sym r.shows), length-append (spelling y.head) (packets_bits y.packets ++ (ones 8 ++ left)), length-append (packets_bits y.packets) (ones 8 ++ left), length-append (ones 8) left, fifty, used_is y.packets, ap length rest)

pub refused_is_none : RefusedIsNone
refused_is_none head values rest (misfit.Header v) b y n h s =
    let r = telegram_read b y s.read in
    let none : too_wide head ≡ None = ap too_wide (sym s.head) ∙ form_fits header y.head [] r.header in
    let both : ◌≡◌ {A = Option Var} None (Some v) = sym none ∙ h in
    absurd cc
refused_is_none head values rest (misfit.Packet i e) b y n h s =
    let f = h.1 in
    let p = spelt_at (value MVersion 0 head) i values y.packets f.values (version_spelt head values rest b y s) f.there in
    f.none p.0 p.1
refused_is_none head values rest (misfit.BadLength m) b y n h s =
    let r = telegram_read b y s.read in
    let t = h.1 in
    let size : length b ≡ m = long b y r ∙ omega (arith, ap length s.padding, same_used (value MVersion 0 head) values y.packets t.0 (version_spelt head values rest b y s) t.1, t.2) in
    h.2 (subst IsLength size r.size)
refused_is_none head values rest misfit.NotABalise b y n h s =
    let r = telegram_read b y s.read in
    let both : true ≡ false = sym r.balise ∙ ap is_balise s.head ∙ h.2 in
    true≢false both
refused_is_none head values rest misfit.OutOfMemory b y n h s = n refl

-- ---- spelt, then explained

unplaced_placed : (at : ℕ) (fs : Fields) → unplaced (placed at fs) ≡ fs
unplaced_placed at [] = refl
unplaced_placed at (f ∷ fs) = ap (λ (x : Fields). f ∷ x) (unplaced_placed (at + width_of f.0.0) fs)

are_explained : (version at : ℕ) (vs : List PacketValues) (ps : List Tagged) (xs : List PacketFields) → AreSpelt version vs ps → ArePlaced at ps xs → AreExplained vs xs
are_explained version at [] [] [] a h = tt
are_explained version at [] [] (x ∷ xs) a h = absurd h
are_explained version at [] (p ∷ ps) xs a h = absurd a
are_explained version at (v ∷ vs) [] xs a h = absurd a
are_explained version at (v ∷ vs) (p ∷ ps) [] a h = absurd h
are_explained version at (v ∷ vs) (p ∷ ps) (x ∷ xs) a h =
    let fields : p.1.fields ≡ unplaced x.fields.items = sym (unplaced_placed at p.1.fields) ∙ ap unplaced (sym h.0.1) in
    (sym a.0.values ∙ ap given fields, sym a.0.rest ∙ sym h.0.2, are_explained version (at + width p.1) vs ps xs a.1 h.1)

pub spelt_is_explained : SpeltIsExplained
spelt_is_explained head values rest b y x s e = (e.header ∙ ap (placed 0) s.head, are_explained (version_of y) 50 values y.packets x.packets.items s.packets e.packets, e.padding ∙ s.padding)
