-- Another value put where a field of a packet stands, in a telegram that is held as its bits.
-- From what is put over the spelling of one packet, with all that stands after it as it is.
use Rattle.std.proofs.Common.{◌≡◌, ◌∙◌, ℕ, ◌+◌, Bool, true, false, cond, List, [], ◌∷◌, ◌++◌, Some, None, refl, sym, ap, append_assoc, arith}
use Rattle.std.proofs.lemmas.Bool.{cond_both}
use Rattle.std.specs.Prelude.{All}
use Rattle.std.proofs.lemmas.List.Elements.{All-head, All-tail}
use Rattle.balise_rules.specs.declared.tag.Tag.{Tag}
use Rattle.balise_rules.specs.declared.variable.Var.{Var}
use Rattle.balise_rules.specs.Variables.{width_of}
use Rattle.balise_rules.specs.Bits.{bits, put_at}
use Rattle.balise_rules.specs.Forms.{spelling}
use Rattle.balise_rules.specs.Tagged.{find, each, Distinct}
use Rattle.balise_rules.specs.Tags.{Key, same_tag}
use Rattle.balise_rules.specs.Packet.{Packet, bits_of, width, IsSpelt}
use Rattle.balise_rules.specs.Telegram.{Telegram, packets_bits}
use Rattle.balise_rules.proofs.Cases.{unsome}
use Rattle.balise_rules.proofs.Each.{each-absent}
use Rattle.balise_rules.proofs.Found.{fields_distinct}
use Rattle.balise_rules.proofs.Tests.{split_on, tag_test}
use Rattle.balise_layout.specs.Held.{before, further, with_field as with_packet_field}
use Rattle.balise_layout.proofs.Places.{further_is, put_further, put_spelling}
use Rattle.balise_telegram.specs.Packed.{packet_place, place_from}
use Rattle.balise_telegram.specs.Setting.{with_changed}
use Rattle.balise_telegram.proofs.Settings.{telegram}
use Rattle.balise_telegram.proofs.Tagging.{Packets, with_packet}

-- where a field of the packet that was found stands
pub further_place : (tag : Tag) (key : Key) (at place : ℕ) (ps : Packets) (p : Packet) → packet_place at tag ps ≡ Some place → find same_tag tag ps ≡ Some p → place_from at tag key ps ≡ further place (before key p.fields)
further_place tag key at place [] p e f = absurd cc
further_place tag key at place (x ∷ xs) p e f = split_on (same_tag tag x.0)
    (λ d.
    let here : Some at ≡ Some place = simp d at e in
    let is : Some x.1 ≡ Some p = simp d at f in
    simp d (ap (λ (q : Packet). further at (before key q.fields)) (unsome is) ∙ ap (λ (k : ℕ). further k (before key p.fields)) (unsome here)))
    (λ d. simp d (further_place tag key (at + width x.1) place xs p (simp d at e) (simp d at f)))

-- the packets with another value in one of them
abbrev pub set_in : Tag → Var → ℕ → ℕ → Packets → Packets
set_in tag v k n ps = each (with_packet tag (with_packet_field v k n)) ps

-- a value put among the bits of packets, where a field of one of them stands
pub record Puts (tag : Tag) (v : Var) (k n at place : ℕ) (ps : Packets) (raw : List Bool) : Type 0 where
  pub from : ℕ
  pub far : place ≡ at + from
  pub put : put_at from (bits (width_of v) n) (packets_bits ps ++ raw) ≡ packets_bits (set_in tag v k n ps) ++ raw

pub put_packets : (version : ℕ) (tag : Tag) (v : Var) (k n at place : ℕ) (ps : Packets) (raw : List Bool) → Distinct same_tag ps → All (λ p. IsSpelt version p.1) ps → place_from at tag (v, k) ps ≡ Some place → Puts tag v k n at place ps raw
put_packets version tag v k n at place [] raw dist a e = absurd cc
put_packets version tag v k n at place (x ∷ xs) raw dist a e = by (same_tag tag x.0) refl e (put_packets version tag v k n (at + width x.1) place xs raw dist.1 (All-tail (λ (q : Tag × Packet). IsSpelt version q.1) x xs a))
  where
    new : List Bool
    new = bits (width_of v) n

    spelt : IsSpelt version x.1
    spelt = All-head (λ (q : Tag × Packet). IsSpelt version q.1) x xs a

    by : (c : Bool) → same_tag tag x.0 ≡ c → cond c (further at (before (v, k) x.1.fields)) (place_from (at + width x.1) tag (v, k) xs) ≡ Some place → (place_from (at + width x.1) tag (v, k) xs ≡ Some place → Puts tag v k n (at + width x.1) place xs raw) → Puts tag v k n at place (x ∷ xs) raw
    by true same h later =
        let f = further_is at (before (v, k) x.1.fields) place h in
        let y = with_packet_field v k n x.1 in
        let behind = packets_bits xs ++ raw in
        let gone : find same_tag tag xs ≡ None = ap (λ (t : Tag). find same_tag t xs) (tag_test.one tag x.0 same) ∙ dist.0 in
        let others : set_in tag v k n xs ≡ xs = each-absent same_tag tag (with_packet_field v k n) xs gone in
        let one : with_packet tag (with_packet_field v k n) x.0 x.1 ≡ y = ap (λ (c : Bool). cond c y x.1) same in
        let whole : (bits_of x.1 ++ packets_bits xs) ++ raw ≡ spelling x.1.fields ++ (x.1.rest ++ behind) = append_assoc (bits_of x.1) (packets_bits xs) raw ∙ append_assoc (spelling x.1.fields) x.1.rest behind in
        let again : spelling y.fields ++ (x.1.rest ++ behind) ≡ (bits_of y ++ packets_bits xs) ++ raw = sym (append_assoc (spelling y.fields) x.1.rest behind) ∙ sym (append_assoc (bits_of y) (packets_bits xs) raw) in
        record {
          from = f.from;
          far = f.sum;
          put = ap (put_at f.from new) whole ∙ put_spelling v k n x.1.fields (x.1.rest ++ behind) f.from (fields_distinct version x.1 spelt) f.is ∙ again
              ∙ ap (λ (q : Packet). (bits_of q ++ packets_bits xs) ++ raw) (sym one)
              ∙ ap (λ (l : Packets). (bits_of (with_packet tag (with_packet_field v k n) x.0 x.1) ++ packets_bits l) ++ raw) (sym others);
        }
    by false same h later =
        let l = later h in
        let behind = packets_bits xs ++ raw in
        let one : with_packet tag (with_packet_field v k n) x.0 x.1 ≡ x.1 = ap (λ (c : Bool). cond c (with_packet_field v k n x.1) x.1) same in
        record {
          from = width x.1 + l.from;
          far = omega (arith, l.far);
          put = ap (put_at (width x.1 + l.from) new) (append_assoc (bits_of x.1) (packets_bits xs) raw) ∙ put_further (bits_of x.1) behind new l.from
              ∙ ap (λ (b : List Bool). bits_of x.1 ++ b) l.put ∙ sym (append_assoc (bits_of x.1) (packets_bits (set_in tag v k n xs)) raw)
              ∙ ap (λ (q : Packet). (bits_of q ++ packets_bits (set_in tag v k n xs)) ++ raw) (sym one);
        }

-- two changes that make the same of the packet that is found
each_alike : (tag : Tag) (f g : Packet → Packet) (ps : Packets) → Distinct same_tag ps → ((p : Packet) → find same_tag tag ps ≡ Some p → f p ≡ g p) → each (with_packet tag f) ps ≡ each (with_packet tag g) ps
each_alike tag f g [] dist h = refl
each_alike tag f g (x ∷ xs) dist h = split_on (same_tag tag x.0)
    (λ same.
    let gone : find same_tag tag xs ≡ None = ap (λ (t : Tag). find same_tag t xs) (tag_test.one tag x.0 same) ∙ dist.0 in
    let here : f x.1 ≡ g x.1 = h x.1 (simp same) in
    simp (same, here) (ap (λ (l : Packets). (x.0, g x.1) ∷ l) (each-absent same_tag tag f xs gone ∙ sym (each-absent same_tag tag g xs gone))))
    (λ same. simp same (ap (λ (l : Packets). x ∷ l) (each_alike tag f g xs dist.1 (λ p e. h p (simp same e)))))

pub changed_alike : (tag : Tag) (f g : Packet → Packet) (y : Telegram) (p : Packet) → Distinct same_tag y.packets → find same_tag tag y.packets ≡ Some p → f p ≡ g p → with_changed tag f y ≡ with_changed tag g y
changed_alike tag f g y p dist is same =
    ap (λ (l : Packets). telegram y.head l y.padding) (each_alike tag f g y.packets dist (λ q e. let one : q ≡ p = unsome (sym e ∙ is) in ap f one ∙ same ∙ ap g (sym one)))

each_itself : (tag : Tag) (ps : Packets) → each (with_packet tag (λ x. x)) ps ≡ ps
each_itself tag [] = refl
each_itself tag (x ∷ xs) =
    let one : with_packet tag (λ x. x) x.0 x.1 ≡ x.1 = cond_both (same_tag tag x.0) x.1 x.1 (λ p. p ≡ x.1) (λ d. refl) (λ d. refl) in
    ap (λ (p : Packet). (x.0, p) ∷ each (with_packet tag (λ x. x)) xs) one ∙ ap (λ (l : Packets). x ∷ l) (each_itself tag xs)

-- a change that leaves the packet as it is
pub kept_as_is : (tag : Tag) (f : Packet → Packet) (y : Telegram) (p : Packet) → Distinct same_tag y.packets → find same_tag tag y.packets ≡ Some p → f p ≡ p → y ≡ with_changed tag f y
kept_as_is tag f y p dist is same =
    sym (changed_alike tag f (λ x. x) y p dist is same ∙ ap (λ (l : Packets). telegram y.head l y.padding) (each_itself tag y.packets))
