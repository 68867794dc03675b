-- Another value put where a field stands, in a packet or in the header.
-- From what is put over the spelling of one packet, or of the header, with all that stands after it as it is.
use Rattle.std.proofs.Common.{◌≡◌, ◌∙◌, ℕ, ◌+◌, ◌^◌, ◌<◌, Bool, false, List, [], ◌∷◌, ◌++◌, length, drop, Some, None, refl, sym, ap, subst, length-append, arith}
use Rattle.std.specs.Prelude.{All}
use Rattle.balise_rules.specs.declared.tag.Tag.{Tag}
use Rattle.balise_rules.specs.declared.variable.Var.{Var}
use Rattle.balise_rules.specs.Variables.{width_of, steers}
use Rattle.balise_rules.specs.Bits.{bits, ones, put_at}
use Rattle.balise_rules.specs.Forms.{spelling}
use Rattle.balise_rules.specs.Tagged.{each}
use Rattle.balise_rules.specs.Tags.{same_tag}
use Rattle.balise_rules.specs.Packet.{Packet, width, IsSpelt}
use Rattle.balise_rules.specs.Telegram.{Telegram, header, packets_bits, shown, used, version_of, IsLength}
use Rattle.balise_rules.specs.Back.{with_packets}
use Rattle.balise_rules.proofs.AllItems.{all-each}
use Rattle.balise_rules.proofs.Distincts.{distinct-each}
use Rattle.balise_rules.proofs.TaggedFrom.{tagged_each}
use Rattle.balise_rules.proofs.TelegramAgain.{fixed_length, header_again}
use Rattle.balise_rules.proofs.TelegramRead.{header_fixed}
use Rattle.balise_rules.proofs.Tests.{split_on, tag_test}
use Rattle.balise_rules.proofs.Used.{used-each}
use Rattle.balise_layout.specs.Held.{with_field as with_packet_field}
use Rattle.balise_layout.proofs.Places.{put_further}
use Rattle.balise_layout.proofs.Setting.{IsSpelt-with_field}
use Rattle.balise_telegram.specs.Packed.{place_from}
use Rattle.balise_telegram.specs.HeaderFields.{head_place}
use Rattle.balise_telegram.specs.Setting.{with_field, with_head}
use Rattle.balise_telegram.specs.Shown.{tags_of, Kept, IsKept, StandsFor}
use Rattle.balise_telegram.proofs.HeaderForms.{IsAside, header_kept, version_kept, balise_kept}
use Rattle.balise_telegram.proofs.HeaderPlaces.{head_replaced}
use Rattle.balise_telegram.proofs.PackedChanges.{put_packets}
use Rattle.balise_telegram.proofs.Settings.{as_wide}
use Rattle.balise_telegram.proofs.Tagging.{Packets, with_packet}
use Rattle.balise_telegram.proofs.Seen.{read_of, shown_read}
use Rattle.balise_telegram.proofs.Walking.{tail_of}
use Rattle.balise_telegram.proofs.Spliced.{held, with_shown}

tags-each : (g : Tag → Packet → Packet) (ps : Packets) → tags_of (each g ps) ≡ tags_of ps
tags-each g [] = refl
tags-each g (p ∷ ps) = ap (λ (l : List Tag). p.0 ∷ l) (tags-each g ps)

-- what is kept besides the bits stays where each packet keeps its width
pub kept_each : (k : Kept) (y : Telegram) (g : Tag → Packet → Packet) → ((q : Tag) (x : Packet) → width (g q x) ≡ width x) → IsKept k y → IsKept k (with_packets y (each g y.packets))
kept_each None y g w o = (tagged_each 0 g y.packets o.0, subst (λ (u : ℕ). y.padding ≡ ones u ++ drop u y.padding) (sym (used-each g w y.packets)) o.1)
kept_each (Some e) y g w o = (o.0 ∙ sym (tags-each g y.packets), o.1, o.2 ∙ sym (used-each g w y.packets))

pub field_set : (b : List Bool) (k1 : Kept) (y : Telegram) (tag : Tag) (v : Var) (k n place : ℕ) → StandsFor b k1 y → place_from 50 tag (v, k) y.packets ≡ Some place → steers v ≡ false → n < 2 ^ width_of v → StandsFor (put_at place (bits (width_of v) n) b) k1 (with_field tag v k n y)
field_set b k1 y tag v k n place o e free fit =
    let s = o.shown in
    let new = bits (width_of v) n in
    let g = with_packet tag (with_packet_field v k n) in
    let raw = tail_of y in
    let ps = each g y.packets in
    let wide : used ps ≡ used y.packets = used-each g (as_wide tag v k n) y.packets in
    let fifty = fixed_length header 50 y.head [] header_fixed s.header in
    let p = put_packets (version_of y) tag v k n 50 place y.packets raw s.tags s.packets e in
    let far : place ≡ length (spelling y.head) + p.from = p.far ∙ ap (λ (j : ℕ). j + p.from) (sym fifty) in
    let shows : put_at place new b ≡ shown (with_packets y ps) =
    ap (put_at place new) (sym s.shows) ∙ ap (λ (j : ℕ). put_at j new (shown y)) far ∙ put_further (spelling y.head) (packets_bits y.packets ++ raw) new p.from ∙ ap (λ (l : List Bool). spelling y.head ++ l) p.put
    ∙ ap (λ (j : ℕ). spelling y.head ++ (packets_bits ps ++ (ones 8 ++ drop j y.padding))) (sym wide) in
    let h = held b y s in
    let fits = h.fits in
    record {
      shown = with_shown b (put_at place new b) y ps s shows
          (record { tags = distinct-each tag_test g y.packets s.tags; size = h.size; fits = omega (arith, fits, wide) })
          (all-each (IsSpelt (version_of y)) (IsSpelt (version_of y)) g (λ q x w. split_on (same_tag tag q) (λ d. simp d (IsSpelt-with_field (version_of y) x v k n free fit w)) (λ d. simp d w)) y.packets s.packets);
      kept = kept_each k1 y g (as_wide tag v k n) o.kept;
    }

-- ---- the header

kept_head : (k : Kept) (y : Telegram) (v : Var) (n : ℕ) → IsKept k y → IsKept k (with_head v n y)
kept_head None y v n o = o
kept_head (Some e) y v n o = o

pub head_set : (b : List Bool) (k1 : Kept) (y : Telegram) (v : Var) (n at : ℕ) → StandsFor b k1 y → head_place v ≡ Some at → IsAside v → n < 2 ^ width_of v → StandsFor (put_at at (bits (width_of v) n) b) k1 (with_head v n y)
head_set b k1 y v n at o place aside fit =
    let s = o.shown in
    let z = with_head v n y in
    let kept = header_kept v 0 n y.head fit s.header s.numbered in
    let rest = packets_bits y.packets ++ tail_of y in
    let behind : drop 50 b ≡ rest = (header_again y b rest s.header s.numbered (sym s.shows)).1 in
    let put : put_at at (bits (width_of v) n) b ≡ shown z =
    head_replaced b (read_of b y) v n at (shown_read b y s) place ∙ ap (λ (l : List Bool). spelling z.head ++ l) behind in
    let fifty = fixed_length header 50 y.head [] header_fixed s.header in
    let fifty' = fixed_length header 50 z.head [] header_fixed kept.0 in
    let long : length (put_at at (bits (width_of v) n) b) ≡ length b =
    ap length put ∙ (let one = length-append (spelling z.head) rest in let two = length-append (spelling y.head) rest in let all = ap length (sym s.shows) in omega (arith, one, two, all, fifty, fifty')) in
    record {
      shown = record {
        size = subst IsLength (sym long) s.size;
        header = kept.0;
        numbered = kept.1;
        balise = balise_kept v 0 n y.head aside ∙ s.balise;
        tags = s.tags;
        packets = subst (λ (w : ℕ). All (λ p. IsSpelt w p.1) y.packets) (sym (version_kept v 0 n y.head aside)) s.packets;
        shows = sym put;
        ground = s.ground ∙ sym long;
      };
      kept = kept_head k1 y v n o.kept;
    }
