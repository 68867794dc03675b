-- The bits, and what is kept besides them, determine the telegram.
-- From reading the bits, which finds the same packets under other tags and over another ground.
use Rattle.std.proofs.Common.{◌≡◌, ◌∙◌, ℕ, suc, ◌+◌, Bool, true, List, [], ◌∷◌, ◌++◌, map, drop, take, Some, None, refl, sym, ap, subst}
use Rattle.std.specs.Prelude.{All}
use Rattle.std.specs.List.{insert, remove}
use Rattle.std.proofs.lemmas.List.{drop_at, length-replicate, map-append, take-map, drop-map}
use Rattle.std.proofs.lemmas.List.Elements.{All-head, All-tail, All-cons, All-nil}
use Rattle.balise_rules.specs.declared.tag.Tag.{Tag}
use Rattle.balise_rules.specs.declared.tag.Tag.TheVariants.{Base}
use Rattle.balise_rules.specs.declared.variable.Var.{Var}
use Rattle.balise_rules.specs.Bits.{bits, ones, put_at}
use Rattle.balise_rules.specs.Variables.{width_of}
use Rattle.balise_rules.specs.Forms.{spelling}
use Rattle.balise_rules.specs.Packet.{Packet, bits_of, width, IsSpelt}
use Rattle.balise_rules.specs.Telegram.{Telegram, version_of, used, packets_bits, TaggedFrom, IsRead, read_telegram}
use Rattle.balise_rules.proofs.TaggedFrom.{tagged_distinct}
use Rattle.balise_rules.proofs.TelegramAgain.{padding_shown, telegram_again}
use Rattle.balise_telegram.specs.Packed.{telegram_of}
use Rattle.balise_telegram.specs.declared.telegram.contents.Contents.{Contents}
use Rattle.balise_telegram.specs.Shown.{kept_of, packed_of, tagged_by, tags_of, seen_as, seen, Kept, IsShown, StandsFor}
use Rattle.balise_telegram.proofs.PackedPlaces.{padding_long}
use Rattle.balise_telegram.proofs.Tagging.{Packets}

-- packets tagged by their places, from n on
abbrev pub based : ℕ → Packets → Packets
based n [] = []
based n (p ∷ ps) = (Base n, p.1) ∷ based (suc n) ps

based-tagged : (n : ℕ) (ps : Packets) → TaggedFrom n (based n ps)
based-tagged n [] = tt
based-tagged n (p ∷ ps) = (refl, based-tagged (suc n) ps)

used-based : (n : ℕ) (ps : Packets) → used (based n ps) ≡ used ps
used-based n [] = refl
used-based n (p ∷ ps) = ap (λ (k : ℕ). width p.1 + k) (used-based (suc n) ps)

bits-based : (n : ℕ) (ps : Packets) → packets_bits (based n ps) ≡ packets_bits ps
bits-based n [] = refl
bits-based n (p ∷ ps) = ap (λ (l : List Bool). bits_of p.1 ++ l) (bits-based (suc n) ps)

all-based : (P : Packet → Type 0) (n : ℕ) (ps : Packets) → All (λ p. P p.1) ps → All (λ p. P p.1) (based n ps)
all-based P n [] a = All-nil (λ (q : Tag × Packet). P q.1)
all-based P n (p ∷ ps) a =
    All-cons (λ (q : Tag × Packet). P q.1) (Base n, p.1) (based (suc n) ps) (All-head (λ (q : Tag × Packet). P q.1) p ps a)
    (all-based P (suc n) ps (All-tail (λ (q : Tag × Packet). P q.1) p ps a))

tagged_by-based : (n : ℕ) (ps : Packets) → tagged_by (tags_of ps) (based n ps) ≡ ps
tagged_by-based n [] = refl
tagged_by-based n (p ∷ ps) = ap (λ (l : Packets). p ∷ l) (tagged_by-based (suc n) ps)

-- the telegram as it would be read anew from the bits
abbrev pub read_of : List Bool → Telegram → Telegram
read_of b y = record { head = y.head; packets = based 0 y.packets; padding = ones (used y.packets) ++ drop (used y.packets) b }

pub shown_read : (b : List Bool) (y : Telegram) → IsShown b y → IsRead b (read_of b y)
shown_read b y s =
    let u = used y.packets in
    let anew = based 0 y.packets in
    let same : used anew ≡ u = used-based 0 y.packets in
    let left : drop u (ones u ++ drop u b) ≡ drop u y.padding =
    drop_at (ones u) (drop u b) u (length-replicate u true) ∙ ap (drop u) (sym s.shows) ∙ padding_shown y s.header in
    record {
      size = s.size;
      header = s.header;
      numbered = s.numbered;
      balise = s.balise;
      tags = based-tagged 0 y.packets;
      packets = all-based (IsSpelt (version_of y)) 0 y.packets s.packets;
      shows = ap (λ (l : List Bool). spelling y.head ++ (l ++ (ones 8 ++ drop (used anew) (ones u ++ drop u b)))) (bits-based 0 y.packets)
          ∙ ap (λ (k : ℕ). spelling y.head ++ (packets_bits y.packets ++ (ones 8 ++ drop k (ones u ++ drop u b)))) same
          ∙ ap (λ (l : List Bool). spelling y.head ++ (packets_bits y.packets ++ (ones 8 ++ l))) left
          ∙ s.shows;
      padding = ap (λ (k : ℕ). ones k ++ drop k b) (sym same);
    }

pub read_shown : (b : List Bool) (y : Telegram) → IsRead b y → IsShown b y
read_shown b y r = record {
  size = r.size;
  header = r.header;
  numbered = r.numbered;
  balise = r.balise;
  tags = tagged_distinct 0 y.packets r.tags;
  packets = r.packets;
  shows = r.shows;
  ground = sym (padding_long b y r).0;
}

-- what is shown after packet 255 is the ground's
pub left_shown : (b : List Bool) (y : Telegram) → IsShown b y → drop (used y.packets) b ≡ drop (used y.packets) y.padding
left_shown b y s = ap (drop (used y.packets)) (sym s.shows) ∙ padding_shown y s.header

-- what was read, and nothing else kept
pub read_one : (b : List Bool) (y : Telegram) → IsRead b y → StandsFor b None y
read_one b y r = record { shown = read_shown b y r; kept = (r.tags, r.padding ∙ ap (λ (l : List Bool). ones (used y.packets) ++ l) (left_shown b y (read_shown b y r))) }

one_read : (b : List Bool) (y : Telegram) → StandsFor b None y → IsRead b y
one_read b y o = record {
  size = o.shown.size;
  header = o.shown.header;
  numbered = o.shown.numbered;
  balise = o.shown.balise;
  tags = o.kept.0;
  packets = o.shown.packets;
  shows = o.shown.shows;
  padding = o.kept.1 ∙ ap (λ (l : List Bool). ones (used y.packets) ++ l) (sym (left_shown b y o.shown));
}

pub seen_is : (b : List Bool) (k : Kept) (y : Telegram) → StandsFor b k y → seen b k ≡ y
seen_is b None y o = ap telegram_of (telegram_again b y (one_read b y o))
seen_is b (Some e) y o =
    let anew : telegram_of (read_telegram b) ≡ read_of b y = ap telegram_of (telegram_again b (read_of b y) (shown_read b y o.shown)) in
    ap (seen_as e.tags.items e.ground) anew
    ∙ ap (λ (ts : List Tag). seen_as ts e.ground (read_of b y)) o.kept.0
    ∙ ap (λ (ps : Packets). record { head = y.head; packets = ps; padding = e.ground }) (tagged_by-based 0 y.packets)
    ∙ ap (λ (g : List Bool). record { head = y.head; packets = y.packets; padding = g }) o.kept.1

-- what is held then, and what it is seen as
pub is_again : (b : List Bool) (k : Kept) (y : Telegram) → StandsFor b k y → StandsFor b k (seen b k) × (seen b k ≡ y)
is_again b k y o = let e = seen_is b k y o in (subst (λ (z : Telegram). StandsFor b k z) (sym e) o, e)

-- what is held stands for the telegram as which it is seen
pub stands_as : (x : Contents) (y : Telegram) → StandsFor (packed_of x) (kept_of x) (seen (packed_of x) (kept_of x)) → seen (packed_of x) (kept_of x) ≡ y → StandsFor (packed_of x) (kept_of x) y
stands_as x y o e = subst (λ (z : Telegram). StandsFor (packed_of x) (kept_of x) z) e o

abbrev pub IsAgain : Contents → Telegram → Type 0
IsAgain x y = StandsFor (packed_of x) (kept_of x) (seen (packed_of x) (kept_of x)) × (seen (packed_of x) (kept_of x) ≡ y)

-- what is held is a telegram again once a value was put into its bits
pub put_again : (new old : Contents) (y : Telegram) (at w n : ℕ) (v : Var) → packed_of new ≡ put_at at (bits w n) (packed_of old) → w ≡ width_of v → kept_of new ≡ kept_of old → StandsFor (put_at at (bits (width_of v) n) (packed_of old)) (kept_of old) y → IsAgain new y
put_again new old y at w n v put wide kept o =
    let packed : put_at at (bits (width_of v) n) (packed_of old) ≡ packed_of new = ap (λ (k : ℕ). put_at at (bits k n) (packed_of old)) (sym wide) ∙ sym put in
    is_again (packed_of new) (kept_of new) y (subst (λ (k : Kept). StandsFor (packed_of new) k y) (sym kept) (subst (λ (l : List Bool). StandsFor l (kept_of old) y) packed o))

-- ---- the tags

pub tags-remove : (ps : Packets) (i : ℕ) → remove (tags_of ps) i ≡ tags_of (remove ps i)
tags-remove ps i =
    let f = λ (p : Tag × Packet). p.0 in
    ap (λ (l : List Tag). l ++ drop (suc i) (map f ps)) (take-map f i ps)
    ∙ ap (λ (l : List Tag). map f (take i ps) ++ l) (drop-map f (suc i) ps)
    ∙ sym (map-append f (take i ps) (drop (suc i) ps))

pub tags-insert : (ps : Packets) (i : ℕ) (z : Tag × Packet) → insert (tags_of ps) i z.0 ≡ tags_of (insert ps i z)
tags-insert ps i z =
    let f = λ (p : Tag × Packet). p.0 in
    ap (λ (l : List Tag). l ++ (z.0 ∷ drop i (map f ps))) (take-map f i ps)
    ∙ ap (λ (l : List Tag). map f (take i ps) ++ (z.0 ∷ l)) (drop-map f i ps)
    ∙ sym (map-append f (take i ps) (z ∷ drop i ps))
