-- Where a packet and its fields stand among the bits that a telegram shows.
-- From going over some packets.
use Rattle.std.proofs.Common.{◌≡◌, ◌∙◌, ℕ, zero, suc, ◌+◌, ◌<◌, ◌≤◌, Bool, false, cond, List, [], ◌∷◌, length, drop, take, get_or, Some, None, Ok, refl, sym, ap, length-append, arith}
use Rattle.std.proofs.lemmas.List.{length-drop}
use Rattle.std.proofs.lemmas.Option.{slice_get-get_or}
use Rattle.balise_rules.specs.declared.tag.Tag.{Tag}
use Rattle.balise_rules.specs.declared.variable.Var.{Var}
use Rattle.balise_rules.specs.declared.variable.Var.TheVariants.{QDir}
use Rattle.balise_rules.specs.Tagged.{find}
use Rattle.balise_rules.specs.Tags.{Key, same_tag}
use Rattle.balise_rules.specs.Packet.{Packet, bits_of, read_first, width}
use Rattle.balise_rules.specs.Telegram.{Telegram, used, version_of}
use Rattle.balise_rules.proofs.Cases.{unsome}
use Rattle.balise_rules.proofs.Tests.{split_on}
use Rattle.balise_rules.proofs.PacketAgain.{first_again, front_of}
use Rattle.balise_layout.specs.Held.{before, further}
use Rattle.balise_layout.proofs.First.{spells_holds}
use Rattle.balise_layout.proofs.Places.{further_is}
use Rattle.balise_layout.proofs.Values.{dir_stands}
use Rattle.balise_telegram.specs.Packed.{packet_place, place_from}
use Rattle.balise_telegram.specs.Shown.{IsShown}
use Rattle.balise_telegram.proofs.Tagging.{Packets, none_here, StandsAt, found, stands_behind}
use Rattle.balise_telegram.proofs.PackedPlaces.{field_stands, Located}
use Rattle.balise_telegram.proofs.PackedChanges.{further_place}
use Rattle.balise_telegram.proofs.PackedFields.{FieldThere}
use Rattle.balise_telegram.proofs.Walking.{next_below, shown_size}

-- a packet stands at a place of the order and at one of the bits, if the first stands at a place
pub record Placed (tag : Tag) (at place : ℕ) (ps : Packets) : Type 0 where
  pub index : ℕ
  pub item : Tag × Packet
  pub stands : StandsAt tag ps index item
  pub place_is : place + 58 ≡ at + used (take index ps)

further_on : (tag : Tag) (x : Tag × Packet) (xs : Packets) (i : ℕ) (z : Tag × Packet) → same_tag tag x.0 ≡ false → StandsAt tag xs i z → StandsAt tag (x ∷ xs) (suc i) z
further_on tag x xs i z other s = record { within = (let h = s.within in omega (arith, h)); is = s.is; tagged = s.tagged; first = first }
  where
    first : (k : ℕ) → k < suc i → same_tag tag (get_or (x ∷ xs) k z).0 ≡ false
    first zero h = other
    first (suc k) h = s.first k (omega (arith, h))

pub placed : (tag : Tag) (at place : ℕ) (ps : Packets) → packet_place at tag ps ≡ Some place → Placed tag at place ps
placed tag at place [] e = absurd cc
placed tag at place (x ∷ xs) e = split_on (same_tag tag x.0)
    (λ same. record {
      index = 0;
      item = x;
      stands = record { within = omega arith; is = refl; tagged = same; first = λ k l. absurd (omega (arith, l)) };
      place_is = (let here : Some at ≡ Some place = simp same at e in let one = unsome here in omega (arith, one));
    })
    (λ same.
    let l = placed tag (at + width x.1) place xs (simp same at e) in
    let far = l.place_is in
    record { index = suc l.index; item = l.item; stands = further_on tag x xs l.index l.item same l.stands; place_is = omega (arith, far) })

pub place_there : (tag : Tag) (at place : ℕ) (ps : Packets) (i : ℕ) (x : Tag × Packet) → StandsAt tag ps i x → place + 58 ≡ at + used (take i ps) → packet_place at tag ps ≡ Some place
place_there tag at place [] i x s e = absurd (let h = s.within in omega (arith, h))
place_there tag at place (y ∷ ys) zero x s e = ap (λ (c : Bool). cond c (Some at) (packet_place (at + width y.1) tag ys)) s.tagged ∙ ap Some (let k : at ≡ place = omega (arith, e) in k)
place_there tag at place (y ∷ ys) (suc i) x s e =
    ap (λ (c : Bool). cond c (Some at) (packet_place (at + width y.1) tag ys)) (s.first zero (omega arith))
    ∙ place_there tag (at + width y.1) place ys i x (stands_behind tag y ys i x s) (omega (arith, e))

pub no_place_there : (tag : Tag) (at : ℕ) (ps : Packets) → find same_tag tag ps ≡ None → packet_place at tag ps ≡ None
no_place_there tag at [] n = refl
no_place_there tag at (y ∷ ys) n = let h = none_here tag y ys n in let e = h.0 in simp e (no_place_there tag (at + width y.1) ys h.1)

pub there : (b : List Bool) (y : Telegram) (tag : Tag) (place : ℕ) → IsShown b y → packet_place 50 tag y.packets ≡ Some place → Located b y tag y.packets place
there b y tag place s e =
    let ps = y.packets in
    let p = placed tag 50 place ps e in
    let i = p.index in
    let far = p.place_is in
    let below = p.stands.within in
    let z = next_below b y i place s (omega (arith, far)) below in
    let one : p.item ≡ z.packet = unsome (sym (slice_get-get_or ps i p.item below ∙ ap Some (sym p.stands.is)) ∙ z.is) in
    record {
      packet = z.packet.1;
      is = found tag ps i p.item p.stands ∙ ap (λ (q : Tag × Packet). Some q.1) one;
      spelt = z.spelt;
      behind = z.behind;
      shows = z.bits;
    }

pub packet_within : (b : List Bool) (y : Telegram) (tag : Tag) (place : ℕ) → IsShown b y → packet_place 50 tag y.packets ≡ Some place → place + 23 ≤ length b
packet_within b y tag place s e =
    let l = there b y tag place s e in
    omega (arith, ap length l.shows, length-append (bits_of l.packet) l.behind, (front_of (version_of y) l.packet l.spelt).least, length-drop place b)

-- the packet is read there
pub record ReadThere (b : List Bool) (y : Telegram) (tag : Tag) (version place : ℕ) : Type 0 where
  pub packet : Packet
  pub after : List Bool
  pub reads : read_first version (drop place b) ≡ Ok (packet, after)
  pub place_is : (key : Key) → place_from 50 tag key y.packets ≡ further place (before key packet.fields)
  pub small : (v : Var) (k d : ℕ) → before (v, k) packet.fields ≡ Some d → place + d ≤ 830

pub read_there : (b : List Bool) (y : Telegram) (tag : Tag) (version place : ℕ) → IsShown b y → packet_place 50 tag y.packets ≡ Some place → version ≡ version_of y → ReadThere b y tag version place
read_there b y tag version place s e v =
    let l = there b y tag place s e in
    let inside = packet_within b y tag place s e in
    record {
      packet = l.packet;
      after = l.behind;
      reads = ap (λ (k : ℕ). read_first k (drop place b)) v ∙ ap (read_first (version_of y)) l.shows ∙ first_again (version_of y) l.packet l.behind l.spelt;
      place_is = λ key. further_place tag key 50 place y.packets l.packet e l.is;
      small = λ v k d is. (
          let t = field_stands b y tag y.packets place v k (place + d) l (sym (ap (further place) is)) (omega (arith, inside)) in
          let most = shown_size b y s in
          omega (arith, t.within, most.1));
    }

pub field_there : (b : List Bool) (y : Telegram) (tag : Tag) (v : Var) (k place at : ℕ) → IsShown b y → packet_place 50 tag y.packets ≡ Some place → place_from 50 tag (v, k) y.packets ≡ Some at → FieldThere b y tag v k at
field_there b y tag v k place at s e f =
    let l = there b y tag place s e in
    let same : further place (before (v, k) l.packet.fields) ≡ Some at = sym (further_place tag (v, k) 50 place y.packets l.packet e l.is) ∙ f in
    let d = further_is place (before (v, k) l.packet.fields) at same in
    let inside = packet_within b y tag place s e in
    let t = field_stands b y tag y.packets place v k at l (sym same) (omega (arith, inside)) in
    record { packet = l.packet; is = l.is; spelt = l.spelt; from = d.from; stands = d.is; within = t.within; reads = t.is }

-- the field of a packet that was found
pub field_found : (b : List Bool) (y : Telegram) (tag : Tag) (v : Var) (k place at : ℕ) → IsShown b y → Some place ≡ packet_place 50 tag y.packets → ((t : Tag) → packet_place 50 t y.packets ≡ Some place → Some at ≡ place_from 50 t (v, k) y.packets) → FieldThere b y tag v k at
field_found b y tag v k place at s e f = field_there b y tag v k place at s (sym e) (sym (f tag (sym e)))

pub dir_place : (b : List Bool) (y : Telegram) (tag : Tag) (place : ℕ) → IsShown b y → packet_place 50 tag y.packets ≡ Some place → place_from 50 tag (QDir, 0) y.packets ≡ Some (place + 8)
dir_place b y tag place s e =
    let l = there b y tag place s e in
    further_place tag (QDir, 0) 50 place y.packets l.packet e l.is ∙ ap (further place) (dir_stands _ (bits_of l.packet) l.packet (spells_holds (version_of y) (bits_of l.packet) l.packet l.spelt))
