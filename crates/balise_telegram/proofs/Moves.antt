-- A packet moved: taken out and put in again at another place.
use Rattle.std.proofs.Common.{◌≡◌, ◌∙◌, ◌⊎◌, inl, inr, ℕ, suc, ◌+◌, ◌-◌, ◌<◌, ◌≤◌, cond, ltb, List, Bool, length, take, get_or, None, Result, Ok, Err, IsOk, OnOk, refl, sym, ap, subst, arith}
use Rattle.std.specs.List.{insert, remove}
use Rattle.std.proofs.lemmas.Bool.{le-ltb, lt-ltb, ltb-false, ltb-true, true≢false}
use Rattle.std.proofs.lemmas.List.Edits.{length-remove}
use Rattle.balise_rules.specs.declared.tag.Tag.{Tag}
use Rattle.balise_rules.specs.Packet.{IsSpelt, Packet, width}
use Rattle.balise_rules.specs.Tagged.{find}
use Rattle.balise_rules.specs.Tags.{same_tag}
use Rattle.balise_rules.specs.Telegram.{Telegram, room, shown, used, version_of}
use Rattle.balise_rules.specs.Back.{with_packets}
use Rattle.balise_rules.proofs.Lists.{find-without_same}
use Rattle.balise_rules.proofs.Used.{used-without_there}
use Rattle.balise_telegram.specs.declared.fault.TelegramFault.{TelegramFault}
use Rattle.balise_telegram.specs.declared.telegram.edited.Edited.{Edited}
use Rattle.balise_telegram.specs.declared.telegram.walking.Place.{Place}
use Rattle.balise_telegram.specs.Moving.{moved_to}
use Rattle.balise_telegram.specs.Shown.{Gap, Goes, IsOver, IsPlace, IsShown}
use Rattle.balise_telegram.proofs.Tagging.{Packets, found}
use Rattle.balise_telegram.proofs.Placing.{removed}
use Rattle.balise_rules.proofs.Tests.{split_on}
use Rattle.balise_telegram.proofs.Shifting.{own_tag, Once}
use Rattle.balise_telegram.proofs.Using.{least_used, used-above, used-below}
use Rattle.balise_telegram.proofs.Walking.{used_within}
use Rattle.balise_telegram.proofs.Spliced.{put_shown, taken_shown}
use Rattle.balise_telegram.proofs.InAndOut.{Standing, gap_of, standing}

-- the packet that goes stands between its places
pub goes_from : (b : List Bool) (y : Telegram) (tag : Tag) (x : Packet) (p q to : Place) (u : ℕ) → IsShown b y → Goes y tag x p q to u → Standing y tag p q u
goes_from b y tag x p q to u s g = standing b y tag p q u s g.found g.begins g.next g.ends g.all

-- a packet out of the list, and the place where it is put in again
pub record Apart (b : List Bool) (y : Telegram) (tag : Tag) (from m to w u : ℕ) : Type 0 where
  pub shown : IsShown b (with_packets y (remove y.packets from))
  pub absent : find same_tag tag (remove y.packets from) ≡ None
  pub gap : Gap (with_packets y (remove y.packets from)) m to w u
  pub room : used (remove y.packets from) + w ≤ length b

once_below : (from to m : ℕ) (ps : Packets) → from < length ps → to ≤ length ps → Once from to m → m ≤ length (remove ps from)
once_below from to m ps h k (inl o) = let size = length-remove ps from h in let a = o.0 in let e = o.1 in omega (arith, size, a, e, k)
once_below from to m ps h k (inr o) = let size = length-remove ps from h in let a = o.0 in let e = o.1 in omega (arith, size, a, e, h)

-- where the place is once the packet of w bits is out: before it as it was, after it w bits nearer
abbrev pub Nearer : ℕ → Place → Place → ℕ → Type 0
Nearer from to now w = ((from < to.index) × (to.index ≡ suc now.index) × (now.at ≡ to.at - w)) ⊎ ((to.index ≤ from) × (now ≡ to))

pub nearer_below : (from w : ℕ) (to now : Place) → from < to.index → now ≡ record { index = to.index - 1; at = to.at - w } → Nearer from to now w
nearer_below from w to now h e =
    let index : now.index ≡ to.index - 1 = ap (λ (p : Place). p.index) e in
    inl (h, omega (arith, h, index), ap (λ (p : Place). p.at) e)

pub once : (from w : ℕ) (to now : Place) → Nearer from to now w → Once from to.index now.index
once from w to now (inl n) = inl (n.0, n.1)
once from w to now (inr n) = inr (n.0, ap (λ (p : Place). p.index) (sym n.1))

far : (ps : Packets) (from w : ℕ) (to now : Place) (x : Tag × Packet) → from < length ps → (x ≡ get_or ps from x) → to.at + 8 ≡ used (take to.index ps) → w ≡ width x.1 → Nearer from to now w → now.at + 8 ≡ used (take now.index (remove ps from))
far ps from w to now x h is at wide (inl n) =
    let less = used-above ps from now.index x h (let a = n.0 in let e = n.1 in omega (arith, a, e)) is in
    let same = ap (λ (k : ℕ). used (take k ps)) n.1 in
    let least = least_used (take now.index (remove ps from)) in
    let e = n.2 in
    omega (arith, less, same, least, at, wide, e)
far ps from w to now x h is at wide (inr n) =
    let same = used-below ps from to.index h n.0 in
    subst (λ (p : Place). p.at + 8 ≡ used (take p.index (remove ps from))) (sym n.1) (at ∙ sym same)

-- before a place after the packet stand at least the packet's bits
pub wide_below : (y : Telegram) (tag : Tag) (p q to : Place) (u : ℕ) (t : Standing y tag p q u) → p.index < to.index → IsPlace y to → q.at - p.at ≤ to.at
wide_below y tag p q to u t h is =
    let one : to.index ≡ suc (to.index - 1) = omega (arith, h) in
    let less = used-above y.packets p.index (to.index - 1) t.item t.stands.within (omega (arith, h)) t.stands.is in
    let same = ap (λ (k : ℕ). used (take k y.packets)) one in
    let least = least_used (take (to.index - 1) (remove y.packets p.index)) in
    let at = is.1 in
    let wide = t.wide in
    omega (arith, less, same, least, at, wide)

pub apart : (b b2 : List Bool) (y : Telegram) (tag : Tag) (p q to now : Place) (u : ℕ) → IsShown b y → (t : Standing y tag p q u) → b2 ≡ shown (with_packets y (remove y.packets p.index)) → IsPlace y to → Nearer p.index to now (q.at - p.at) → Apart b2 y tag p.index now.index now.at (width t.item.1) (u - (q.at - p.at))
apart b b2 y tag p q to now u s t e is near =
    let ps = y.packets in
    let from = p.index in
    let y2 = with_packets y (remove ps from) in
    let x = t.item in
    let out = removed tag ps from x s.tags t.stands in
    let s2 : IsShown b2 y2 = taken_shown b b2 y tag from x s t.stands e in
    let below = t.stands.within in
    let less : used (remove ps from) + width x.1 ≡ used ps =
    ap (λ (l : Packets). used l + width x.1) (sym out) ∙ used-without_there tag x.1 ps s.tags (found tag ps from x t.stands) in
    let wide = t.wide in
    let all = t.spot.all in
    let one : u - (q.at - p.at) ≡ used (remove ps from) = omega (arith, less, wide, all) in
    let inside = used_within b y s in
    let ground = s.ground in
    let fits : width x.1 ≤ room y2 = omega (arith, less, inside, ground) in
    let least = once_below from to.index now.index ps below is.0 (once from (q.at - p.at) to now near) in
    let there = far ps from (q.at - p.at) to now x below t.stands.is is.1 (omega (arith, wide)) near in
    let g = gap_of b2 y2 now.index now.at (u - (q.at - p.at)) (width x.1) s2 least there one fits in
    record {
      shown = s2;
      absent = ap (find same_tag tag) (sym out) ∙ find-without_same same_tag tag ps;
      gap = g.0;
      room = g.1;
    }

-- the place is that of the order once the packet is out
pub once_at : (i k : ℕ) → Once i k (cond (ltb i k) (k - 1) k)
once_at i k = split_on (ltb i k)
    (λ e. let h = ltb-true i k e in subst (λ (b : Bool). Once i k (cond b (k - 1) k)) (sym e) (inl (h, omega (arith, h))))
    (λ e. subst (λ (b : Bool). Once i k (cond b (k - 1) k)) (sym e) (inr (ltb-false i k e, refl)))

-- and it is put in as it stood
pub goes_item : (b : List Bool) (y : Telegram) (tag : Tag) (x : Packet) (p q to : Place) (u : ℕ) (s : IsShown b y) (g : Goes y tag x p q to u) → (tag, x) ≡ (goes_from b y tag x p q to u s g).item
goes_item b y tag x p q to u s g =
    let t = goes_from b y tag x p q to u s g in
    ap (λ (z : Packet). (tag, z)) (g.packet t.item t.there) ∙ ap (λ (g : Tag). (g, t.item.1)) (own_tag tag y.packets p.index t.item t.stands)

from_ok : {P : Type 0} (r : Result Unit TelegramFault) → IsOk r → OnOk r P → P
from_ok (Ok u) h p = p
from_ok (Err e) h p = absurd (true≢false (sym h))

once_out : (from w : ℕ) (to now : Place) → Nearer from to now w → cond (ltb from to.index) (to.index - 1) to.index ≡ now.index
once_out from w to now (inl n) =
    let one = n.1 in
    let less : to.index - 1 ≡ now.index = omega (arith, one) in
    ap (λ (b : Bool). cond b (to.index - 1) to.index) (lt-ltb from to.index n.0) ∙ less
once_out from w to now (inr n) =
    ap (λ (b : Bool). cond b (to.index - 1) to.index) (le-ltb from to.index n.0) ∙ ap (λ (p : Place). p.index) (sym n.1)

-- what the bits show, and what is kept, once the packet is put in again
pub moved : (b b2 b3 : List Bool) (e2 e3 : Edited) (y : Telegram) (tag : Tag) (x : Packet) (p q to now : Place) (u : ℕ) (r : Result Unit TelegramFault) → IsShown b y → Goes y tag x p q to u → b2 ≡ shown (with_packets y (remove y.packets p.index)) → IsOver e2 (with_packets y (remove y.packets p.index)) → Nearer p.index to now (q.at - p.at) →
    OnOk r ((z : Telegram) → IsShown b2 z → IsOver e2 z → Gap z now.index now.at (width x) (u - (q.at - p.at)) → b3 ≡ shown (with_packets z (insert z.packets now.index (tag, x)))) →
    OnOk r ((z : Telegram) → IsShown b2 z → IsOver e2 z → Gap z now.index now.at (width x) (u - (q.at - p.at)) → IsOver e3 (with_packets z (insert z.packets now.index (tag, x)))) →
    IsOk r →
    IsShown b3 (with_packets y (moved_to p.index to.index (tag, x) y.packets)) × IsOver e3 (with_packets y (moved_to p.index to.index (tag, x) y.packets))
moved b b2 b3 e2 e3 y tag x p q to now u r s g out over near shows keeps ok =
    let y2 = with_packets y (remove y.packets p.index) in
    let t = goes_from b y tag x p q to u s g in
    let same : t.item.1 ≡ x = sym (g.packet t.item t.there) in
    let a = apart b b2 y tag p q to now u s t out g.there near in
    let gap : Gap y2 now.index now.at (width x) (u - (q.at - p.at)) = subst (λ (z : Packet). Gap y2 now.index now.at (width z) (u - (q.at - p.at))) same a.gap in
    let spelt : IsSpelt (version_of y) x = subst (λ (z : Packet). IsSpelt (version_of y) z) same t.spelt in
    let room : used y2.packets + width x ≤ length b2 = subst (λ (z : Packet). used y2.packets + width z ≤ length b2) same a.room in
    let place : now.index ≡ cond (ltb p.index to.index) (to.index - 1) to.index = sym (once_out p.index (q.at - p.at) to now near) in (
      subst (λ (m : ℕ). IsShown b3 (with_packets y (insert y2.packets m (tag, x)))) place (put_shown b2 b3 y2 now.index (tag, x) a.shown a.absent spelt room (from_ok r ok shows y2 a.shown over gap)),
      subst (λ (m : ℕ). IsOver e3 (with_packets y (insert y2.packets m (tag, x)))) place (from_ok r ok keeps y2 a.shown over gap),
    )
