-- Taking a packet out and putting one in, as the telegram does it.
-- From what its bits show then, and the tags and the ground that are kept.
use Rattle.std.proofs.Common.{◌≡◌, ◌∙◌, inl, true, false, ltb, [], ◌∷◌, is_some, IsOkUnless, refl, ℕ, ◌+◌, ◌-◌, ◌≤◌, List, Bool, length, take, get_or, slice_get, Option, Some, None, Result, Ok, Err, OnOk, OnErr, sym, ap, subst, arith}
use Rattle.std.specs.List.{position, insert, remove}
use Rattle.std.proofs.lemmas.Bool.{le-ltb}
use Rattle.std.proofs.lemmas.Option.{slice_get-get_or}
use Rattle.balise_rules.specs.declared.tag.Tag.{Tag}
use Rattle.balise_rules.specs.Packet.{Packet, width, IsSpelt}
use Rattle.balise_rules.specs.Tagged.{find, without}
use Rattle.balise_rules.specs.Tags.{same_tag}
use Rattle.balise_rules.specs.declared.refusal.Refusal.TheVariants.{NoRoom}
use Rattle.balise_rules.specs.Doing.{when, first_of}
use Rattle.balise_rules.specs.Telegram.{Telegram, room, shown, used, version_of}
use Rattle.balise_rules.specs.Back.{with_packets}
use Rattle.balise_rules.proofs.Cases.{unsome}
use Rattle.balise_telegram.specs.declared.fault.TelegramFault.{TelegramFault}
use Rattle.balise_telegram.specs.declared.fault.TelegramFault.TheVariants.{OutOfMemory}
use Rattle.balise_telegram.specs.Changes.{InsertsOrWants}
use Rattle.balise_telegram.specs.Moving.{inserted, insert_refusal}
use Rattle.balise_telegram.specs.declared.telegram.walking.Place.{Place}
use Rattle.balise_telegram.specs.declared.telegram.contents.Contents.{Contents}
use Rattle.balise_telegram.specs.declared.telegram.contents.EditedBits.{EditedBits}
use Rattle.balise_telegram.specs.Shown.{kept_of, packed_of, Gap, IsPlace, Kept, Spot, IsKept, IsOver, StandsFor, IsShown}
use Rattle.balise_telegram.proofs.Tagging.{Packets, StandsAt, is_tagged}
use Rattle.balise_telegram.proofs.Placing.{looked, removed}
use Rattle.balise_telegram.proofs.Using.{used-take}
use Rattle.balise_telegram.proofs.Walking.{next_below, used_within}
use Rattle.balise_telegram.proofs.Spliced.{taken_shown, put_shown}

-- the packet with a tag, from one place to the next
pub record Standing (y : Telegram) (tag : Tag) (p q : Place) (u : ℕ) : Type 0 where
  pub item : Tag × Packet
  pub stands : StandsAt tag y.packets p.index item
  pub there : slice_get y.packets p.index ≡ Some item
  pub spelt : IsSpelt (version_of y) item.1
  pub wide : q.at ≡ p.at + width item.1
  pub spot : Spot y p.index p.at (q.at - p.at) u

pub standing : (b : List Bool) (y : Telegram) (tag : Tag) (p q : Place) (u : ℕ) → IsShown b y → Some p.index ≡ position (is_tagged tag) y.packets → IsPlace y p → q.index ≡ p.index + 1 → IsPlace y q → u ≡ used y.packets → Standing y tag p q u
standing b y tag p q u s e is one next all =
    let ps = y.packets in
    let i = p.index in
    let l = looked tag ps i e in
    let below = l.1.within in
    let there : slice_get ps i ≡ Some l.0 = slice_get-get_or ps i l.0 below ∙ ap Some (sym l.1.is) in
    let far : used (take q.index ps) ≡ used (take (i + 1) ps) = ap (λ (k : ℕ). used (take k ps)) one in
    let size : width (get_or ps i l.0).1 ≡ width l.0.1 = ap (λ (x : Tag × Packet). width x.1) (sym l.1.is) in
    let wide : q.at ≡ p.at + width l.0.1 = omega (arith, is.1, next.1, far, used-take ps i l.0 below, size) in
    record {
      item = l.0;
      stands = l.1;
      there = there;
      spelt = (let z = next_below b y i p.at s is.1 below in subst (λ (x : Tag × Packet). IsSpelt (version_of y) x.1) (unsome (sym z.is ∙ there)) z.spelt);
      wide = wide;
      spot = record {
        packet = l.0;
        is = there;
        wide = omega (arith, wide);
        place = is.1;
        all = all;
      };
    }

-- bits, tags and ground that are taken out to be changed are the telegram's
pub taken_out : (d : Contents) (e f : EditedBits) (y : Telegram) → StandsFor (packed_of d) (kept_of d) y → e.packed ≡ packed_of d → ((z : Telegram) → StandsFor (packed_of d) (kept_of d) z → IsOver e.kept z) → f ≡ e → IsShown f.packed y × IsOver f.kept y
taken_out d e f y o same over is = subst (λ (x : EditedBits). IsShown x.packed y × IsOver x.kept y) (sym is) (subst (λ (l : List Bool). IsShown l y) (sym same) o.shown, over y o)

pub taken_one : (b b2 : List Bool) (k : Kept) (y : Telegram) (tag : Tag) (i : ℕ) (x : Tag × Packet) → IsShown b y → StandsAt tag y.packets i x → b2 ≡ shown (with_packets y (remove y.packets i)) → IsKept k (with_packets y (remove y.packets i)) → StandsFor b2 k (with_packets y (without same_tag tag y.packets))
taken_one b b2 k y tag i x s h e kept =
    subst (λ (l : Packets). StandsFor b2 k (with_packets y l)) (sym (removed tag y.packets i x s.tags h)) (record { shown = taken_shown b b2 y tag i x s h e; kept = kept })

-- the telegram with the packet, or as it was where that failed
abbrev pub after : Result Unit TelegramFault → Telegram → Telegram → Telegram
after (Ok u) new old = new
after (Err e) new old = old

pub put_one : (r : Result Unit TelegramFault) (b b2 : List Bool) (k : Kept) (y : Telegram) (i : ℕ) (z : Tag × Packet) → IsShown b y → find same_tag z.0 y.packets ≡ None → IsSpelt (version_of y) z.1 → used y.packets + width z.1 ≤ length b →
    OnOk r (b2 ≡ shown (with_packets y (insert y.packets i z))) → OnOk r (IsKept k (with_packets y (insert y.packets i z))) → OnErr r (b2 ≡ b) → OnErr r (IsKept k y) → StandsFor b2 k (after r (with_packets y (insert y.packets i z)) y)
put_one (Ok u) b b2 k y i z s new word room e kept same still = record { shown = put_shown b b2 y i z s new word room e; kept = kept }
put_one (Err f) b b2 k y i z s new word room e kept same still = record { shown = subst (λ (l : List Bool). IsShown l y) (sym same) s; kept = still }

-- ---- what putting in answers

accepted : (x : Packet) (y : Telegram) → width x ≤ room y → insert_refusal true x y ≡ None
accepted x y h = let e : ltb (room y) (width x) ≡ false = le-ltb _ _ h in ap (λ (b : Bool). first_of (when b NoRoom ∷ [])) e

pub put_ok : (place : Option ℕ) (i : ℕ) (t : Tag) (x : Packet) (y new : Telegram) (d : Result Unit TelegramFault) (r : Result Unit (TelegramFault × Packet)) (u v : Unit) → place ≡ Some i → width x ≤ room y → d ≡ Ok u → r ≡ Ok v → new ≡ after d (with_packets y (insert y.packets i (t, x))) y →
    InsertsOrWants (is_some place) x (inserted place (t, x) y.packets) y r new
put_ok place i t x y new d r u v at room_ is answer e =
    let now : new ≡ with_packets y (insert y.packets i (t, x)) = e ∙ ap (λ (q : Result Unit TelegramFault). after q (with_packets y (insert y.packets i (t, x))) y) is in
    let one : InsertsOrWants (is_some (Some i)) x (inserted (Some i) (t, x) y.packets) y (Ok v) new = (accepted x y room_, now) in
    subst (λ (q : Result Unit (TelegramFault × Packet)). InsertsOrWants (is_some place) x (inserted place (t, x) y.packets) y q new) (sym answer)
    (subst (λ (o : Option ℕ). InsertsOrWants (is_some o) x (inserted o (t, x) y.packets) y (Ok v) new) (sym at) one)

pub put_wants : (place : Option ℕ) (i : ℕ) (t : Tag) (x : Packet) (y new : Telegram) (d : Result Unit TelegramFault) (r : Result Unit (TelegramFault × Packet)) (f : TelegramFault) → d ≡ Err f → r ≡ Err (f, x) → IsOkUnless d OutOfMemory → new ≡ after d (with_packets y (insert y.packets i (t, x))) y →
    InsertsOrWants (is_some place) x (inserted place (t, x) y.packets) y r new
put_wants place i t x y new d r f is answer wants e =
    let now : new ≡ y = e ∙ ap (λ (q : Result Unit TelegramFault). after q (with_packets y (insert y.packets i (t, x))) y) is in
    let fault : f ≡ OutOfMemory = subst (λ (q : Result Unit TelegramFault). IsOkUnless q OutOfMemory) is wants in
    subst (λ (q : Result Unit (TelegramFault × Packet)). InsertsOrWants (is_some place) x (inserted place (t, x) y.packets) y q new) (sym answer) (inl (fault, refl, now))

-- where there is room for a packet
pub gap_of : (b : List Bool) (y : Telegram) (i at u w : ℕ) → IsShown b y → i ≤ length y.packets → at + 8 ≡ used (take i y.packets) → u ≡ used y.packets → w ≤ room y → Gap y i at w u × (used y.packets + w ≤ length b)
gap_of b y i at u w s h place all fits =
    let inside = used_within b y s in
    let ground = s.ground in (
      record {
        within = h;
        place = place;
        all = all;
        room = omega (arith, inside, ground, all, fits);
      },
      omega (arith, inside, ground, fits),
    )
