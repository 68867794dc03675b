-- A group that is read is sound, and its packets have the tags of what was read alone.
-- From the reading of its telegrams, each of which shows the bits that were read, and the agreement of their headers.
-- So a group that is added is sound, and no serial tags anything in it.
use Rattle.std.proofs.Common.{◌≡◌, ℕ, suc, ◌+◌, ◌-◌, ◌<◌, ◌≤◌, Bool, true, false, cond, ◌&&◌, eqb, leb, List, [], ◌∷◌, ◌++◌, length, drop, Some, None, Result, Ok, Err, refl, sym, ap, subst, ◌∙◌, arith, length-append, length-drop}
use Rattle.std.proofs.lemmas.Bool.{and_parts, leb-true, eqb-true, ne_eqb, eqb-false}
use Rattle.std.proofs.lemmas.List.{length-replicate}
use Rattle.balise_rules.specs.declared.refusal.Refusal.TheVariants.{GroupSize}
use Rattle.balise_rules.proofs.TelegramShown.{used_is, telegram_read}
use Rattle.balise_rules.specs.declared.tag.Tag.TheVariants.{Fresh}
use Rattle.balise_rules.specs.declared.identity.Id.{Id}
use Rattle.balise_rules.specs.declared.refusal.Refusal.{Refusal}
use Rattle.balise_rules.specs.declared.variable.Var.{Var}
use Rattle.balise_rules.specs.declared.variable.Var.TheVariants.{NPig, NTotal}
use Rattle.balise_rules.specs.Variables.{width_of}
use Rattle.balise_rules.specs.Bits.{bits, ones}
use Rattle.balise_rules.specs.Tagged.{find, Distinct}
use Rattle.balise_rules.specs.Tags.{same_tag, same_id}
use Rattle.balise_rules.specs.Forms.{Fields, Matches, spelling}
use Rattle.balise_rules.specs.Packet.{value}
use Rattle.balise_rules.specs.Telegram.{Telegram, header, used, IsLength, IsRead, packets_bits, read_telegram}
use Rattle.balise_rules.specs.Plan.{Group, reserved, identity_in, identity_of, agree_from, with_telegrams, read_telegrams, checked_group, read_group, IsSoundTelegram, SoundFrom, IsSoundGroup}
use Rattle.balise_rules.proofs.Tests.{split_on, id_test}
use Rattle.balise_rules.proofs.Numbers.{length-bits}
use Rattle.balise_rules.proofs.Cases.{unsome, unok}
use Rattle.balise_rules.proofs.TaggedFrom.{tagged_distinct, never_fresh}
use Rattle.balise_edit_laws.proofs.Headers.{plains, header_variables}

-- how many bits a list of variables takes
abbrev widths : List Var → ℕ
widths [] = 0
widths (v ∷ vs) = width_of v + widths vs

plains_length : (vs : List Var) → (hs : Fields) → (rest : List Bool) → Matches (plains vs) hs rest → length (spelling hs) ≡ widths vs
unfolding spelling
plains_length [] [] rest m = refl
plains_length (v ∷ vs) (f ∷ fs) rest m =
    let w : width_of f.0.0 ≡ width_of v = ap width_of m.0 in
    omega (arith, length-append (bits (width_of f.0.0) f.1) (spelling fs), length-bits (width_of f.0.0) f.1, w, plains_length vs fs rest m.2)
plains_length vs fs rest m = absurd m

header_length : (hs : Fields) → Matches header hs [] → length (spelling hs) ≡ 50
unfolding header width_of
header_length hs m = plains_length header_variables hs [] m

-- header, packets and packet 255 stand within the bits
used_within : (b : List Bool) → (y : Telegram) → IsRead b y → used y.packets ≤ length b
used_within b y r =
    let left = drop (used y.packets) y.padding in
    let whole = ap length r.shows in
    omega (
      arith,
      whole,
      length-append (spelling y.head) (packets_bits y.packets ++ (ones 8 ++ left)),
      length-append (packets_bits y.packets) (ones 8 ++ left),
      length-append (ones 8) left,
      header_length y.head r.header,
      used_is y.packets,
      length-replicate 8 true,
    )

padding_length : (b : List Bool) → (y : Telegram) → IsRead b y → length y.padding ≡ length b
padding_length b y r =
    let p = ap length r.padding in
    omega (arith, p, length-append (ones (used y.packets)) (drop (used y.packets) b), length-replicate (used y.packets) true, length-drop (used y.packets) b, used_within b y r)

telegram_sound : (i : Id) → (last n : ℕ) → (b : List Bool) → (y : Telegram) → IsRead b y → value NPig 0 y.head ≡ n → value NTotal 0 y.head ≡ last → identity_in y ≡ i → IsSoundTelegram i last n y
telegram_sound i last n b y r place total identity =
    let size = padding_length b y r in
    record {
      header = r.header;
      numbered = r.numbered;
      balise = r.balise;
      identity = identity;
      place = place;
      total = total;
      tags = tagged_distinct 0 y.packets r.tags;
      packets = r.packets;
      size = subst IsLength (sym size) r.size;
      fits = omega (arith, size, used_within b y r);
    }

-- telegrams read one after another, tagged by their place
abbrev ReadFrom : ℕ → Group → Type 0
ReadFrom n [] = Unit {0}
ReadFrom n (y ∷ ys) = (y.0 ≡ n) × ((b : List Bool) × IsRead b y.1) × ReadFrom (suc n) ys

record Parted (n : ℕ) (r : Result Telegram Refusal) (q : Result Group Refusal) (ys : Group) : Type 0 where
  telegram : Telegram
  more : Group
  read : r ≡ Ok telegram
  rest : q ≡ Ok more
  is : (n, telegram) ∷ more ≡ ys

parted : (n : ℕ) → (r : Result Telegram Refusal) → (q : Result Group Refusal) → (ys : Group) → with_telegrams n r q ≡ Ok ys → Parted n r q ys
parted n (Ok y) (Ok zs) ys h = record { telegram = y; more = zs; read = refl; rest = refl; is = unok h }
parted n r q ys h = absurd cc

telegrams_read : (n : ℕ) → (bs : List (List Bool)) → (ys : Group) → read_telegrams n bs ≡ Ok ys → ReadFrom n ys × (length ys ≡ length bs)
unfolding read_telegrams
telegrams_read n [] ys h = let e : [] ≡ ys = unok h in subst (λ z. ReadFrom n z × (length z ≡ 0)) e (tt, refl)
telegrams_read n (b ∷ bs) ys h =
    let p = parted n (read_telegram b) (read_telegrams (suc n) bs) ys h in
    let more = telegrams_read (suc n) bs p.more p.rest in
    subst (λ z. ReadFrom n z × (length z ≡ suc (length bs))) p.is ((refl, (b, telegram_read b p.telegram p.read), more.0), ap suc more.1)

place_absent : (m n : ℕ) → (ys : Group) → ReadFrom n ys → m < n → find eqb m ys ≡ None
place_absent m n [] u l = refl
place_absent m n (y ∷ ys) u l =
    let q = u.0 in
    let d : eqb m y.0 ≡ false = ne_eqb m y.0 (λ e. omega (arith, e, l, q)) in
    simp d (place_absent m (suc n) ys u.2 (omega (arith, l)))

places_distinct : (n : ℕ) → (ys : Group) → ReadFrom n ys → Distinct eqb ys
places_distinct n [] u = tt
places_distinct n (y ∷ ys) u = (ap (λ t. find eqb t ys) u.0 ∙ place_absent n (suc n) ys u.2 (omega arith), places_distinct (suc n) ys u.2)

sound_from : (i : Id) → (last n : ℕ) → (ys : Group) → ReadFrom n ys → agree_from i last n ys ≡ true → SoundFrom i last n ys
sound_from i last n [] r a = tt
sound_from i last n (y ∷ ys) r a =
    let d = and_parts (eqb (value NPig 0 y.1.head) n && eqb (value NTotal 0 y.1.head) last && same_id (identity_in y.1) i) (agree_from i last (suc n) ys) a in
    let c = and_parts (eqb (value NPig 0 y.1.head) n && eqb (value NTotal 0 y.1.head) last) (same_id (identity_in y.1) i) d.0 in
    let b = and_parts (eqb (value NPig 0 y.1.head) n) (eqb (value NTotal 0 y.1.head) last) c.0 in
    (telegram_sound i last n r.1.0 y.1 r.1.1 (eqb-true _ _ b.0) (eqb-true _ _ b.1) (id_test.one (identity_in y.1) i c.1), sound_from i last (suc n) ys r.2 d.1)

fresh_from : (n : ℕ) → (ys : Group) → ReadFrom n ys → (s t : ℕ) → (y : Telegram) → find eqb t ys ≡ Some y → find same_tag (Fresh s) y.packets ≡ None
fresh_from n [] r s t y h = absurd cc
fresh_from n (z ∷ zs) r s t y h =
    split_on (eqb t z.0)
    (λ e. let w : Some z.1 ≡ Some y = simp e at h in subst (λ (x : Telegram). find same_tag (Fresh s) x.packets ≡ None) (unsome w) (never_fresh s 0 z.1.packets r.1.1.tags))
    (λ e. let w : find eqb t zs ≡ Some y = simp e at h in fresh_from (suc n) zs r.2 s t y w)

pub record GroupRead (ys : Group) : Type 0 where
  pub sound : IsSoundGroup ys
  pub fresh : (s t : ℕ) → (y : Telegram) → find eqb t ys ≡ Some y → find same_tag (Fresh s) y.packets ≡ None

checked : (r : Result Group Refusal) → (ys : Group) → checked_group r ≡ Ok ys → (r ≡ Ok ys) × (agree_from (identity_of ys) (length ys - 1) 0 ys ≡ true) × (eqb (identity_of ys).number reserved ≡ false)
checked (Err x) ys h = absurd cc
checked (Ok zs) ys h =
    split_on (agree_from (identity_of zs) (length zs - 1) 0 zs)
    (λ a. split_on (eqb (identity_of zs).number reserved)
    (λ b. absurd (let w = simp (a, b) at h in cc))
    (λ b. let w : Ok zs ≡ Ok ys = simp (a, b) at h in let q : zs ≡ ys = unok w in
    (w, subst (λ z. agree_from (identity_of z) (length z - 1) 0 z ≡ true) q a, subst (λ z. eqb (identity_of z).number reserved ≡ false) q b)))
    (λ a. absurd (let w = simp a at h in cc))

sized : (c : Bool) → (r : Result Group Refusal) → (ys : Group) → cond c r (Err GroupSize) ≡ Ok ys → (c ≡ true) × (r ≡ Ok ys)
sized true r ys h = (refl, h)
sized false r ys h = absurd cc

pub group_read : (bs : List (List Bool)) → (ys : Group) → read_group bs ≡ Ok ys → GroupRead ys
unfolding read_group
group_read bs ys h =
    let a = sized (leb 1 (length bs) && leb (length bs) 8) (checked_group (read_telegrams 0 bs)) ys h in
    let b = and_parts (leb 1 (length bs)) (leb (length bs) 8) a.0 in
    let least = leb-true 1 (length bs) b.0 in
    let most = leb-true (length bs) 8 b.1 in
    let c = checked (read_telegrams 0 bs) ys a.1 in
    let r = telegrams_read 0 bs ys c.0 in
    let size = r.1 in
    record {
      sound = record {
        some = omega (arith, size, least);
        most = omega (arith, size, most);
        tags = places_distinct 0 ys r.0;
        number = eqb-false (identity_of ys).number reserved c.2;
        telegrams = sound_from (identity_of ys) (length ys - 1) 0 ys r.0 c.1;
      };
      fresh = fresh_from 0 ys r.0;
    }
