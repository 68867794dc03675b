-- Tags and numbers of 32 bits: a plan that is read has no others where it has few enough groups, and no edit puts in another but its own serial.
-- From what each change of a list puts in.
use Rattle.std.proofs.Common.{◌≡◌, ◌∙◌, ◌⊎◌, inl, inr, ℕ, suc, ◌+◌, ◌-◌, ◌<◌, ◌≤◌, nat_le, not, Bool, true, false, cond, ◌&&◌, eqb, All, List, [], ◌∷◌, ◌++◌, length, Option, Some, None, Result, Ok, Err, refl, sym, ap, subst, arith, length-append}
use Rattle.std.proofs.lemmas.Bool.{eqb-true, leb-true, leb-false}
use Rattle.std.proofs.lemmas.List.Elements.{All-head, All-tail}
use Rattle.balise_rules.specs.declared.identity.Id.{Id}
use Rattle.balise_rules.specs.declared.refusal.Refusal.{Refusal}
use Rattle.balise_rules.specs.declared.refusal.Refusal.TheVariants.{GroupSize, HeaderDisagrees, NumberReserved}
use Rattle.balise_rules.specs.declared.tag.Tag.{Tag}
use Rattle.balise_rules.specs.declared.tag.Tag.TheVariants.{Base, Fresh}
use Rattle.balise_rules.specs.Doing.{done}
use Rattle.balise_rules.specs.Edits.{Item, group_after, group_of, packet_after, packets_change}
use Rattle.balise_rules.specs.declared.tagged_edit.TaggedEdit.TheVariants.{SetVar, InsertPacket, DeletePacket, MovePacket, AddGroup, DropGroup}
use Rattle.balise_rules.specs.Notes.{noted}
use Rattle.balise_rules.specs.Packet.{Packet, IsSpelt}
use Rattle.balise_rules.specs.Plan.{Group, Plan, IsSound, agree_from, checked_group, country_of, group_named, identity_of, pushed, pushed_all, read_group, read_telegrams, reserved, with_group, with_telegrams}
use Rattle.balise_rules.specs.Tagged.{Change, Distinct, Each, Move, Put, Take, changed, each, find, put, without}
use Rattle.balise_rules.specs.Tags.{same_tag}
use Rattle.balise_rules.specs.Telegram.{TaggedFrom, Telegram, read_telegram, used, version_of}
use Rattle.balise_rules.proofs.Anchors.{find-put_same}
use Rattle.balise_rules.proofs.Cases.{found, some_is, unless, unok, unsome}
use Rattle.balise_rules.proofs.Distincts.{absent-each, absent-without}
use Rattle.balise_rules.proofs.Found.{group_sound, placed}
use Rattle.balise_rules.proofs.Lists.{find-each, find-put, find-without, find-without_same}
use Rattle.balise_rules.proofs.Moved.{absent-move}
use Rattle.balise_rules.proofs.PacketAgain.{front_of}
use Rattle.balise_rules.proofs.Reversed.{find-append, find-append_some}
use Rattle.balise_rules.proofs.TelegramShown.{telegram_read}
use Rattle.balise_rules.proofs.Tests.{other_no, split_keys, split_on, tag_test}
use Rattle.balise_edit_laws.specs.TakenBack.{IsReady}
use Rattle.balise_edit_laws.proofs.GroupsRead.{group_read}
use Rattle.balise_edit_laws.proofs.UnusedKept.{was_in}
use Rattle.balise_text.specs.Laws.{IsNumber, IsTagNumber}
use Rattle.balise_text.specs.Words.{most_number}
use Rattle.balise_cli.specs.PlanRead.{WasRead}

abbrev pub IsBig : Tag → Type 0
IsBig k = IsTagNumber k → ⊥

by_size : (n : ℕ) → (n ≤ most_number) ⊎ (n ≤ most_number → ⊥)
by_size n = split_on (nat_le n most_number) (λ e. inl (leb-true n most_number e)) (λ e. inr (λ h. let l = leb-false n most_number e in omega (arith, l, h)))

-- a tag is of 32 bits or it isn't
pub by_tag : (k : Tag) → IsTagNumber k ⊎ IsBig k
by_tag (Base n) = by_size n
by_tag (Fresh n) = by_size n

pub record SmallGroup (ys : Group) : Type 0 where
  pub telegrams : (t : ℕ) (y : Telegram) → find eqb t ys ≡ Some y → IsNumber t
  pub packets : (t : ℕ) (y : Telegram) → find eqb t ys ≡ Some y → (k : Tag) → IsBig k → find same_tag k y.packets ≡ None

pub record SmallPlan (plan : Plan) : Type 0 where
  pub groups : (k : Tag) → IsBig k → find same_tag k plan ≡ None
  pub within : (g : Tag) (ys : Group) → find same_tag g plan ≡ Some ys → SmallGroup ys

-- ---- what is read

few_packets : (version : ℕ) (ps : List (Tag × Packet)) → All (λ (p : Tag × Packet). IsSpelt version p.1) ps → length ps ≤ used ps
few_packets version [] a = omega arith
few_packets version (p ∷ ps) a =
    let least = (front_of version p.1 (All-head (λ (q : Tag × Packet). IsSpelt version q.1) p ps a)).least in
    let more = few_packets version ps (All-tail (λ (q : Tag × Packet). IsSpelt version q.1) p ps a) in
    omega (arith, least, more)

tagged_small : (k : Tag) → IsBig k → (n : ℕ) (ps : List (Tag × Packet)) → TaggedFrom n ps → n + length ps ≤ most_number → find same_tag k ps ≡ None
tagged_small k big n [] u l = refl
tagged_small k big n (p ∷ ps) u l =
    let own : IsTagNumber p.0 = subst IsTagNumber (sym u.0) (omega (arith, l)) in
    let other : same_tag k p.0 ≡ false = other_no tag_test k p.0 (λ q. big (subst IsTagNumber (sym q) own)) in
    simp other (tagged_small k big (suc n) ps u.1 (omega (arith, l)))

abbrev WasReadAt : ℕ → ℕ → Telegram → Type 0
WasReadAt most t y = (t < most) × TaggedFrom 0 y.packets

telegrams_small : (n : ℕ) (bs : List (List Bool)) (ys : Group) → read_telegrams n bs ≡ Ok ys → (t : ℕ) (y : Telegram) → find eqb t ys ≡ Some y → WasReadAt (n + length bs) t y
unfolding read_telegrams
telegrams_small n [] ys h t y f = absurd (let k : find eqb t ys ≡ None = ap (find eqb t) (sym (unok h)) in cc)
telegrams_small n (b ∷ bs) ys h t y f = by (λ zs d g. telegrams_small (suc n) bs zs d t y g) (read_telegram b) refl (read_telegrams (suc n) bs) refl h
  where
    by : ((zs : Group) → read_telegrams (suc n) bs ≡ Ok zs → find eqb t zs ≡ Some y → WasReadAt (suc n + length bs) t y) → (r : Result Telegram Refusal) → read_telegram b ≡ r → (q : Result Group Refusal) → read_telegrams (suc n) bs ≡ q
        → with_telegrams n r q ≡ Ok ys → WasReadAt (n + length (b ∷ bs)) t y
    by again (Err x) e q d h = absurd cc
    by again (Ok z) e (Err x) d h = absurd cc
    by again (Ok z) e (Ok zs) d h =
        let g : find eqb t ((n, z) ∷ zs) ≡ Some y = ap (find eqb t) (unok h) ∙ f in
        split_on (eqb t n)
        (λ c. let w : Some z ≡ Some y = simp c at g in let s = eqb-true t n c in (omega (arith, s), subst (λ (x : Telegram). TaggedFrom 0 x.packets) (unsome w) (telegram_read b z e).tags))
        (λ c. let w : find eqb t zs ≡ Some y = simp c at g in let m = again zs d w in let l = m.0 in (omega (arith, l), m.1))

-- the telegrams of a group that was read
pub telegrams_of : (bs : List (List Bool)) (ys : Group) → read_group bs ≡ Ok ys → (1 ≤ length bs) × (length bs ≤ 8) × (read_telegrams 0 bs ≡ Ok ys)
unfolding read_group
telegrams_of bs ys h = by (nat_le 1 (length bs)) (nat_le (length bs) 8) refl refl h
  where
    checked : (r : Result Group Refusal) → checked_group r ≡ Ok ys → r ≡ Ok ys
    checked (Err x) k = absurd cc
    checked (Ok zs) k = (unless (eqb (identity_of zs).number reserved) NumberReserved (Ok zs) ys (unless (not (agree_from (identity_of zs) (length zs - 1) 0 zs)) HeaderDisagrees (cond (eqb (identity_of zs).number reserved) (Err NumberReserved) (Ok zs)) ys k).1).1

    by : (a b : Bool) → nat_le 1 (length bs) ≡ a → nat_le (length bs) 8 ≡ b → cond (a && b) (checked_group (read_telegrams 0 bs)) (Err GroupSize) ≡ Ok ys → (1 ≤ length bs) × (length bs ≤ 8) × (read_telegrams 0 bs ≡ Ok ys)
    by true true d e k = (leb-true 1 (length bs) d, leb-true (length bs) 8 e, checked (read_telegrams 0 bs) k)
    by true false d e k = absurd cc
    by false b d e k = absurd cc

pub group_read_small : (bs : List (List Bool)) (ys : Group) → read_group bs ≡ Ok ys → SmallGroup ys
group_read_small bs ys h =
    let r = telegrams_of bs ys h in
    let few : length bs ≤ 8 = r.1 in
    let at : (t : ℕ) (y : Telegram) → find eqb t ys ≡ Some y → WasReadAt (0 + length bs) t y = λ t y f. telegrams_small 0 bs ys r.2 t y f in
    record {
      telegrams = λ t y f. let l = (at t y f).0 in omega (arith, l, few);
      packets = λ t y f k big. let s = (placed ys (group_read bs ys h).sound t y f).sound in
          let some = few_packets (version_of y) y.packets s.packets in
          let room = s.fits in
          tagged_small k big 0 y.packets (at t y f).1 (elim s.size [ inl e ↦ omega (arith, e, some, room) | inr e ↦ omega (arith, e, some, room) ]);
    }

-- a plan that was read has the tags of its places
record PlacedPlan (plan : Plan) : Type 0 where
  tags : (k : Tag) → ((m : ℕ) → m < length plan → k ≡ Base m → ⊥) → find same_tag k plan ≡ None
  within : (g : Tag) (ys : Group) → find same_tag g plan ≡ Some ys → SmallGroup ys

one_placed : (plan : Plan) (ys : Group) → PlacedPlan plan → SmallGroup ys → PlacedPlan (plan ++ (Base (length plan), ys) ∷ [])
one_placed plan ys p s =
    let z : Tag × Group = (Base (length plan), ys) in
    let size = length-append plan (z ∷ []) in record {
      tags = λ k no. let other : same_tag k z.0 ≡ false = other_no tag_test k z.0 (λ q. no (length plan) (omega (arith, size)) q) in
          let none : find same_tag k (z ∷ []) ≡ None = simp other in
          find-append same_tag k plan (z ∷ []) (p.tags k (λ m l q. no m (omega (arith, l, size)) q)) ∙ none;
      within = λ g zs h.
          found (find same_tag g plan)
          (λ e. let w : find same_tag g (z ∷ []) ≡ Some zs = sym (find-append same_tag g plan (z ∷ []) e) ∙ h in
          split_on (same_tag g z.0)
          (λ d. let q : Some ys ≡ Some zs = simp d at w in subst SmallGroup (unsome q) s)
          (λ d. absurd (let q = simp d at w in cc)))
          (λ xs e. subst SmallGroup (unsome (sym (find-append_some same_tag g xs plan (z ∷ []) e) ∙ h)) (p.within g xs e));
    }

pushed_placed : (plan more : Plan) (bs : List (List Bool)) → PlacedPlan plan → (r : Result Group Refusal) → read_group bs ≡ r → with_group plan r ≡ Ok more → PlacedPlan more
pushed_placed plan more bs p (Err x) e h = absurd cc
pushed_placed plan more bs p (Ok ys) e h =
    found (group_named (identity_of ys) plan)
    (λ d. let w : Ok (plan ++ (Base (length plan), ys) ∷ []) ≡ Ok more = simp d at h in subst PlacedPlan (unok w) (one_placed plan ys p (group_read_small bs ys e)))
    (λ z d. absurd (let w = simp d at h in cc))

none_after : (r : Refusal) (groups : List (List (List Bool))) (plan : Plan) → pushed_all (Err r) groups ≡ Ok plan → ⊥
none_after r [] plan h = cc
none_after r (bs ∷ groups) plan h = cc

all_placed : (groups : List (List (List Bool))) (plan last : Plan) → PlacedPlan plan → pushed_all (Ok plan) groups ≡ Ok last → PlacedPlan last
all_placed [] plan last p h = subst PlacedPlan (unok h) p
all_placed (bs ∷ groups) plan last p h = by (λ more q k. all_placed groups more last q k) (pushed plan bs) refl h
  where
    by : ((more : Plan) → PlacedPlan more → pushed_all (Ok more) groups ≡ Ok last → PlacedPlan last) → (r : Result Plan Refusal) → pushed plan bs ≡ r → pushed_all r groups ≡ Ok last → PlacedPlan last
    by again (Err x) e k = absurd (none_after x groups last k)
    by again (Ok more) e k = again more (pushed_placed plan more bs p (read_group bs) refl e) k

pub plan_read_small : (plan : Plan) → WasRead plan → length plan ≤ most_number → SmallPlan plan
plan_read_small plan w few =
    let first : PlacedPlan [] = record { tags = λ k no. refl; within = λ g ys h. absurd cc } in
    let p = all_placed w.0 [] plan first w.1 in record {
      groups = λ k big. p.tags k (λ m l q. big (subst IsTagNumber (sym q) (omega (arith, l, few))));
      within = p.within;
    }

-- ---- what edits leave

own_serial : (k : Tag) (z : ℕ) → IsBig k → IsNumber z → same_tag k (Fresh z) ≡ false
own_serial k z big n = other_no tag_test k (Fresh z) (λ q. big (subst IsTagNumber (sym q) n))

either_absent : {A : Type 0} (k : Tag) (b : Bool) (x y : Change Tag A) (xs : List (Tag × A)) → find same_tag k (changed same_tag x xs) ≡ None → find same_tag k (changed same_tag y xs) ≡ None → find same_tag k (changed same_tag (cond b x y) xs) ≡ None
either_absent k true x y xs h n = h
either_absent k false x y xs h n = n

packets_small : (e : Item) → IsNumber e.0 → (k : Tag) → IsBig k → (i : Id) (g : Tag) (t c : ℕ) (ps : List (Tag × Packet)) → find same_tag k ps ≡ None → find same_tag k (changed same_tag (packets_change e i g t c) ps) ≡ None
packets_small (z, InsertPacket g0 t0 a x) n k big i g t c ps h =
    either_absent k (same_tag g0 g && eqb t0 t) (Put a (Fresh z, x)) (Each (λ q y. y)) ps (find-put same_tag k a (Fresh z, x) (own_serial k z big n) ps ∙ h) (absent-each tag_test (λ q y. y) k ps h)
packets_small (z, DeletePacket g0 t0 p) n k big i g t c ps h =
    either_absent k (same_tag g0 g && eqb t0 t) (Take p) (Each (λ q y. y)) ps (absent-without same_tag k p ps h) (absent-each tag_test (λ q y. y) k ps h)
packets_small (z, MovePacket g0 t0 p a) n k big i g t c ps h =
    either_absent k (same_tag g0 g && eqb t0 t) (Move p a) (Each (λ q y. y)) ps (absent-move tag_test k p a ps h) (absent-each tag_test (λ q y. y) k ps h)
packets_small (z, SetVar g0 t0 p v j new) n k big i g t c ps h = absent-each tag_test (packet_after (SetVar g0 t0 p v j new) i g t c) k ps h
packets_small e n k big i g t c ps h = absent-each tag_test (packet_after e.1 i g t c) k ps h

group_small : (e : Item) → IsNumber e.0 → (own : Id) (g : Tag) (ys : Group) → Distinct eqb ys → SmallGroup ys → SmallGroup (group_after e own g ys)
group_small e n own g ys u s = record {
  telegrams = λ t z h. let x = was_in e own g t ys u z h in s.telegrams t x.telegram x.was;
  packets = λ t z h k big. let x = was_in e own g t ys u z h in
      ap (λ (w : Telegram). find same_tag k w.packets) x.is ∙ packets_small e n k big own g t (country_of x.telegram) x.telegram.packets (s.packets t x.telegram x.was k big);
}

small_within : (e : Item) → IsNumber e.0 → (own : Id) (plan : Plan) → IsSound plan → SmallPlan plan → SmallPlan (each (group_after e own) plan)
small_within e n own plan sound w = record {
  groups = λ k big. absent-each tag_test (group_after e own) k plan (w.groups k big);
  within = λ g zs h.
      some_is (find same_tag g plan) (group_after e own g) zs (sym (find-each tag_test (group_after e own) g plan) ∙ h)
      (λ ys q is. subst SmallGroup (sym is) (group_small e n own g ys (group_sound plan sound g ys q).tags (w.within g ys q)));
}

small_added : (z : ℕ) (a : Option Tag) (bs : List (List Bool)) (plan : Plan) → IsReady (z, AddGroup a bs) plan → IsNumber z → SmallPlan plan → SmallPlan (put same_tag a (Fresh z, group_of bs) plan)
small_added z a bs plan r n w =
    let more = put same_tag a (Fresh z, group_of bs) plan in record {
      groups = λ k big. find-put same_tag k a (Fresh z, group_of bs) (own_serial k z big n) plan ∙ w.groups k big;
      within = λ g zs h.
          split_keys tag_test g (Fresh z)
          (λ e q. let k : group_of bs ≡ zs = unsome (sym (ap (λ u. find same_tag u more) q ∙ find-put_same a (Fresh z, group_of bs) plan r.accepted.1.0 r.unused.groups) ∙ h) in
          subst SmallGroup k (group_read_small bs (group_of bs) r.accepted.0))
          (λ e. w.within g zs (sym (find-put same_tag g a (Fresh z, group_of bs) e plan) ∙ h));
    }

small_dropped : (p : Tag) (plan : Plan) → SmallPlan plan → SmallPlan (without same_tag p plan)
small_dropped p plan w = record {
  groups = λ k big. absent-without same_tag k p plan (w.groups k big);
  within = λ g zs h.
      split_keys tag_test g p
      (λ e q. absurd (let k = sym h ∙ ap (λ u. find same_tag u (without same_tag p plan)) q ∙ find-without_same same_tag p plan in cc))
      (λ e. w.within g zs (sym (find-without tag_test g p e plan) ∙ h));
}

pub small_kept : (e : Item) (plan : Plan) → IsReady e plan → IsNumber e.0 → SmallPlan plan → SmallPlan (done e plan)
small_kept (z, AddGroup a bs) plan r n w = small_added z a bs plan r n w
small_kept (z, DropGroup g) plan r n w = small_dropped g plan w
small_kept e plan r n w = small_within e n (noted e.1 plan).own plan r.sound w
