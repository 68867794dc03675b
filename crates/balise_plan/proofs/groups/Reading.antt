-- Reading the telegrams of a group one after another.
-- From the definition: what was read stands before what is read of the rest.
use Rattle.std.proofs.Common.{◌≡◌, ◌∙◌, ℕ, suc, ◌+◌, ◌-◌, ◌≤◌, ◌<◌, Bool, true, false, cond, eqb, ◌&&◌, ◌||◌, List, [], ◌∷◌, ◌++◌, length, Result, Ok, Err, refl, sym, ap, subst, append_assoc, length-append, arith}
use Rattle.std.specs.Prelude.{nat_lt, nat_le}
use Rattle.std.specs.List.{enumerate_from}
use Rattle.std.proofs.lemmas.Bool.{ne_eqb, leb-false}
use Rattle.std.proofs.lemmas.List.{append-nil}
use Rattle.balise_rules.specs.declared.refusal.Refusal.{Refusal}
use Rattle.balise_rules.specs.declared.refusal.Refusal.TheVariants.{GroupSize}
use Rattle.balise_rules.specs.Telegram.{Telegram, read_telegram}
use Rattle.balise_rules.proofs.Cases.{unok}
use Rattle.balise_rules.specs.Refusals.{and_then}
use Rattle.balise_plan.specs.GroupReading.{WereRead, group_of, with_read, with_telegram}
use Rattle.balise_plan.specs.OneOrMore.{AreInOrder}
use Rattle.balise_plan.proofs.items.Tagged.{push-in_order}
use Rattle.balise_edit_laws.proofs.GroupsRead.{GroupRead, group_read}
use Rattle.balise_rules.specs.Plan.{Group, Plan, pushed, with_group, agree_from, checked_group, identity_of, read_group, read_telegrams, reserved, with_telegrams}

-- telegrams that were read, and what is read of the rest
abbrev pub behind : Group → Result Group Refusal → Result Group Refusal
behind read (Err r) = Err r
behind read (Ok more) = Ok (read ++ more)

pub record Reading (all : List (List Bool)) (read : Group) (rest : List (List Bool)) : Type 0 where
  pub so_far : read_telegrams 0 all ≡ behind read (read_telegrams (length read) rest)
  pub counted : length read + length rest ≡ length all
  pub in_order : AreInOrder read
  pub few : length all ≤ 8
  pub some : 1 ≤ length all

pub begins : (all rest : List (List Bool)) (ys : Group) → rest ≡ all → ys ≡ [] → length all ≤ 8 → 1 ≤ length all → Reading all ys rest
begins all rest ys e n few some = record {
  so_far = rw (n, e) (by (read_telegrams 0 all));
  counted = omega (arith, ap length e, ap length n);
  in_order = ([], n);
  few = few;
  some = some;
}
  where
    by : (r : Result Group Refusal) → r ≡ behind [] r
    by r = grind arith

-- one telegram more
pub reads_on : (all : List (List Bool)) (read new : Group) (rest more : List (List Bool)) (b : List Bool) (y : Telegram) → Reading all read rest → rest ≡ b ∷ more → read_telegram b ≡ Ok y → new ≡ read ++ (length read, y) ∷ [] → Reading all new more
unfolding read_telegrams
reads_on all read new rest more b y r e t n =
    let tag = length read in
    let size : length new ≡ suc tag = ap length n ∙ length-append read ((tag, y) ∷ []) ∙ (let one : tag + 1 ≡ suc tag = omega arith in one) in
    record {
      so_far = r.so_far ∙ rw (e, t, size, n) (by (read_telegrams (suc tag) more));
      counted = omega (arith, r.counted, ap length e, size);
      in_order = subst AreInOrder (sym n) (push-in_order read y r.in_order);
      few = r.few;
      some = r.some;
    }
  where
    by : (r : Result Group Refusal) → behind read (with_telegrams (length read) (Ok y) r) ≡ behind (read ++ (length read, y) ∷ []) r
    by (Err x) = refl
    by (Ok ys) = ap Ok (sym (append_assoc read ((length read, y) ∷ []) ys))

-- one to eight, as the code tests it
out : (k : ℕ) → (nat_lt k 1 || nat_lt 8 k) ≡ true → (nat_le 1 k && nat_le k 8) ≡ false
out k h = grind arith

sized : (all : List (List Bool)) → length all ≤ 8 → 1 ≤ length all → read_group all ≡ checked_group (read_telegrams 0 all)
unfolding read_group
sized all few some =
    let a : (nat_le 1 (length all) && nat_le (length all) 8) ≡ true = grind (few, some, arith) in
    ap (λ (b : Bool). cond b (checked_group (read_telegrams 0 all)) (Err GroupSize)) a

pub wrong_size : (all : List (List Bool)) (n : ℕ) → n ≡ length all → (nat_lt n 1 || nat_lt 8 n) ≡ true → read_group all ≡ Err GroupSize
unfolding read_group
wrong_size all n e h =
    let a = out (length all) (ap (λ (m : ℕ). nat_lt m 1 || nat_lt 8 m) (sym e) ∙ h) in
    ap (λ (b : Bool). cond b (checked_group (read_telegrams 0 all)) (Err GroupSize)) a

inside : (k : ℕ) → (nat_lt k 1 || nat_lt 8 k) ≡ false → (1 ≤ k) × (k ≤ 8)
inside k h = grind arith

pub right_size : (all : List (List Bool)) (n : ℕ) → n ≡ length all → (nat_lt n 1 || nat_lt 8 n) ≡ false → (1 ≤ length all) × (length all ≤ 8)
right_size all n e h = let i = inside n h in (omega (arith, e, i.0), omega (arith, e, i.1))

-- a telegram that isn't read
pub fails : (all : List (List Bool)) (read : Group) (rest more : List (List Bool)) (b : List Bool) (r : Refusal) → Reading all read rest → rest ≡ b ∷ more → read_telegram b ≡ Err r → read_group all ≡ Err r
unfolding read_telegrams
fails all read rest more b r g e t = let f : read_telegrams 0 all ≡ Err r = g.so_far ∙ rw (e, t) refl in sized all g.few g.some ∙ ap checked_group f

-- all are read
read_to_end : (all : List (List Bool)) (read : Group) (rest : List (List Bool)) → Reading all read rest → rest ≡ [] → read_telegrams 0 all ≡ Ok read
unfolding read_telegrams
read_to_end all read rest g e = g.so_far ∙ rw e (ap Ok (append-nil read))

-- they are those of a group that was read
pub were_read : (all : List (List Bool)) (read : Group) (rest : List (List Bool)) → Reading all read rest → rest ≡ [] → WereRead read
were_read all read rest g e = (all, g.few, read_to_end all read rest g e)

-- a group of some telegrams is what its heads make it
some_group : (ys : Group) → 1 ≤ length ys → group_of ys ≡ checked_group (Ok ys)
some_group [] h = absurd (omega (arith, h))
some_group (y ∷ ys) h = refl

pub read_so : (all : List (List Bool)) (read : Group) (rest : List (List Bool)) → Reading all read rest → rest ≡ [] → read_group all ≡ group_of read
read_so all read rest g e = sized all g.few g.some ∙ ap checked_group (read_to_end all read rest g e) ∙ sym (some_group read (omega (arith, g.some, g.counted, ap length e)))

-- Telegrams that were read, without the bits.

-- what was read of one telegram and of those after it
parts : (n : ℕ) (ys : Group) (r : Result Telegram Refusal) (s : Result Group Refusal) → with_telegrams n r s ≡ Ok ys → (z : Telegram) × (zs : Group) × (r ≡ Ok z) × (s ≡ Ok zs) × (ys ≡ (n, z) ∷ zs)
parts n ys (Ok z) (Ok zs) h = (z, zs, refl, refl, sym (unok h))
parts n ys (Ok z) (Err x) h = absurd cc
parts n ys (Err x) s h = absurd cc

-- the group that is read has the number of telegrams that there were
same_length : (n : ℕ) (bs : List (List Bool)) (ys : Group) → read_telegrams n bs ≡ Ok ys → length ys ≡ length bs
unfolding read_telegrams
same_length n [] ys h = ap length (sym (unok h))
same_length n (b ∷ bs) ys h = let w = parts n ys _ _ h in ap length w.4 ∙ ap suc (same_length (suc n) bs w.1 w.3)

-- one more after them
read_last : (n : ℕ) (bs : List (List Bool)) (ys : Group) (b : List Bool) (y : Telegram) → read_telegrams n bs ≡ Ok ys → read_telegram b ≡ Ok y → read_telegrams n (bs ++ b ∷ []) ≡ Ok (ys ++ (n + length ys, y) ∷ [])
unfolding read_telegrams
read_last n [] ys b y h t =
    let none : n ≡ n + length ys = omega (arith, ap length (unok h)) in
    ap (λ (r : Result Telegram Refusal). with_telegrams n r (Ok [])) t ∙ ap (λ (k : ℕ). Ok ((k, y) ∷ [])) none ∙ ap (λ (l : Group). Ok (l ++ (n + length ys, y) ∷ [])) (unok h)
read_last n (c ∷ bs) ys b y h t =
    let w = parts n ys _ _ h in
    let next : suc n + length w.1 ≡ n + suc (length w.1) = omega arith in
    rw (w.2, read_last (suc n) bs w.1 b y w.3 t) (ap (λ (k : ℕ). Ok ((n, w.0) ∷ (w.1 ++ (k, y) ∷ []))) next ∙ ap (λ (l : Group). Ok (l ++ (n + length l, y) ∷ [])) (sym w.4))

-- each stands at the place that is its tag
in_order_from : (n : ℕ) (bs : List (List Bool)) (ys : Group) → read_telegrams n bs ≡ Ok ys → (ts : List Telegram) × (ys ≡ enumerate_from n ts)
unfolding read_telegrams
in_order_from n [] ys h = ([], sym (unok h))
in_order_from n (b ∷ bs) ys h =
    let w = parts n ys _ _ h in
    let next : suc n ≡ n + 1 = omega arith in
    let rest = in_order_from (n + 1) bs w.1 (ap (λ (k : ℕ). read_telegrams k bs) (sym next) ∙ w.3) in
    (w.0 ∷ rest.0, w.4 ∙ ap (λ (l : Group). (n, w.0) ∷ l) rest.1)

pub in_order_read : (ys : Group) → WereRead ys → AreInOrder ys
in_order_read ys w = in_order_from 0 w.0 ys w.2

pub few_read : (ys : Group) → WereRead ys → length ys ≤ 8
few_read ys w = omega (arith, same_length 0 w.0 ys w.2, w.1)

pub one_read : (ys new : Group) (b : List Bool) (y : Telegram) → WereRead ys → length ys < 8 → read_telegram b ≡ Ok y → new ≡ ys ++ (length ys, y) ∷ [] → WereRead new
one_read ys new b y w h t n =
    let first : 0 + length ys ≡ length ys = omega arith in (
      w.0 ++ b ∷ [],
      omega (arith, length-append w.0 (b ∷ []), same_length 0 w.0 ys w.2, h),
      read_last 0 w.0 ys b y w.2 t ∙ ap (λ (m : ℕ). Ok (ys ++ (m, y) ∷ [])) first ∙ ap Ok (sym n),
    )

-- a group whose heads agree, and whose number isn't reserved
pub stands : (ys : Group) (n : ℕ) → WereRead ys → 1 ≤ length ys → agree_from (identity_of ys) (length ys - 1) 0 ys ≡ true → n ≡ (identity_of ys).number → (n ≡ 16383 → ⊥) → (bs : List (List Bool)) × (read_group bs ≡ Ok ys)
stands ys n w some h i s =
    let other : eqb (identity_of ys).number reserved ≡ false = ne_eqb (identity_of ys).number reserved (λ k. s (i ∙ k)) in
    let size = same_length 0 w.0 ys w.2 in (
      w.0,
      sized w.0 w.1 (omega (arith, size, some)) ∙ ap checked_group w.2 ∙ rw (h, other) refl,
    )

pub read_sound : (ys : Group) → ((bs : List (List Bool)) × (read_group bs ≡ Ok ys)) → GroupRead ys
read_sound ys r = group_read r.0 ys r.1

pub none_read : WereRead []
unfolding read_telegrams
none_read = ([], omega arith, refl)

-- one telegram more, as it is read
pub telegram_added : (ys zs : Group) (b : List Bool) → WereRead ys → with_telegram ys b ≡ Ok zs → WereRead zs
telegram_added ys zs b w e = by (nat_le 8 (length ys)) refl (read_telegram b) refl e
  where
    by : (c : Bool) → nat_le 8 (length ys) ≡ c → (r : Result Telegram Refusal) → read_telegram b ≡ r → cond c (Err GroupSize) (and_then r (λ y. Ok (ys ++ (length ys, y) ∷ []))) ≡ Ok zs → WereRead zs
    by true h r q e = absurd cc
    by false h (Err f) q e = absurd cc
    by false h (Ok y) q e = one_read ys zs b y w (leb-false 8 (length ys) h) q (sym (unok e))

-- a group of telegrams that were read is pushed as what they were read of
pub group_pushed : (plan more : Plan) (ys : Group) → WereRead ys → with_read plan ys ≡ Ok more → (bs : List (List Bool)) × (pushed plan bs ≡ Ok more)
group_pushed plan more [] w e = absurd cc
group_pushed plan more (y ∷ ys) w e =
    let size = same_length 0 w.0 (y ∷ ys) w.2 in
    let some : 1 ≤ length w.0 = omega (arith, size) in
    (w.0, ap (with_group plan) (sized w.0 w.1 some ∙ ap checked_group w.2) ∙ e)
