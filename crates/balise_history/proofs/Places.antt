-- What stands directly before a place, also where one packet is left out.
use Rattle.std.proofs.Common.{◌≡◌, ◌≤◌, ◌∙◌, ℕ, zero, suc, true, false, cond, nat_lt, List, [], ◌∷◌, Option, Some, None, slice_get, option_map, refl, sym, ap, arith}
use Rattle.std.proofs.lemmas.Bool.Decides.{nat_tests}
use Rattle.balise_rules.specs.declared.identity.Id.{Id}
use Rattle.balise_rules.specs.declared.tag.Tag.{Tag}
use Rattle.balise_rules.specs.declared.refusal.Refusal.{Refusal}
use Rattle.balise_rules.specs.declared.refusal.Refusal.TheVariants.{NoSuchPacket}
use Rattle.balise_rules.specs.Refusals.{and_then}
use Rattle.balise_rules.specs.Addresses.{anchor_at, find_packet, FoundPacket, move_to, edit_of, AskMove}
use Rattle.balise_rules.specs.declared.tagged_edit.TaggedEdit.TheVariants.{MovePacket}
use Rattle.balise_rules.specs.Plan.{Plan}
use Rattle.balise_rules.specs.Tagged.{find, without, Distinct}
use Rattle.balise_rules.specs.Tags.{same_tag}
use Rattle.balise_rules.proofs.Cases.{unsome}
use Rattle.balise_rules.proofs.Lists.{without-absent}
use Rattle.balise_rules.proofs.Tests.{split_on, tag_test, split_keys}
use Rattle.std.specs.Prelude.{Result, Ok, ok_or}

module _ {A : Type 0} where
  found-there : (n : ℕ) (xs : List (Tag × A)) (z : Tag × A) → slice_get xs n ≡ Some z → find same_tag z.0 xs ≡ None → ⊥
  found-there n [] z h k = cc
  found-there zero (y ∷ ys) z h k =
      let q : y ≡ z = unsome h in
      let e : same_tag z.0 y.0 ≡ true = ap (λ (w : Tag × A). same_tag z.0 w.0) q ∙ tag_test.itself z.0 in
      let w : Some y.1 ≡ None = simp e at k in cc
  found-there (suc n) (y ∷ ys) z h k = split_on (same_tag z.0 y.0)
      (λ e. let w : Some y.1 ≡ None = simp e at k in cc)
      (λ e. let w : find same_tag z.0 ys ≡ None = simp e at k in found-there n ys z h w)

  -- the item at a place of a list without that at n
  at-without : (i n : ℕ) (xs : List (Tag × A)) (z : Tag × A) → Distinct same_tag xs → slice_get xs n ≡ Some z → slice_get (without same_tag z.0 xs) i ≡ slice_get xs (cond (nat_lt i n) i (suc i))
  at-without i n [] z u h = absurd cc
  at-without i zero (y ∷ ys) z u h =
      let q : y ≡ z = unsome h in
      let e : same_tag z.0 y.0 ≡ true = ap (λ (w : Tag × A). same_tag z.0 w.0) q ∙ tag_test.itself z.0 in
      let m : find same_tag z.0 ys ≡ None = ap (λ (w : Tag × A). find same_tag w.0 ys) (sym q) ∙ u.0 in
      let k : nat_lt i 0 ≡ false = grind (arith, nat_tests) in
      simp (e, k) (ap (λ l. slice_get l i) (without-absent same_tag z.0 ys m))
  at-without i (suc n) (y ∷ ys) z u h =
      let no : same_tag z.0 y.0 ≡ false = split_keys tag_test z.0 y.0 (λ e q. absurd (found-there n ys z h (ap (λ t. find same_tag t ys) q ∙ u.0))) (λ e. e) in
      simp no (by i (λ j. at-without j n ys z u.1 h))
    where
      by : (i : ℕ) → ((j : ℕ) → slice_get (without same_tag z.0 ys) j ≡ slice_get ys (cond (nat_lt j n) j (suc j))) → slice_get (y ∷ without same_tag z.0 ys) i ≡ slice_get (y ∷ ys) (cond (nat_lt i (suc n)) i (suc i))
      by zero r = let k : nat_lt 0 (suc n) ≡ true = grind (arith, nat_tests) in simp k
      by (suc j) r = split_on (nat_lt j n)
          (λ e. let k : nat_lt (suc j) (suc n) ≡ true = grind (arith, nat_tests) in let q = r j in let s : slice_get (without same_tag z.0 ys) j ≡ slice_get ys j = simp e at q in simp k s)
          (λ e. let k : nat_lt (suc j) (suc n) ≡ false = grind (arith, nat_tests) in let q = r j in let s : slice_get (without same_tag z.0 ys) j ≡ slice_get ys (suc j) = simp e at q in simp k s)

  -- what stands before a place that is counted without the item at n
  pub anchor-before : (at n : ℕ) (xs : List (Tag × A)) (z : Tag × A) → Distinct same_tag xs → slice_get xs n ≡ Some z → at ≤ n → anchor_at at (without same_tag z.0 xs) ≡ anchor_at at xs
  anchor-before zero n xs z u h l = refl
  anchor-before (suc i) n xs z u h l =
      let k : nat_lt i n ≡ true = grind (arith, nat_tests) in
      let r = at-without i n xs z u h in
      let s : slice_get (without same_tag z.0 xs) i ≡ slice_get xs i = simp k at r in
      ap (option_map (λ (y : Tag × A). Some y.0)) s

  pub anchor-behind : (at n : ℕ) (xs : List (Tag × A)) (z : Tag × A) → Distinct same_tag xs → slice_get xs n ≡ Some z → suc n ≤ at → anchor_at at (without same_tag z.0 xs) ≡ anchor_at (suc at) xs
  anchor-behind zero n xs z u h l = absurd (omega arith)
  anchor-behind (suc i) n xs z u h l =
      let k : nat_lt i n ≡ false = grind (arith, nat_tests) in
      let r = at-without i n xs z u h in
      let s : slice_get (without same_tag z.0 xs) i ≡ slice_get xs (suc i) = simp k at r in
      ap (option_map (λ (y : Tag × A). Some y.0)) s

-- what moving a packet to a place asks for, from what stands before that place
pub moved : (i : Id) (pig pkt at n : ℕ) (plan : Plan) (f : FoundPacket) (r : Result (Option Tag) Refusal) → find_packet i pig pkt plan ≡ Ok f →
    anchor_at at (without same_tag f.tag f.telegram.packets) ≡ anchor_at n f.telegram.packets → r ≡ ok_or (anchor_at n f.telegram.packets) NoSuchPacket →
    edit_of (AskMove i pig pkt at) plan ≡ and_then r (λ a. Ok (MovePacket f.group f.place f.tag a))
moved i pig pkt at n plan f r e h q =
    ap (λ o. and_then o (move_to at)) e
    ∙ ap (λ o. and_then (ok_or o NoSuchPacket) (λ a. Ok (MovePacket f.group f.place f.tag a))) h
    ∙ ap (λ o. and_then o (λ a. Ok (MovePacket f.group f.place f.tag a))) (sym q)
