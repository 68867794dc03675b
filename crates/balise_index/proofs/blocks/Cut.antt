-- A block cut in two.
use Rattle.std.proofs.Common.{◌≡◌, ◌∙◌, ℕ, zero, suc, ◌+◌, ◌≤◌, ◌<◌, List, [], ◌∷◌, ◌++◌, length, take, refl, sym, ap, arith, append_assoc, length-append, slice_index_or, slice_set, vec_capacity, subst, insert}
use Rattle.balise_index.specs.declared.code_list.Block.{Block}
use Rattle.balise_index.specs.Blocks.{flat, Laid, before, IsCut}
use Rattle.balise_index.proofs.blocks.Laid.{found, Like}

record CutAt (n b : ℕ) (bs new : List Block) (y : Block) : Type 0 where
  pub laid : Laid n new
  pub same : flat new ≡ flat bs
  pub more : length new ≡ length bs + 1
  pub first : before b new ≡ before b bs
  pub second : before (suc b) new ≡ before b bs + length y.codes.items
  pub third : before (suc (suc b)) new ≡ before (suc b) bs

cut_there : (n b : ℕ) (bs : List Block) (d y z : Block) → Laid n bs → b < length bs → Like (slice_index_or bs b d) y → y.codes.items ++ z.codes.items ≡ (slice_index_or bs b d).codes.items
    → z.start ≡ n + before b bs + length y.codes.items → length z.codes.items ≤ 512 → 512 ≤ vec_capacity z.codes → CutAt n b bs (insert (slice_set bs b y) (suc b) z) y
cut_there n b [] d y z laid w like e start few room = absurd (omega (arith, w))
cut_there n zero (x ∷ xs) d y z laid w like e start few room =
    let long : length y.codes.items + length z.codes.items ≡ length x.codes.items = sym (length-append y.codes.items z.codes.items) ∙ ap length e in
    let from : n + length x.codes.items ≡ n + length y.codes.items + length z.codes.items = omega (arith, long) in
    record {
      laid = (like.start ∙ laid.0, like.few, like.room, (omega (arith, start), few, room, subst (λ (m : ℕ). Laid m xs) from laid.3));
      same = sym (append_assoc y.codes.items z.codes.items (flat xs)) ∙ ap (λ (l : List ℕ). l ++ flat xs) e;
      more = omega arith;
      first = refl;
      second = omega (arith, length-append y.codes.items []);
      third = omega (arith, long, length-append y.codes.items (z.codes.items ++ []), length-append z.codes.items [], length-append x.codes.items []);
    }
cut_there n (suc b) (x ∷ xs) d y z laid w like e start few room =
    let begin : z.start ≡ n + length x.codes.items + before b xs + length y.codes.items = omega (arith, start, length-append x.codes.items (flat (take b xs))) in
    let new = insert (slice_set xs b y) (suc b) z in
    let c = cut_there (n + length x.codes.items) b xs d y z laid.3 (omega (arith, w)) like e begin few room in
    let front = λ (k : ℕ) (l : List Block). length-append x.codes.items (flat (take k l)) in
    record {
      laid = (laid.0, laid.1, laid.2, c.laid);
      same = ap (λ (l : List ℕ). x.codes.items ++ l) c.same;
      more = omega (arith, c.more);
      first = omega (arith, c.first, front b new, front b xs);
      second = omega (arith, c.second, front (suc b) new, front b xs);
      third = omega (arith, c.third, front (suc (suc b)) new, front (suc b) xs);
    }

record CutNow (b cut : ℕ) (bs : List Block) (k : ℕ) (new : List Block) : Type 0 where
  pub laid : Laid 0 new
  pub same : flat new ≡ flat bs
  pub more : length new ≡ length bs + 1
  pub first : before b new ≡ before b bs
  pub second : before k new ≡ before b bs + cut
  pub third : before (k + 1) new ≡ before k bs

pub cut_is : (b cut : ℕ) (bs : List Block) (x y z : Block) (w : b < length bs) → x ≡ slice_index_or bs b x → Laid 0 bs → Like x y → y.codes.items ++ z.codes.items ≡ x.codes.items
    → length y.codes.items ≡ cut → z.start ≡ x.start + cut → length z.codes.items ≤ 512 → 512 ≤ vec_capacity z.codes → IsCut b cut bs (insert (slice_set bs b y) (b + 1) z)
cut_is b cut bs x y z w at laid like e long start few room =
    let f = found b bs x laid w at in
    let next : suc b ≡ b + 1 = omega arith in
    let c = cut_there 0 b bs x y z laid w (subst (λ v. Like v y) at like) (e ∙ ap (λ v. v.codes.items) at) (omega (arith, start, f.start, long)) few room in
    let now : CutNow b cut bs (suc b) (insert (slice_set bs b y) (suc b) z) = record {
      laid = c.laid;
      same = c.same;
      more = c.more;
      first = c.first;
      second = omega (arith, c.second, long);
      third = ap (λ (j : ℕ). before j (insert (slice_set bs b y) (suc b) z)) (let t : suc b + 1 ≡ suc (suc b) = omega arith in t) ∙ c.third;
    } in
    let all : CutNow b cut bs (b + 1) (insert (slice_set bs b y) (b + 1) z) = subst (λ (j : ℕ). CutNow b cut bs j (insert (slice_set bs b y) j z)) next now in
    record { laid = all.laid; same = all.same; more = all.more; first = all.first; second = all.second; third = all.third }
