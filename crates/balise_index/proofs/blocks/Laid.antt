-- Where blocks of codes begin and end.
use Rattle.std.proofs.Common.{◌≡◌, ℕ, zero, suc, ◌+◌, ◌≤◌, ◌<◌, List, [], ◌∷◌, length, take, refl, sym, arith, length-append, slice_index_or, vec_capacity, subst}
use Rattle.balise_index.specs.declared.code_list.Block.{Block}
use Rattle.balise_index.specs.Blocks.{flat, Laid, before}

-- what is laid down of a block
pub record Found (n b c : ℕ) (bs : List Block) (x : Block) : Type 0 where
  pub start : x.start ≡ n + before b bs
  pub next : before c bs ≡ before b bs + length x.codes.items
  pub few : length x.codes.items ≤ 512
  pub room : 512 ≤ vec_capacity x.codes
  pub all : before c bs ≤ length (flat bs)

found_there : (n b : ℕ) (bs : List Block) (d : Block) → Laid n bs → b < length bs → Found n b (suc b) bs (slice_index_or bs b d)
found_there n b [] d laid w = absurd (omega (arith, w))
found_there n zero (x ∷ xs) d laid w = record { start = omega (arith, laid.0); next = omega (arith, length-append x.codes.items []); few = laid.1; room = laid.2; all = omega (arith, length-append x.codes.items [], length-append x.codes.items (flat xs)) }
found_there n (suc b) (x ∷ xs) d laid w =
    let f = found_there (n + length x.codes.items) b xs d laid.3 (omega (arith, w)) in
    let here = length-append x.codes.items (flat (take b xs)) in
    let there = length-append x.codes.items (flat (take (suc b) xs)) in
    let all = length-append x.codes.items (flat xs) in
    record { start = omega (arith, f.start, here); next = omega (arith, f.next, here, there); few = f.few; room = f.room; all = omega (arith, f.all, there, all) }

pub found : (b : ℕ) (bs : List Block) (x : Block) → Laid 0 bs → b < length bs → x ≡ slice_index_or bs b x → Found 0 b (b + 1) bs x
found b bs x laid w e =
    let next : suc b ≡ b + 1 = omega arith in
    subst (λ (c : ℕ). Found 0 b c bs x) next (subst (Found 0 b (suc b) bs) (sym e) (found_there 0 b bs x laid w))

pub before-all : (k : ℕ) (bs : List Block) → before k bs ≤ length (flat bs)
before-all zero bs = omega (arith)
before-all (suc k) [] = omega (arith)
before-all (suc k) (x ∷ xs) = omega (arith, length-append x.codes.items (flat (take k xs)), length-append x.codes.items (flat xs), before-all k xs)

-- as the block before it, with other codes
pub record Like (x y : Block) : Type 0 where
  pub start : y.start ≡ x.start
  pub few : length y.codes.items ≤ 512
  pub room : 512 ≤ vec_capacity y.codes

pub before-whole : (k : ℕ) (bs : List Block) → length bs ≤ k → before k bs ≡ length (flat bs)
before-whole zero [] w = refl
before-whole zero (x ∷ xs) w = absurd (omega (arith, w))
before-whole (suc k) [] w = refl
before-whole (suc k) (x ∷ xs) w = omega (arith, length-append x.codes.items (flat (take k xs)), length-append x.codes.items (flat xs), before-whole k xs (omega (arith, w)))
