-- Where blocks begin after one of them grew or shrank.
use Rattle.std.proofs.Common.{◌≡◌, ◌∙◌, ℕ, zero, suc, ◌+◌, ◌-◌, ◌≤◌, ◌<◌, List, [], ◌∷◌, length, take, sym, ap, arith, length-append, slice_index_or, slice_set, vec_capacity, subst, insert, remove}
use Rattle.balise_index.specs.declared.code_list.Block.{Block}
use Rattle.balise_index.specs.Blocks.{flat, Laid, before}
use Rattle.balise_index.proofs.blocks.Flat.{flat-insert, flat-same, flat-remove}
use Rattle.balise_index.proofs.blocks.Laid.{found, Like}

-- O says where the next block begins as it is written, and where it does
module _ (O : ℕ → ℕ → Type 0) (along : (m n c : ℕ) → O m n → O (m + c) (n + c)) where
  -- the first k blocks are laid down, the others are as they were
  abbrev pub Moved : ℕ → ℕ → List Block → Type 0
  Moved n zero bs = (m : ℕ) × O m n × Laid m bs
  Moved n (suc k) [] = Unit {0}
  Moved n (suc k) (b ∷ bs) = (b.start ≡ n) × (length b.codes.items ≤ 512) × (512 ≤ vec_capacity b.codes) × Moved (n + length b.codes.items) k bs

  -- what one changed block leaves
  pub begun : (n b : ℕ) (bs : List Block) (d y : Block) → Laid n bs → b < length bs → Like (slice_index_or bs b d) y → O (length (slice_index_or bs b d).codes.items) (length y.codes.items) → Moved n (suc b) (slice_set bs b y)
  begun n b [] d y laid w like o = absurd (omega (arith, w))
  begun n zero (x ∷ xs) d y laid w like o =
      let from : n + length x.codes.items ≡ length x.codes.items + n = omega arith in
      let to : n + length y.codes.items ≡ length y.codes.items + n = omega arith in
      (like.start ∙ laid.0, like.few, like.room, (n + length x.codes.items, subst (λ (m : ℕ). O m (n + length y.codes.items)) (sym from) (subst (O (length x.codes.items + n)) (sym to) (along (length x.codes.items) (length y.codes.items) n o)), laid.3))
  begun n (suc b) (x ∷ xs) d y laid w like o = (laid.0, laid.1, laid.2, begun (n + length x.codes.items) b xs d y laid.3 (omega (arith, w)) like o)

  -- where the next block says that it begins
  pub says : (n k : ℕ) (bs : List Block) (d : Block) → Moved n k bs → k < length bs → O (slice_index_or bs k d).start (n + before k bs)
  says n k [] d h w = absurd (omega (arith, w))
  says n zero (x ∷ xs) d h w =
      let none : n ≡ n + 0 = omega arith in
      subst (λ (m : ℕ). O m (n + 0)) (sym h.2.0) (subst (O h.0) none h.1)
  says n (suc k) (x ∷ xs) d h w =
      let far : n + length x.codes.items + before k xs ≡ n + before (suc k) (x ∷ xs) = omega (arith, length-append x.codes.items (flat (take k xs))) in
      subst (O (slice_index_or xs k d).start) far (says (n + length x.codes.items) k xs d h.3 (omega (arith, w)))

  pub one_more : (n k : ℕ) (bs : List Block) (d y : Block) → Moved n k bs → k < length bs → y.start ≡ n + before k bs → y.codes ≡ (slice_index_or bs k d).codes → Moved n (suc k) (slice_set bs k y)
  one_more n k [] d y h w s t = absurd (omega (arith, w))
  one_more n zero (x ∷ xs) d y h w s t =
      let same : length y.codes.items ≡ length x.codes.items = ap (λ v. length v.items) t in
      (omega (arith, s), omega (arith, same, h.2.1), subst (λ v. 512 ≤ vec_capacity v) (sym t) h.2.2, (h.0 + length x.codes.items, subst (λ (c : ℕ). O (h.0 + length x.codes.items) (n + c)) (sym same) (along h.0 n (length x.codes.items) h.1), h.2.3))
  one_more n (suc k) (x ∷ xs) d y h w s t =
      let far : y.start ≡ n + length x.codes.items + before k xs = omega (arith, s, length-append x.codes.items (flat (take k xs))) in
      (h.0, h.1, h.2, one_more (n + length x.codes.items) k xs d y h.3 (omega (arith, w)) far t)

  pub moved_all : (n k : ℕ) (bs : List Block) → Moved n k bs → length bs ≤ k → Laid n bs
  moved_all n zero [] h w = tt
  moved_all n zero (x ∷ xs) h w = absurd (omega (arith, w))
  moved_all n (suc k) [] h w = tt
  moved_all n (suc k) (x ∷ xs) h w = (h.0, h.1, h.2, moved_all (n + length x.codes.items) k xs h.3 (omega (arith, w)))

abbrev pub Up : ℕ → ℕ → Type 0
Up m n = n ≡ m + 1

abbrev pub Down : ℕ → ℕ → Type 0
Down m n = m ≡ n + 1

pub up-along : (m n c : ℕ) → Up m n → Up (m + c) (n + c)
up-along m n c e = omega (arith, e)

pub down-along : (m n c : ℕ) → Down m n → Down (m + c) (n + c)
down-along m n c e = omega (arith, e)

abbrev pub Raised : ℕ → List Block → Type 0
Raised k bs = Moved Up up-along 0 k bs

abbrev pub Lowered : ℕ → List Block → Type 0
Lowered k bs = Moved Down down-along 0 k bs

module _ (b : ℕ) (bs : List Block) (x : Block) (w : b < length bs) (at : x ≡ slice_index_or bs b x) where
  -- what stands there is written anew
  module _ (y : Block) (laid : Laid 0 bs) (like : Like x y) where
    pub raised_first : length y.codes.items ≡ length x.codes.items + 1 → Raised (b + 1) (slice_set bs b y)
    raised_first more =
        let next : suc b ≡ b + 1 = omega arith in
        subst (λ (k : ℕ). Raised k (slice_set bs b y)) next
        (begun Up up-along 0 b bs x y laid w (subst (λ z. Like z y) at like) (subst (λ z. Up (length z.codes.items) (length y.codes.items)) at more))

    pub lowered_first : length x.codes.items ≡ length y.codes.items + 1 → Lowered (b + 1) (slice_set bs b y)
    lowered_first less =
        let next : suc b ≡ b + 1 = omega arith in
        subst (λ (k : ℕ). Lowered k (slice_set bs b y)) next
        (begun Down down-along 0 b bs x y laid w (subst (λ z. Like z y) at like) (subst (λ z. Down (length z.codes.items) (length y.codes.items)) at less))

    pub put_first : (i : ℕ) (g : ℕ) → before b bs ≤ i → i ≤ before (b + 1) bs → y.codes.items ≡ insert x.codes.items (i - x.start) g → flat (slice_set bs b y) ≡ insert (flat bs) i g
    put_first i g low high e =
        let f = found b bs x laid w at in
        let place : before b bs + (i - x.start) ≡ i = omega (arith, f.start, low) in
        flat-insert b (i - x.start) bs x y g w (subst (λ z. i - x.start ≤ length z.codes.items) at (omega (arith, f.start, f.next, high, low))) (e ∙ ap (λ z. insert z.codes.items (i - x.start) g) at)
        ∙ ap (λ (k : ℕ). insert (flat bs) k g) place

    pub taken_first : (i : ℕ) → before b bs ≤ i → i < before (b + 1) bs → y.codes.items ≡ remove x.codes.items (i - x.start) → flat (slice_set bs b y) ≡ remove (flat bs) i
    taken_first i low high e =
        let f = found b bs x laid w at in
        let place : before b bs + (i - x.start) ≡ i = omega (arith, f.start, low) in
        flat-remove b (i - x.start) bs x y w (subst (λ z. i - x.start < length z.codes.items) at (omega (arith, f.start, f.next, high, low))) (e ∙ ap (λ z. remove z.codes.items (i - x.start)) at)
        ∙ ap (λ (k : ℕ). remove (flat bs) k) place

  -- the next one is moved
  pub same_next : (n : ℕ) → flat (slice_set bs b (record { start = n; codes = x.codes })) ≡ flat bs
  same_next n = flat-same b bs x (record { start = n; codes = x.codes }) w (ap (λ z. z.codes.items) at)

  pub raised_start : Raised b bs → before b bs ≡ x.start + 1
  raised_start h = let e : Up x.start (0 + before b bs) = subst (λ z. Up z.start (0 + before b bs)) (sym at) (says Up up-along 0 b bs x h w) in omega (arith, e)

  pub lowered_start : Lowered b bs → x.start ≡ before b bs + 1
  lowered_start h = let e : Down x.start (0 + before b bs) = subst (λ z. Down z.start (0 + before b bs)) (sym at) (says Down down-along 0 b bs x h w) in omega (arith, e)

  pub raised_next : Raised b bs → Raised (b + 1) (slice_set bs b (record { start = x.start + 1; codes = x.codes }))
  raised_next h =
      let y : Block = record { start = x.start + 1; codes = x.codes } in
      let next : suc b ≡ b + 1 = omega arith in
      let to : x.start + 1 ≡ 0 + before b bs = omega (arith, raised_start h) in
      subst (λ (k : ℕ). Raised k (slice_set bs b y)) next (one_more Up up-along 0 b bs x y h w to (ap (λ z. z.codes) at))

  pub lowered_next : Lowered b bs → Lowered (b + 1) (slice_set bs b (record { start = x.start - 1; codes = x.codes }))
  lowered_next h =
      let y : Block = record { start = x.start - 1; codes = x.codes } in
      let next : suc b ≡ b + 1 = omega arith in
      let to : x.start - 1 ≡ 0 + before b bs = omega (arith, lowered_start h) in
      subst (λ (k : ℕ). Lowered k (slice_set bs b y)) next (one_more Down down-along 0 b bs x y h w to (ap (λ z. z.codes) at))

pub raised_all : (k : ℕ) (bs : List Block) → Raised k bs → length bs ≤ k → Laid 0 bs
raised_all k bs h w = moved_all Up up-along 0 k bs h w

pub lowered_all : (k : ℕ) (bs : List Block) → Lowered k bs → length bs ≤ k → Laid 0 bs
lowered_all k bs h w = moved_all Down down-along 0 k bs h w
