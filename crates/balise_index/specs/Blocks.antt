-- Codes of tags in blocks.
use Rattle.std.specs.Prelude.{◌≡◌, ◌≤◌, ◌<◌, ◌+◌, ℕ, List, [], ◌∷◌, ◌++◌, length, take, vec_capacity}
use Rattle.balise_index.specs.declared.code_list.Block.{Block}

-- the codes of all blocks
abbrev pub flat : List Block → List ℕ
flat [] = []
flat (b ∷ bs) = b.codes.items ++ flat bs

-- each block begins where those before it end, and has room for all codes that a block may have
abbrev pub Laid : ℕ → List Block → Type 0
Laid n [] = Unit {0}
Laid n (b ∷ bs) = (b.start ≡ n) × (length b.codes.items ≤ 512) × (512 ≤ vec_capacity b.codes) × Laid (n + length b.codes.items) bs

-- how many codes stand before a block
abbrev pub before : ℕ → List Block → ℕ
before b bs = length (flat (take b bs))

-- the last block that begins at a place or before it
pub record IsAt (i b : ℕ) (bs : List Block) : Type 0 where
  pub within : b < length bs
  pub begun : before b bs ≤ i
  pub last : b + 1 < length bs → i < before (b + 1) bs

-- the place is in this block, or after its last code
pub record IsIn (i b : ℕ) (bs : List Block) : Type 0 where
  pub within : b < length bs
  pub begun : before b bs ≤ i
  pub end : i ≤ before (b + 1) bs

-- the block isn't full
abbrev pub RoomIn : ℕ → List Block → Type 0
RoomIn b bs = before (b + 1) bs < before b bs + 512

-- a block was cut in two after this number of its codes
pub record IsCut (b cut : ℕ) (old new : List Block) : Type 0 where
  pub laid : Laid 0 new
  pub same : flat new ≡ flat old
  pub more : length new ≡ length old + 1
  pub first : before b new ≡ before b old
  pub second : before (b + 1) new ≡ before b old + cut
  pub third : before (b + 1 + 1) new ≡ before (b + 1) old

-- codes in order, and for how many more there is room
pub record CodeList : Type 0 where
  pub items : List ℕ
  pub room : ℕ
