-- Bytes that a store lends: what they hold, and bits put over them.
use Rattle.std.proofs.Common.{◌≡◌, ℕ, ◌+◌, ◌*◌, ◌≤◌, Bool, List, length, take, drop, sym, ap, ◌∙◌, arith}
use Rattle.std.proofs.lemmas.List.{take_at}
use Rattle.balise_rules.specs.Bits.{part, put_at}
use Rattle.balise_bits.specs.Bytes.{flat, IsPacked}
use Rattle.balise_bits.specs.Stored.{Stored, with_items}
use Rattle.balise_bits.proofs.Flat.{length-flat}
use Rattle.balise_bits.proofs.Putting.{length-part, length-put_at}
use Rattle.balise_bits.proofs.Packing.{length-view, packed_put, part-held, view-put}

-- the length of a value is the number of bits that count
pub len_held : (store : Stored) (b : List Bool) → IsPacked store.len store.items → take store.len (flat store.items) ≡ b → store.len ≡ length b
len_held store b p view = sym (length-view store.len store.items p) ∙ ap length view

-- the bytes that were lent are those of a store that shows these bits
pub record IsLent (store : Stored) (b : List Bool) (held : List ℕ) : Type 0 where
  pub packed : IsPacked store.len store.items
  pub view : take store.len (flat store.items) ≡ b
  pub same : held ≡ store.items

module _ {store : Stored} {b : List Bool} {held : List ℕ} (lent : IsLent store b held) where
  size : store.len ≡ length b
  size = len_held store b lent.packed lent.view

  -- the bits that count are in the bytes
  pub room-lent : length b ≤ 8 * length held
  room-lent = omega (arith, size, lent.packed.whole, ap length lent.same)

  pub part-lent : (at w : ℕ) → at + w ≤ length b → part at w (flat held) ≡ part at w b
  part-lent at w h = ap (λ (l : List ℕ). part at w (flat l)) lent.same ∙ part-held store.items b store.len at w lent.packed lent.view h

  -- bits were put over them
  module _ (new : List ℕ) (at : ℕ) (x : List Bool) (within : at + length x ≤ length b) (e : flat new ≡ put_at at x (flat held)) where
    laid : flat (with_items store new).items ≡ put_at at x (flat store.items)
    laid =
        let over : flat new ≡ put_at at x (flat store.items) = e ∙ ap (λ (l : List ℕ). put_at at x (flat l)) lent.same in
        let long : length new ≡ length store.items =
        omega (arith, sym (length-flat new) ∙ ap length over ∙ length-put_at at x (flat store.items) (omega (arith, size, lent.packed.whole, length-flat store.items)) ∙ length-flat store.items) in
        ap flat (take_at new (drop (length new) store.items) (length store.items) long) ∙ over

    pub packed_laid : IsPacked store.len (with_items store new).items
    packed_laid = packed_put store.len at x store.items (with_items store new).items lent.packed (omega (arith, size)) laid

    pub view-laid : take store.len (flat (with_items store new).items) ≡ put_at at x b
    view-laid = view-put store.len at x store.items (with_items store new).items lent.packed (omega (arith, size)) laid ∙ ap (put_at at x) lent.view

-- a part of the bits of a store was put over those of one
module _ {store from : Stored} {b c : List Bool} {held read : List ℕ} (lent : IsLent store b held) (other : IsLent from c read) (new : List ℕ) (to at w : ℕ) (within : at + w ≤ length c) (room : to + w ≤ length b) (e : flat new ≡ put_at to (part at w (flat read)) (flat held)) where
  over : flat new ≡ put_at to (part at w c) (flat held)
  over = e ∙ ap (λ (l : List Bool). put_at to l (flat held)) (part-lent other at w within)

  pub packed_part : IsPacked store.len (with_items store new).items
  packed_part = packed_laid lent new to (part at w c) (omega (arith, length-part at w c within)) over

  pub view-part : take store.len (flat (with_items store new).items) ≡ put_at to (part at w c) b
  view-part = view-laid lent new to (part at w c) (omega (arith, length-part at w c within)) over
