-- Two numbers of a header that stand one after the other are read in one.
use Rattle.std.proofs.Common.{◌∙◌, ◌≡◌, ◌+◌, ◌*◌, ◌/◌, ◌%◌, ◌^◌, ◌≤◌, ℕ, List, Bool, length, sym, ap}
use Rattle.std.proofs.lemmas.Nat.{div-mul-add, mod-mul-add}
use Rattle.balise_rules.specs.Bits.{num, part}
use Rattle.balise_rules.proofs.Numbers.{num-append}
use Rattle.balise_bits.proofs.Pieces.{num-part_below}
use Rattle.balise_bits.proofs.Putting.{part-append, length-part}

module _ (at m n : ℕ) (b : List Bool) (long : at + m + n ≤ length b) where
  both_are : num (part at (m + n) b) ≡ num (part at m b) * 2 ^ n + num (part (at + m) n b)
  both_are = ap num (sym (part-append at m n b)) ∙ num-append (part at m b) (part (at + m) n b) ∙ ap (λ (k : ℕ). num (part at m b) * 2 ^ k + num (part (at + m) n b)) (length-part (at + m) n b long)

  pub first_is : num (part at (m + n) b) / 2 ^ n ≡ num (part at m b)
  first_is = ap (λ (k : ℕ). k / 2 ^ n) both_are ∙ div-mul-add (num (part at m b)) (2 ^ n) (num (part (at + m) n b)) (num-part_below b (at + m) n long)

  pub second_is : num (part at (m + n) b) % 2 ^ n ≡ num (part (at + m) n b)
  second_is = ap (λ (k : ℕ). k % 2 ^ n) both_are ∙ mod-mul-add (num (part at m b)) (2 ^ n) (num (part (at + m) n b)) (num-part_below b (at + m) n long)
