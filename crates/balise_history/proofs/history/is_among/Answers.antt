use Rattle.std.proofs.Common.{◌≡◌, ◌≤◌, ◌<◌, ◌∙◌, ℕ, List, length, Bool, true, false, nat_lt, get_or, Result, Ok, Err, refl, sym, arith}
use Rattle.std.proofs.lemmas.Bool.Decides.{nat_tests}
use Rattle.std.specs.Prelude.{is_ok}
use Rattle.std.specs.Ordering.{nat_cmp}
use Rattle.std.specs.List.Sorted.{IsBinarySearchResult, IsSearchInRange}
use Rattle.balise_history.specs.Lists.{is_among, Ascends}
use Rattle.balise_history.proofs.Halving.{searched-by, numbers-rise, among-at, among-none}
use Rattle.balise_history.proofs.history.is_among.Goals as goal

found : (n : ℕ) (ns : List ℕ) (r : Result ℕ ℕ) → Ascends ns → IsSearchInRange r (length ns) → IsBinarySearchResult (λ y. nat_cmp y n) ns r → is_ok r ≡ is_among n ns
found n ns (Ok i) up l h = sym (among-at n ns i l (searched-by (λ m. m) ns n (Ok i) h (numbers-rise ns up) 0))
found n ns (Err i) up l h =
    let w = searched-by (λ m. m) ns n (Err i) h (numbers-rise ns up) in
    sym (among-none n ns (λ k d m e. by w.0 w.1 k d m e (nat_lt k i) refl))
  where
    by : ((k d : ℕ) → k < i → get_or ns k d < n) → ((k d : ℕ) → i ≤ k → k < length ns → n < get_or ns k d) → (k d : ℕ) → k < length ns → get_or ns k d ≡ n → (c : Bool) → nat_lt k i ≡ c → ⊥
    by low high k d m e true t = let q : k < i = grind (arith, nat_tests) in let a = low k d q in omega arith
    by low high k d m e false t = let q : i ≤ k = grind (arith, nat_tests) in let a = high k d q m in omega arith

pub returns : goal.returns
returns c = c.is_ok.ensures.value ∙ found c.args.serial c.args.serials.now c.binary_search.result c.requires c.binary_search.ensures.bound c.binary_search.ensures.position
