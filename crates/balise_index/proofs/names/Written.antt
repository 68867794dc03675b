-- What a write under one identity makes of an index of sets, said for any order of places.
use Rattle.std.proofs.Common.{◌≡◌, ◌∙◌, refl, Bool, true, false, cond, Option, Some, None, sym, ap, ◌&&◌, List, [], ◌∷◌, length, arith}
use Rattle.balise_rules.specs.declared.identity.Id.{Id}
use Rattle.balise_rules.proofs.Tests.{split_on}
use Rattle.balise_index.specs.Identities.{is_id}
use Rattle.balise_index.specs.NameIndex.{IndexOf, indexed}
use Rattle.std.specs.List.{list_any}
use Rattle.std.specs.declared.cmp.Ordering.{Ordering}
use Rattle.std.specs.Ordering.{is_eq}
use Rattle.std.specs.BTreeSet as set

module _ {P : Type 0} (ord : P → P → Ordering) where
  abbrev pub inside : Option (set.BTreeSet P) → P → Bool
  inside None w = false
  inside (Some s) w = set.contains ord s w

  abbrev pub holds : IndexOf (set.BTreeSet P) → Id → P → Bool
  holds m q w = inside (indexed m q) w

  -- the set under q is another one
  pub written : (m n : IndexOf (set.BTreeSet P)) (q : Id) (w : P) (b : Bool) (o old : Option (set.BTreeSet P)) →
      ((r : Id) → indexed n r ≡ cond (is_id q r) o (indexed m r)) →
      ((v : P) → inside o v ≡ cond (is_eq (ord w v)) b (inside old v)) →
      ((r : Id) → is_id q r ≡ true → indexed m r ≡ old) →
      (r : Id) (v : P) → holds n r v ≡ cond (is_id q r && is_eq (ord w v)) b (holds m r v)
  written m n q w b o old g s h r v =
      split_on (is_id q r)
      (λ e. let a : indexed n r ≡ o = g r ∙ ap (λ c. cond c o (indexed m r)) e in
      let d : holds m r v ≡ inside old v = ap (λ z. inside z v) (h r e) in
      ap (λ z. inside z v) a ∙ s v ∙ ap (λ z. cond (is_eq (ord w v)) b z) (sym d) ∙ ap (λ c. cond (c && is_eq (ord w v)) b (holds m r v)) (sym e))
      (λ e. let a : indexed n r ≡ indexed m r = g r ∙ ap (λ c. cond c o (indexed m r)) e in
      ap (λ z. inside z v) a ∙ ap (λ c. cond (c && is_eq (ord w v)) b (holds m r v)) (sym e))

pub empty_inside : {P : Type 0} (ord : P → P → Ordering) (s : set.BTreeSet P) (v : P) → s.keys ≡ [] → set.contains ord s v ≡ false
empty_inside ord s v e = ap (list_any (λ k. is_eq (ord v k))) e

pub no_length : {A : Type 0} (xs : List A) → length xs ≡ 0 → xs ≡ []
no_length [] e = refl
no_length (x ∷ xs) e = absurd (omega (arith, e))
