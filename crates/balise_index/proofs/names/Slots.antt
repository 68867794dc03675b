-- What the index of names says after one of its slots was written, put in or taken out.
use Rattle.std.proofs.Common.{◌≡◌, ◌<◌, ◌∙◌, arith, Bool, true, false, cond, Option, Some, None, refl, sym, ap, subst, List, [], ◌∷◌, length}
use Rattle.std.specs.Prelude.{option_and_then}
use Rattle.std.specs.Option.{IfSome, IsSome}
use Rattle.std.specs.BTreeSet as set
use Rattle.std.proofs.Math.Path.{fun_ext}
use Rattle.std.proofs.lemmas.Bool.{cond_both}
use Rattle.balise_rules.specs.declared.identity.Id.{Id}
use Rattle.balise_rules.proofs.Tests.{split_on}
use Rattle.balise_index.specs.declared.link_place.LinkPlace.{LinkPlace}
use Rattle.balise_index.specs.declared.name_index.Named.{Named}
use Rattle.balise_index.specs.Identities.{is_id}
use Rattle.balise_index.specs.Identities as slots
use Rattle.balise_index.specs.NameIndex.{if_any, in_links, names_in, names_of, some_links, AreFull, IndexOf, NameIndex, Sets}
use Rattle.balise_index.specs.Places.{Links, compare_place, is_place}
use Rattle.balise_index.proofs.identities.Equal.{id_one}
use Rattle.balise_index.proofs.names.Written.{empty_inside, written}

-- what a question about a slot answers under each identity
abbrev asked : {B : Type 0} → (Named → Option B) → NameIndex → IndexOf B
asked f m i = option_and_then f (slots.indexed m i)

-- ---- places, if there are any

inside : (s : Links) (v : LinkPlace) → in_links (some_links s) v ≡ set.contains compare_place s v
inside s v = by s.keys refl
  where
    by : (ks : List LinkPlace) → s.keys ≡ ks → in_links (if_any ks s) v ≡ set.contains compare_place s v
    by [] e = sym (empty_inside compare_place s v e)
    by (k ∷ ks) e = refl

full_of : (o : Option Named) → IfSome (option_and_then names_in o) (λ s. 0 < set.btree_set_len s)
full_of None = tt
full_of (Some n) = by n.links.keys refl
  where
    by : (ks : List LinkPlace) → n.links.keys ≡ ks → IfSome (if_any ks n.links) (λ s. 0 < set.btree_set_len s)
    by [] e = tt
    by (k ∷ ks) e = subst (λ l. 0 < length l) (sym e) (omega arith)

-- no identity has an empty set of names
pub are_full : (m : NameIndex) → AreFull (names_of m)
are_full m r = full_of (slots.indexed m r)

-- the places that a slot holds, if it is there
abbrev has : Option Named → LinkPlace → Bool
has None v = false
has (Some n) v = set.contains compare_place n.links v

-- the index says of a place what its slot holds
held : (o : Option Named) (v : LinkPlace) → in_links (option_and_then names_in o) v ≡ has o v
held None v = refl
held (Some n) v = inside n.links v

-- a slot with other places
abbrev pub with_links : Named → Links → Named
with_links n s = record { owner = n.owner; links = s }

-- ---- one slot is another one, or none

-- a stood under q, and b stands there now; under each other identity the index has what it had
pub record Changed (m n : NameIndex) (q : Id) (a b : Option Named) : Type 0 where
  pub was : a ≡ slots.indexed m q
  pub now : slots.Updates m n q b

-- the index is seen from inside, comes back as it was, and is then written
pub changed : {inner lent m n : NameIndex} {q : Id} {a b : Option Named} → inner ≡ m → lent ≡ inner → a ≡ slots.indexed inner q → slots.Updates lent n q b → Changed m n q a b
changed {inner} {lent} {m} {n} {q} {a} {b} view same was now = record {
  was = subst (λ x. a ≡ slots.indexed x q) view was;
  now = subst (λ x. slots.Updates x n q b) (same ∙ view) now;
}

-- a slot was lent, and written
pub lent : {inner m n : NameIndex} {q : Id} {a : Named} → inner ≡ m → Some a ≡ slots.indexed inner q → (b : Named) → (IsSome (slots.indexed inner q) → slots.Updates inner n q (Some b)) → Changed m n q (Some a) (Some b)
lent view was b now = changed view refl was (now (subst (λ o. IsSome o) was refl))

-- nothing stands in a slot that isn't there
pub absent : {inner m : NameIndex} {q : Id} → inner ≡ m → None ≡ slots.indexed inner q → Changed m m q None None
absent {inner} {m} {q} view was =
    let none : None ≡ slots.indexed m q = subst (λ x. None ≡ slots.indexed x q) view was in
    record {
      was = none;
      now = λ r. cond_both (is_id q r) None (slots.indexed m r) (λ o. slots.indexed m r ≡ o) (λ t. ap (slots.indexed m) (sym (id_one q r t)) ∙ sym none) (λ t. refl);
    }

module _ {m n : NameIndex} {q : Id} {a b : Option Named} (change : Changed m n q a b) where
  -- what a question answers, where it answers the same of both slots
  module _ {B : Type 0} (f : Named → Option B) where
    over : (c : Bool) (x y : Option Named) → option_and_then f (cond c x y) ≡ cond c (option_and_then f x) (option_and_then f y)
    over true x y = refl
    over false x y = refl

    answer : (r : Id) → asked f n r ≡ cond (is_id q r) (option_and_then f b) (asked f m r)
    answer r = ap (option_and_then f) (change.now r) ∙ over (is_id q r) b (slots.indexed m r)

    pub stays : option_and_then f b ≡ option_and_then f a → asked f n ≡ asked f m
    stays e = fun_ext (λ r. split_on (is_id q r)
        (λ t. answer r ∙ ap (λ c. cond c (option_and_then f b) (asked f m r)) t ∙ e ∙ ap (option_and_then f) change.was ∙ ap (asked f m) (id_one q r t))
        (λ t. answer r ∙ ap (λ c. cond c (option_and_then f b) (asked f m r)) t))

  -- one place is put in, or taken out
  pub place_set : (w : LinkPlace) (t : Bool) → ((v : LinkPlace) → has b v ≡ cond (is_place w v) t (has a v)) → Sets (names_of m) (names_of n) q w t
  place_set w t put =
      written compare_place (names_of m) (names_of n) q w t (option_and_then names_in b) (names_of m q) (answer names_in)
      (λ v. held b v ∙ put v ∙ ap (cond (is_place w v) t) (sym (held a v) ∙ ap (λ o. in_links (option_and_then names_in o) v) change.was))
      (λ r e. ap (names_of m) (sym (id_one q r e)))

  -- and then the slot was taken out
  pub taken : {l : NameIndex} {c : Option Named} → slots.Updates n l q c → Changed m l q a c
  taken {l} {c} out = record { was = change.was; now = λ r. out r ∙ ap (cond (is_id q r) c) (change.now r) ∙ again (is_id q r) b c (slots.indexed m r) }
    where
      again : (t : Bool) (x y z : Option Named) → cond t y (cond t x z) ≡ cond t y z
      again true x y z = refl
      again false x y z = refl
