-- By cases: on what is found, on what was read, and on tests joined by 'and'.
-- From nothing but the cases themselves.
use Rattle.std.proofs.Common.{◌≡◌, Bool, true, false, ◌&&◌, Option, Some, None, Result, Ok, refl, sym, ap, cond, Err}
use Rattle.std.specs.Option.{option_map}
use Rattle.std.proofs.lemmas.Bool.{and_parts}

pub unsome : {A : Type 0} {a b : A} → Some a ≡ Some b → a ≡ b
unsome e = cc

pub unok : {A E : Type 0} → {a b : A} → ◌≡◌ {A = Result A E} (Ok a) (Ok b) → a ≡ b
unok e = cc

-- what is read unless a test holds
pub unless : {A E : Type 0} → (c : Bool) → (r : E) → (q : Result A E) → (y : A) → cond c (Err r) q ≡ Ok y → (c ≡ false) × (q ≡ Ok y)
unless true r q y h = absurd cc
unless false r q y h = (refl, h)

-- by cases on what is found
pub found : {A : Type 0} {P : Type 0} → (o : Option A) → (o ≡ None → P) → ((x : A) → o ≡ Some x → P) → P
found None n s = n refl
found (Some x) n s = s x refl

-- what a change made of something was made of something
pub some_is : {A : Type 0} → (o : Option A) → (h : A → A) → (b : A) → option_map h o ≡ Some b → {P : Type 0} → ((a : A) → o ≡ Some a → b ≡ h a → P) → P
some_is None h b e k = absurd (cc)
some_is (Some a) h b e k = k a refl (sym (unsome e))

-- a change of nothing
pub map_itself : {A : Type 0} → (h : A → A) → ((x : A) → h x ≡ x) → (o : Option A) → o ≡ option_map h o
map_itself h k None = refl
map_itself h k (Some x) = ap Some (sym (k x))

pub parts3 : (a b c : Bool) → (a && (b && c)) ≡ true → (a ≡ true) × (b ≡ true) × (c ≡ true)
parts3 a b c h = let p = and_parts a (b && c) h in let q = and_parts b c p.1 in (p.0, q.0, q.1)

pub parts4 : (a b c d : Bool) → (a && (b && (c && d))) ≡ true → (a ≡ true) × (b ≡ true) × (c ≡ true) × (d ≡ true)
parts4 a b c d h = let p = and_parts a (b && (c && d)) h in let q = parts3 b c d p.1 in (p.0, q.0, q.1, q.2)
