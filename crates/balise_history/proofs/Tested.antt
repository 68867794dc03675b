-- Entries tested one after another.
use Rattle.std.proofs.Common.{◌≡◌, ◌≢◌, ◌∙◌, Bool, true, false, ◌||◌, cond, List, [], ◌∷◌, ◌++◌, Some, None, ap}
use Rattle.balise_rules.specs.Behind.{independent, serials_behind, stands_behind}
use Rattle.balise_rules.specs.Paths.{Entry, apart}
use Rattle.balise_rules.proofs.Tests.{split_on}
use Rattle.balise_rules.specs.Session.{first_dependent}

pub none-more : (e : Entry) (xs ys : List Entry) → first_dependent e xs ≡ None → first_dependent e ys ≡ None → first_dependent e (xs ++ ys) ≡ None
none-more e [] ys h k = k
none-more e (x ∷ xs) ys h k = by (independent e x) h (λ m. none-more e xs ys m k)
  where
    by : (b : Bool) → cond b (first_dependent e xs) (Some x.0.0) ≡ None → (first_dependent e xs ≡ None → first_dependent e (xs ++ ys) ≡ None) → cond b (first_dependent e (xs ++ ys)) (Some x.0.0) ≡ None
    by true h r = r h
    by false h r = absurd cc

pub independent-more : (e : Entry) (fs : List Entry) (f : Entry) → first_dependent e fs ≡ None → independent e f ≡ true → first_dependent e (fs ++ f ∷ []) ≡ None
independent-more e fs f h i = none-more e fs (f ∷ []) h (ap (λ (b : Bool). cond b None (Some f.0.0)) i)

pub some-behind : (e : Entry) (fs : List Entry) (f : Entry) → apart e f ≡ false → serials_behind e (fs ++ f ∷ []) ≢ []
some-behind e [] f a = λ h. let k : f.0.0 ∷ [] ≡ [] = simp a at h in cc
some-behind e (x ∷ xs) f a = λ h. split_on (apart e x)
    (λ p. let k : serials_behind e (xs ++ f ∷ []) ≡ [] = simp p at h in some-behind e xs f a k)
    (λ p. let k : x.0.0 ∷ serials_behind e (xs ++ f ∷ []) ≡ [] = simp p at h in cc)

pub behind-apart : (e : Entry) (f : Entry) (fs : List Entry) → apart e f ≡ true → serials_behind e (f ∷ fs) ≡ serials_behind e fs
behind-apart e f fs a = simp a

pub behind-next : (e : Entry) (f : Entry) (fs : List Entry) → apart e f ≡ false → serials_behind e (f ∷ fs) ≡ f.0.0 ∷ serials_behind e fs
behind-next e f fs a = simp a

pub dependent-next : (e : Entry) (f : Entry) (fs : List Entry) → independent e f ≡ true → first_dependent e (f ∷ fs) ≡ first_dependent e fs
dependent-next e f fs i = ap (λ (b : Bool). cond b (first_dependent e fs) (Some f.0.0)) i

pub independent-apart : (e : Entry) (f : Entry) → apart e f ≡ true → independent e f ≡ true
independent-apart e f a = ap (λ (b : Bool). b || stands_behind e f) a

pub independent-behind : (e : Entry) (f : Entry) → apart e f ≡ false → stands_behind e f ≡ true → independent e f ≡ true
independent-behind e f a b = ap (λ (x : Bool). x || stands_behind e f) a ∙ b
