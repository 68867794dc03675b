-- Reading by a form finds fields of that form, each under its number, and their spelling; and what is spelt is found again.
-- From the laws of numbers, by induction on the form.
use Rattle.std.proofs.Common.{◌≡◌, ℕ, ◌^◌, ◌<◌, ◌≤◌, Bool, true, false, cond, ltb, List, [], ◌∷◌, ◌++◌, length, take, drop, Option, Some, None, refl, sym, ap, subst, ◌∙◌, append_assoc, arith, length-append}
use Rattle.std.proofs.lemmas.Bool.{ltb-false, ltb-true, le-ltb, lt-ltb}
use Rattle.std.proofs.lemmas.List.{take_at, drop_at, take-append-drop, length-take, append-nil}
use Rattle.balise_rules.specs.declared.variable.Var.{Var}
use Rattle.balise_rules.specs.Variables.{width_of}
use Rattle.balise_rules.specs.Bits.{num, bits}
use Rattle.balise_rules.specs.Tags.{Key}
use Rattle.balise_rules.specs.Forms.{Form, done, shut, never, valued, Fields, Matches, NumberedFrom, count_of, spelling, read_form}
use Rattle.balise_rules.proofs.Numbers.{length-bits, num-bits_fit, bits-num, num_below}
use Rattle.balise_rules.proofs.Cases.{unsome}

-- what reading finds: the fields after those seen before, and the bits after them
pub record Found (form : Form) (seen : Fields) (b : List Bool) (r : Fields × List Bool) : Type 0 where
  pub fields : Fields
  pub all : r.0 ≡ seen ++ fields
  pub matched : Matches form fields r.1
  pub numbered : NumberedFrom seen fields
  pub spelt : b ≡ spelling fields ++ r.1

-- a reading that isn't given up goes on
not_given_up : (b : Bool) (r : Option (Fields × List Bool)) (y : Fields × List Bool) → cond b None r ≡ Some y → (b ≡ false) × (r ≡ Some y)
not_given_up true r y e = absurd cc
not_given_up false r y e = (refl, e)

spelling-nil : (rest : List Bool) → rest ≡ spelling [] ++ rest
unfolding spelling
spelling-nil rest = refl

spelling-cons : (f : Key × ℕ) (fs : Fields) (rest : List Bool) → spelling (f ∷ fs) ++ rest ≡ bits (width_of f.0.0) f.1 ++ (spelling fs ++ rest)
unfolding spelling
spelling-cons f fs rest = append_assoc (bits (width_of f.0.0) f.1) (spelling fs) rest

pub read_found : (form : Form) (seen : Fields) (b : List Bool) (r : Fields × List Bool) → read_form form seen b ≡ Some r → Found form seen b r
unfolding read_form
read_found done seen b r e =
    let is : (seen, b) ≡ r = unsome e in
    record { fields = []; all = sym (ap (λ (x : Fields × List Bool). x.0) is) ∙ sym (append-nil seen); matched = tt; numbered = tt; spelt = ap (λ (x : Fields × List Bool). x.1) is ∙ spelling-nil r.1 }
read_found shut seen [] r e =
    let is : (seen, []) ≡ r = unsome e in
    record { fields = []; all = sym (ap (λ (x : Fields × List Bool). x.0) is) ∙ sym (append-nil seen); matched = sym (ap (λ (x : Fields × List Bool). x.1) is); numbered = tt; spelt = ap (λ (x : Fields × List Bool). x.1) is ∙ spelling-nil r.1 }
read_found shut seen (b ∷ bs) r e = absurd cc
read_found never seen b r e = absurd cc
read_found (valued v next) seen b r e =
    let w = width_of v in
    let f : Key × ℕ = ((v, count_of v seen), num (take w b)) in
    let g = not_given_up (ltb (length b) w) (read_form (next f.1) (seen ++ f ∷ []) (drop w b)) r e in
    let long : w ≤ length b = ltb-false _ _ g.0 in
    let size : length (take w b) ≡ w = omega (arith, length-take w b) in
    let more = read_found (next f.1) (seen ++ f ∷ []) (drop w b) r g.1 in
    let own : bits w f.1 ≡ take w b = subst (λ (k : ℕ). bits k f.1 ≡ take w b) size (bits-num (take w b)) in
    let small : f.1 < 2 ^ w = subst (λ (k : ℕ). f.1 < 2 ^ k) size (num_below (take w b)) in
    record {
      fields = f ∷ more.fields;
      all = more.all ∙ append_assoc seen (f ∷ []) more.fields;
      matched = (refl, lt-ltb f.1 (2 ^ w) small, more.matched);
      numbered = (refl, more.numbered);
      spelt = sym (take-append-drop w b) ∙ ap (λ (x : List Bool). take w b ++ x) more.spelt ∙ ap (λ (x : List Bool). x ++ (spelling more.fields ++ r.1)) (sym own) ∙ sym (spelling-cons f more.fields r.1);
    }

pub read_again : (form : Form) (seen fs : Fields) (rest : List Bool) → Matches form fs rest → NumberedFrom seen fs → read_form form seen (spelling fs ++ rest) ≡ Some (seen ++ fs, rest)
unfolding read_form
read_again done seen [] rest m u = ap (λ (x : List Bool). Some (seen, x)) (sym (spelling-nil rest)) ∙ ap (λ (x : Fields). Some (x, rest)) (sym (append-nil seen))
read_again done seen (f ∷ fs) rest m u = absurd m
read_again shut seen [] rest m u =
    let nil : spelling [] ++ rest ≡ [] = sym (spelling-nil rest) ∙ m in
    rw (nil, append-nil seen, m) refl
read_again shut seen (f ∷ fs) rest m u = absurd m
read_again never seen fs rest m u = absurd m
read_again (valued v next) seen [] rest m u = absurd m
read_again (valued v next) seen (((v', k), n) ∷ fs) rest m u =
    let w = width_of v in
    let more = spelling fs ++ rest in
    let e : v' ≡ v = m.0 in
    let f : Key × ℕ = ((v, count_of v seen), n) in
    let key : ◌≡◌ {A = Key × ℕ} ((v', k), n) f = ap (λ (i : ℕ). ((v', i), n)) u.0 ∙ ap (λ (x : Var). ((x, count_of x seen), n)) e in
    let whole : spelling (((v', k), n) ∷ fs) ++ rest ≡ bits w n ++ more = spelling-cons ((v', k), n) fs rest ∙ ap (λ (x : Var). bits (width_of x) n ++ more) e in
    let numbered : NumberedFrom (seen ++ f ∷ []) fs = subst (λ (x : Key × ℕ). NumberedFrom (seen ++ x ∷ []) fs) key u.1 in
    let long : ltb (length (bits w n ++ more)) w ≡ false = le-ltb _ _ (omega (arith, length-append (bits w n) more, length-bits w n)) in
    let value = ap num (take_at (bits w n) more w (length-bits w n)) ∙ num-bits_fit w n (ltb-true n (2 ^ w) m.1) in
    let left = drop_at (bits w n) more w (length-bits w n) in
    rw (whole, long, value, left) (read_again (next n) (seen ++ f ∷ []) fs rest m.2 numbered ∙ ap (λ (x : Fields). Some (x, rest)) (append_assoc seen (f ∷ []) fs ∙ ap (λ (x : Key × ℕ). seen ++ x ∷ fs) (sym key)))
