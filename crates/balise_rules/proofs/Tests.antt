-- Tests of keys: each answers true for a key itself, and for nothing else. Tags, identities, variables, the keys of fields and numbers have such a test.
use Rattle.std.proofs.Common.{◌≡◌, ℕ, Bool, true, false, eqb, Option, Some, None, refl, sym, ap, ◌∙◌, rules}
use Rattle.std.proofs.lemmas.Bool.{and_from, and_parts, eqb-true, eq-eqb, true≢false, false≢true}
use denote.Enum.Bare.{same_true, true_same}
use Rattle.balise_rules.specs.declared.tag.Tag.{Tag}
use Rattle.balise_rules.specs.declared.tag.Tag.TheVariants.{Base, Fresh}
use Rattle.balise_rules.specs.declared.identity.Id.{Id}
use Rattle.balise_rules.specs.declared.variable.Var.{Var}
use Rattle.balise_rules.specs.contracts.variable.Var.{the_type}
use Rattle.balise_rules.specs.Tagged.{same_spot}
use Rattle.balise_rules.specs.Tags.{same_tag, same_id, same_var, Key, same_key}

pub record IsTest {K : Type 0} (same : K → K → Bool) : Type 0 where
  pub itself : (a : K) → same a a ≡ true
  pub one : (a b : K) → same a b ≡ true → a ≡ b

-- by cases on a test
pub split_on : {P : Type 0} → (b : Bool) → (b ≡ true → P) → (b ≡ false → P) → P
split_on true f g = f refl
split_on false f g = g refl

-- by cases on whether two keys are one
pub split_keys : {P : Type 0} {K : Type 0} {same : K → K → Bool} → IsTest same → (a b : K) → (same a b ≡ true → a ≡ b → P) → (same a b ≡ false → P) → P
split_keys {same = same} t a b f g = split_on (same a b) (λ e. f e (t.one a b e)) g

-- what is one with the first of two others isn't one with the second
pub apart_from : {K : Type 0} {same : K → K → Bool} → IsTest same → (a b c : K) → same a b ≡ true → same c a ≡ false → same c b ≡ false
apart_from {same = same} t a b c e n = ap (same c) (sym (t.one a b e)) ∙ n

pub flip_yes : {K : Type 0} {same : K → K → Bool} → IsTest same → (a b : K) → same a b ≡ true → same b a ≡ true
flip_yes {same = same} t a b e = ap (λ x. same b x) (t.one a b e) ∙ t.itself b

pub flip_no : {K : Type 0} {same : K → K → Bool} → IsTest same → (a b : K) → same a b ≡ false → same b a ≡ false
flip_no {same = same} t a b n = split_on (same b a) (λ e. absurd (true≢false (sym (flip_yes t b a e) ∙ n))) (λ e. e)

pub equal_yes : {K : Type 0} {same : K → K → Bool} → IsTest same → (a b : K) → a ≡ b → same a b ≡ true
equal_yes {same = same} t a b e = ap (same a) (sym e) ∙ t.itself a

pub other_no : {K : Type 0} {same : K → K → Bool} → IsTest same → (a b : K) → (a ≡ b → ⊥) → same a b ≡ false
other_no t a b h = split_keys t a b (λ e q. absurd (h q)) (λ e. e)

-- 'meet' is symmetric
pub test-sym : {K : Type 0} {same : K → K → Bool} → IsTest same → (a b : K) → same a b ≡ same b a
test-sym {same = same} t a b = split_on (same a b) (λ e. e ∙ sym (flip_yes t a b e)) (λ e. e ∙ sym (flip_no t a b e))

-- two that are one with a third
pub both_one : {K : Type 0} {same : K → K → Bool} → IsTest same → (a b c : K) → same b a ≡ true → same c a ≡ true → same c b ≡ true
both_one {same = same} t a b c h k = ap (same c) (t.one b a h) ∙ k

pub spot_itself : {K : Type 0} {same : K → K → Bool} → IsTest same → (a : Option K) → same_spot same a a ≡ true
spot_itself t None = refl
spot_itself t (Some a) = t.itself a

pub spot_one : {K : Type 0} {same : K → K → Bool} → IsTest same → (a b : Option K) → same_spot same a b ≡ true → a ≡ b
spot_one t None None e = refl
spot_one t None (Some b) e = cc
spot_one t (Some a) None e = cc
spot_one t (Some a) (Some b) e = ap Some (t.one a b e)

pub flip_spot : {K : Type 0} {same : K → K → Bool} → IsTest same → (a b : Option K) → same_spot same a b ≡ false → same_spot same b a ≡ false
flip_spot t None None n = n
flip_spot t None (Some b) n = refl
flip_spot t (Some a) None n = refl
flip_spot t (Some a) (Some b) n = flip_no t a b n

tag_itself : (a : Tag) → same_tag a a ≡ true
tag_itself (Base n) = eq-eqb n n refl
tag_itself (Fresh n) = eq-eqb n n refl

tag_one : (a b : Tag) → same_tag a b ≡ true → a ≡ b
tag_one (Base m) (Base n) e = ap Base (eqb-true m n e)
tag_one (Fresh m) (Fresh n) e = ap Fresh (eqb-true m n e)
tag_one (Base m) (Fresh n) e = absurd (false≢true e)
tag_one (Fresh m) (Base n) e = absurd (false≢true e)

pub tag_test : IsTest same_tag
tag_test = record { itself = tag_itself; one = tag_one }

pub nat_test : IsTest eqb
nat_test = record { itself = λ n. eq-eqb n n refl; one = λ m n e. eqb-true m n e }

pub var_test : IsTest same_var
var_test = record { itself = λ v. true_same the_type v v refl; one = λ v w e. same_true the_type (search rules) v w e }

key_one : (a b : Key) → same_key a b ≡ true → a ≡ b
key_one (v, j) (w, k) e =
    let h = and_parts (same_var v w) (eqb j k) e in
    ap (λ (x : Var). (x, j)) (var_test.one v w h.0) ∙ ap (λ (i : ℕ). (w, i)) (eqb-true j k h.1)

pub key_test : IsTest same_key
key_test = record { itself = λ a. and_from (same_var a.0 a.0) (eqb a.1 a.1) (var_test.itself a.0) (eq-eqb a.1 a.1 refl); one = key_one }

id_one : (a b : Id) → same_id a b ≡ true → a ≡ b
id_one a b e =
    let h = and_parts (eqb a.country b.country) (eqb a.number b.number) e in
    ap (λ (c : ℕ). record { country = c; number = a.number }) (eqb-true a.country b.country h.0) ∙ ap (λ (n : ℕ). record { country = b.country; number = n }) (eqb-true a.number b.number h.1)

pub id_test : IsTest same_id
id_test = record { itself = λ a. and_from (eqb a.country a.country) (eqb a.number a.number) (eq-eqb a.country a.country refl) (eq-eqb a.number a.number refl); one = id_one }
