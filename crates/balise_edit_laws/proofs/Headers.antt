-- A header has each of its ten variables once, under the number 0.
-- From its form, which is plain from end to end, and its numbering.
-- So a header's field is found, and no other field has its variable.
use Rattle.std.proofs.Common.{◌≡◌, ℕ, suc, Bool, true, false, cond, List, [], ◌∷◌, Some, refl, sym, ap, ◌∙◌, arith}
use Rattle.balise_rules.specs.declared.variable.Var.{Var}
use Rattle.balise_rules.specs.declared.variable.Var.TheVariants.{QUpdown, MVersion, QMedia, NPig, NTotal, MDup, MMcount, NidC, NidBg, QLink}
use Rattle.balise_rules.specs.Tagged.{find}
use Rattle.balise_rules.specs.Tags.{Key, same_var, same_key, is_of}
use Rattle.balise_rules.specs.Forms.{Form, done, plain, Fields, Matches, count_of, Numbered}
use Rattle.balise_rules.specs.Telegram.{header}
use Rattle.balise_rules.proofs.Tests.{split_on, var_test}
use Rattle.balise_rules.proofs.Keys.{found_counted, first_found}

abbrev pub plains : List Var → Form
plains [] = done
plains (v ∷ vs) = plain v (plains vs)

abbrev pub count_in : Var → List Var → ℕ
count_in v [] = 0
count_in v (w ∷ ws) = cond (same_var v w) (suc (count_in v ws)) (count_in v ws)

abbrev pub header_variables : List Var
header_variables = QUpdown ∷ MVersion ∷ QMedia ∷ NPig ∷ NTotal ∷ MDup ∷ MMcount ∷ NidC ∷ NidBg ∷ QLink ∷ []

plains_count : (v : Var) → (vs : List Var) → (hs : Fields) → (rest : List Bool) → Matches (plains vs) hs rest → count_of v hs ≡ count_in v vs
plains_count v [] [] rest m = refl
plains_count v (w ∷ ws) (f ∷ fs) rest m =
    let ih = plains_count v ws fs rest m.2 in
    let s : same_var v f.0.0 ≡ same_var v w = ap (same_var v) m.0 in
    split_on (same_var v w) (λ e. let d : same_var v f.0.0 ≡ true = s ∙ e in simp (e, d) (ap suc ih)) (λ e. let d : same_var v f.0.0 ≡ false = s ∙ e in simp (e, d) ih)
plains_count v vs fs rest m = absurd m

header_count : (v : Var) → (hs : Fields) → Matches header hs [] → count_of v hs ≡ count_in v header_variables
unfolding header
header_count v hs m = plains_count v header_variables hs [] m

-- a variable of the header has no second field
pub header_once : (v : Var) → (hs : Fields) → Matches header hs [] → Numbered hs → count_in v header_variables ≡ 1 → (key : Key) → (n : ℕ) → find same_key key hs ≡ Some n → is_of v key ≡ true → key ≡ (v, 0)
header_once v hs m u c key n h e =
    let q : v ≡ key.0 = var_test.one v key.0 e in
    let l = found_counted [] hs u key.0 key.1 n h in
    let b = header_count v hs m in
    let w : count_of key.0 hs ≡ count_of v hs = ap (λ x. count_of x hs) (sym q) in
    let z : key.1 ≡ 0 = omega (arith, l, b, c, w) in
    ap (λ (x : Var). (x, key.1)) (sym q) ∙ ap (λ (k : ℕ). (v, k)) z

-- and it has one
pub header_has : (v : Var) → (hs : Fields) → Matches header hs [] → Numbered hs → count_in v header_variables ≡ 1 → (n : ℕ) × (find same_key (v, 0) hs ≡ Some n)
header_has v hs m u c = first_found [] hs u v refl (omega (arith, header_count v hs m, c))
