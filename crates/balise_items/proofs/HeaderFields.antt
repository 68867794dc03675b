-- The fields of a header, and their values.
use Rattle.std.proofs.Common.{◌≡◌, ◌∙◌, ◌+◌, ℕ, Bool, true, false, List, [], ◌∷◌, ◌++◌, map, None, refl, sym, ap, subst}
use Rattle.balise_rules.specs.declared.variable.Var.{Var}
use Rattle.balise_rules.specs.declared.variable.Var.TheVariants.{LPacket, MVersion}
use Rattle.balise_rules.specs.Variables.{width_of}
use Rattle.balise_rules.specs.Bits.{bits, fits}
use Rattle.balise_rules.specs.Tags.{Key, same_var}
use Rattle.balise_rules.specs.Forms.{Form, Fields, Matches, Numbered, NumberedFrom, count_of, spelling}
use Rattle.balise_rules.specs.Packet.{value}
use Rattle.balise_rules.specs.Telegram.{header, is_balise}
use Rattle.balise_rules.proofs.Tests.{var_test, equal_yes}
use Rattle.balise_codec.specs.Misfits.{misfit_along}
use Rattle.balise_codec.specs.Spelling.{Values, laid, said}
use Rattle.balise_items.specs.Telegrams.{is_balise_given, version_given}
use Rattle.balise_items.proofs.HeaderValues.{HasNoLength, along_end, along_none, header_plains, own_value, plains, ten, ten_no_length}

-- ---- fields that are there

pub version_is : (fs : Fields) → Matches header fs [] → Numbered fs → version_given (map said fs) ≡ value MVersion 0 fs
unfolding header width_of
version_is [] m u = absurd m
version_is (f ∷ []) m u = absurd m.2
version_is (((a, i), n) ∷ ((b, j), d) ∷ fs) m u = rw (u.1.0, m.0, m.2.0) refl

pub balise_is : (fs : Fields) → Matches header fs [] → Numbered fs → is_balise_given (map said fs) ≡ is_balise fs
unfolding header width_of
balise_is [] m u = absurd m
balise_is (f ∷ []) m u = absurd m.2
balise_is (f ∷ g ∷ []) m u = absurd m.2.2
balise_is (((a, i), n) ∷ ((b, j), d) ∷ ((c, k), l) ∷ fs) m u = rw (u.0, u.1.1.0, m.0, m.2.0, m.2.2.0) refl

along_fits : (vars : List Var) (i : ℕ) (fs : Fields) → HasNoLength vars → Matches (plains vars) fs [] → misfit_along (plains vars) i (map said fs) ≡ None
unfolding misfit_along
along_fits [] i [] n m = refl
along_fits [] i (f ∷ fs) n m = absurd m
along_fits (v ∷ vars) i [] n m = absurd m
along_fits (v ∷ vars) i (f ∷ fs) n m =
    let other : same_var v LPacket ≡ false = n.0 in
    let own : same_var f.0.0 v ≡ true = equal_yes var_test f.0.0 v m.0 in
    let fit : fits (width_of v) f.1 ≡ true = m.1 in
    rw (other, own, fit) (along_fits vars (i + 1) fs n.1 m.2)

pub header_none : (fs : Fields) → Matches header fs [] → misfit_along header 0 (map said fs) ≡ None
header_none fs m =
    subst (λ (f : Form). misfit_along f 0 (map said fs) ≡ None) (sym header_plains) (along_fits ten 0 fs ten_no_length (subst (λ (f : Form). Matches f fs []) header_plains m))

pub laid_said : (fs : Fields) → laid (map said fs) ≡ spelling fs
unfolding spelling
laid_said [] = refl
laid_said (f ∷ fs) = ap (λ (x : List Bool). bits (width_of f.0.0) f.1 ++ x) (laid_said fs)

-- ---- fields that are made of values

pub record MadeOf (form : Form) (seen : Fields) (vs : Values) : Type 0 where
  pub fields : Fields
  pub matches : Matches form fields []
  pub numbered : NumberedFrom seen fields
  pub are : map said fields ≡ vs

made : (vars : List Var) (i : ℕ) (seen : Fields) (vs : Values) → HasNoLength vars → misfit_along (plains vars) i vs ≡ None → MadeOf (plains vars) seen vs
made [] i seen [] n h = record { fields = []; matches = tt; numbered = tt; are = refl }
made [] i seen (x ∷ xs) n h = absurd (let k = sym (along_end i (x ∷ xs)) ∙ h in cc)
made (v ∷ vars) i seen [] n h = absurd (let k = (along_none v (plains vars) i [] n.0 h).0 in cc)
made (v ∷ vars) i seen ((u, x) ∷ xs) n h =
    let both = along_none v (plains vars) i ((u, x) ∷ xs) n.0 h in
    let own = own_value v u x xs both.0 in
    let field : Key × ℕ = ((v, count_of v seen), x) in
    let more = made vars (i + 1) (seen ++ field ∷ []) xs n.1 both.1 in
    record { fields = field ∷ more.fields; matches = (refl, own.1, more.matches); numbered = (refl, more.numbered); are = ap (λ (y : Values). (v, x) ∷ y) more.are ∙ ap (λ (w : Var). (w, x) ∷ xs) (sym own.0) }

pub header_made : (vs : Values) → misfit_along header 0 vs ≡ None → MadeOf header [] vs
header_made vs h =
    subst (λ (f : Form). MadeOf f [] vs) (sym header_plains) (made ten 0 [] vs ten_no_length (subst (λ (f : Form). misfit_along f 0 vs ≡ None) header_plains h))
