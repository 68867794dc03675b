-- The values of a header, one after another along its form.
use Rattle.std.proofs.Common.{◌≡◌, ◌∙◌, ◌+◌, ◌-◌, ◌<◌, ◌≤◌, ◌^◌, ℕ, zero, suc, Bool, true, false, IsTrue, List, [], ◌∷◌, length, take, drop, get_or, Option, Some, None, refl, sym, ap, subst, arith, length-drop}
use Rattle.std.proofs.lemmas.Bool.{ltb-true}
use Rattle.std.proofs.lemmas.List.{take_all}
use Rattle.balise_rules.specs.declared.variable.Var.{Var}
use Rattle.balise_rules.specs.declared.variable.Var.TheVariants.{NidPacket, LPacket, QUpdown, MVersion, QMedia, NPig, NTotal, MDup, MMcount, NidC, NidBg, QLink}
use Rattle.balise_rules.specs.Variables.{width_of}
use Rattle.balise_rules.specs.Bits.{fits}
use Rattle.balise_rules.specs.Tags.{same_var}
use Rattle.balise_rules.specs.Forms.{Form, done, plain}
use Rattle.balise_rules.specs.Telegram.{header}
use Rattle.balise_rules.proofs.Tests.{var_test}
use Rattle.balise_codec.specs.declared.misfit.Misfit.{Misfit}
use Rattle.balise_codec.specs.declared.misfit.Misfit.TheVariants.{TooWide, NotDue, TooMany}
use Rattle.balise_codec.specs.Misfits.{misfit_along, misfit_of, others, too_many, unless_misfit}
use Rattle.balise_codec.specs.Spelling.{Values, AllFit}
use Rattle.balise_codec.proofs.Written.{fit_cons}
use Rattle.balise_fields.proofs.ZerosAndDigits.{from_here, none_from}

-- variables one after another
abbrev pub plains : List Var → Form
plains [] = done
plains (v ∷ vs) = plain v (plains vs)

-- none of them is L_PACKET
abbrev pub HasNoLength : List Var → Type 0
HasNoLength [] = Unit {0}
HasNoLength (v ∷ vs) = (same_var v LPacket ≡ false) × HasNoLength vs

abbrev pub ten : List Var
ten = QUpdown ∷ MVersion ∷ QMedia ∷ NPig ∷ NTotal ∷ MDup ∷ MMcount ∷ NidC ∷ NidBg ∷ QLink ∷ []

pub header_plains : header ≡ plains ten
unfolding header
header_plains = refl

pub ten_no_length : HasNoLength ten
ten_no_length = (refl, (refl, (refl, (refl, (refl, (refl, (refl, (refl, (refl, (refl, tt))))))))))

no_length_left : (vs : List Var) (i : ℕ) → HasNoLength vs → HasNoLength (drop i vs)
no_length_left vs zero h = h
no_length_left [] (suc i) h = tt
no_length_left (v ∷ vs) (suc i) h = no_length_left vs i h.1

along_on : (v : Var) (f : Form) (i : ℕ) (vs : Values) → same_var v LPacket ≡ false → misfit_of v vs ≡ None → misfit_along (plain v f) i vs ≡ misfit_along f (i + 1) (others vs)
unfolding misfit_along
along_on v f i vs s m = rw (s, m) refl

along_stop : (v : Var) (f : Form) (i : ℕ) (vs : Values) (m : Misfit) → same_var v LPacket ≡ false → misfit_of v vs ≡ Some m → misfit_along (plain v f) i vs ≡ Some (i, m)
unfolding misfit_along
along_stop v f i vs m s e = rw (s, e) refl

pub along_end : (i : ℕ) (vs : Values) → misfit_along done i vs ≡ too_many i vs
unfolding misfit_along
along_end i vs = refl

some_value : (v : Var) (vs : Values) → misfit_of v vs ≡ None → 0 < length vs
some_value v [] e = absurd cc
some_value v (x ∷ xs) e = omega arith

-- the values from a place on, as a slice has them
tail_left : (vs : Values) (i : ℕ) → take (length vs - i) (drop i vs) ≡ drop i vs
tail_left vs i = take_all (length vs - i) (drop i vs) (omega (arith, length-drop i vs))

found : (v : Var) (vs : Values) (i : ℕ) (o : Option Misfit) → misfit_of v (take (length vs - i) (drop i vs)) ≡ o → misfit_of v (drop i vs) ≡ o
found v vs i o e = ap (misfit_of v) (sym (tail_left vs i)) ∙ e

-- the variable at a place
abbrev pub here : ℕ → Var
here i = get_or ten i NidPacket

pub value_within : (v : Var) (vs : Values) (i : ℕ) → misfit_of v (take (length vs - i) (drop i vs)) ≡ None → i + 1 ≤ length vs
value_within v vs i e = omega (arith, some_value v (drop i vs) (found v vs i None e), length-drop i vs)

others_left : (vs : Values) (i : ℕ) → i < length vs → others (drop i vs) ≡ drop (i + 1) vs
others_left vs i h = ap others (from_here vs i (NidPacket, 0) h)

-- the variables from a place on
form_here : (i : ℕ) → i < 10 → plains (drop i ten) ≡ plain (here i) (plains (drop (i + 1) ten))
form_here i h = ap plains (from_here ten i NidPacket h)

length_here : (i : ℕ) → i < 10 → same_var (here i) LPacket ≡ false
length_here i h =
    let left : HasNoLength (here i ∷ drop (i + 1) ten) = subst HasNoLength (from_here ten i NidPacket h) (no_length_left ten i ten_no_length) in
    left.0

-- the variables from a place on are due at the values from there on
abbrev pub HasCome : Values → ℕ → Type 0
HasCome vs i = misfit_along header 0 vs ≡ misfit_along (plains (drop i ten)) i (drop i vs)

pub one_on : (vs : Values) (i : ℕ) → i < 10 → misfit_of (here i) (take (length vs - i) (drop i vs)) ≡ None → HasCome vs i → HasCome vs (i + 1)
one_on vs i h m g =
    g ∙ ap (λ (f : Form). misfit_along f i (drop i vs)) (form_here i h) ∙ along_on (here i) (plains (drop (i + 1) ten)) i (drop i vs) (length_here i h) (found (here i) vs i None m)
    ∙ ap (λ (x : Values). misfit_along (plains (drop (i + 1) ten)) (i + 1) x) (others_left vs i (let w = value_within (here i) vs i m in omega (arith, w)))

pub stops_at : (vs : Values) (i : ℕ) (m : Misfit) → i < 10 → misfit_of (here i) (take (length vs - i) (drop i vs)) ≡ Some m → HasCome vs i → Some (i, m) ≡ misfit_along header 0 vs
stops_at vs i m h s g = sym (g ∙ ap (λ (f : Form). misfit_along f i (drop i vs)) (form_here i h) ∙ along_stop (here i) (plains (drop (i + 1) ten)) i (drop i vs) m (length_here i h) (found (here i) vs i (Some m) s))

many_left : (vs : Values) (i : ℕ) → i < length vs → too_many i (drop i vs) ≡ Some (i, TooMany)
many_left vs i h = ap (too_many i) (from_here vs i (NidPacket, 0) h)

after_all : (vs : Values) (i : ℕ) → i ≡ 10 → HasCome vs i → misfit_along header 0 vs ≡ too_many 10 (drop 10 vs)
after_all vs i e g = let g10 : misfit_along header 0 vs ≡ misfit_along done 10 (drop 10 vs) = subst (HasCome vs) e g in g10 ∙ along_end 10 (drop 10 vs)

pub after_ten : (vs : Values) (i : ℕ) → i ≡ 10 → 10 < length vs → HasCome vs i → Some (10, TooMany) ≡ misfit_along header 0 vs
after_ten vs i e h g = sym (after_all vs i e g ∙ many_left vs 10 h)

pub are_ten : (vs : Values) (i : ℕ) → i ≡ 10 → length vs ≤ 10 → HasCome vs i → None ≡ misfit_along header 0 vs
are_ten vs i e h g = sym (after_all vs i e g ∙ ap (too_many 10) (none_from vs 10 h))

-- ---- values that fit

pub own_value : (v u : Var) (n : ℕ) (xs : Values) → misfit_of v ((u, n) ∷ xs) ≡ None → (u ≡ v) × IsTrue (fits (width_of v) n)
own_value v u n xs e = by (same_var u v) refl (fits (width_of v) n) refl
  where
    no : (m : Misfit) → ◌≡◌ {A = Option Misfit} (Some m) None → ⊥
    no m h = cc

    by : (a : Bool) → same_var u v ≡ a → (b : Bool) → fits (width_of v) n ≡ b → (u ≡ v) × IsTrue (fits (width_of v) n)
    by true p true q = (var_test.one u v p, q)
    by true p false q = absurd (no _ (sym (let h : misfit_of v ((u, n) ∷ xs) ≡ Some TooWide = rw (p, q) refl in h) ∙ e))
    by false p b q = absurd (no _ (sym (let h : misfit_of v ((u, n) ∷ xs) ≡ Some (NotDue v) = rw p refl in h) ∙ e))

fits_alone : (v : Var) (x : Var × ℕ) (xs : Values) → misfit_of v (x ∷ xs) ≡ None → x.1 < 2 ^ width_of x.0
fits_alone v (u, n) xs e =
    let own = own_value v u n xs e in
    subst (λ (w : Var). n < 2 ^ width_of w) (sym own.0) (ltb-true n (2 ^ width_of v) own.1)

pub along_none : (v : Var) (f : Form) (i : ℕ) (vs : Values) → same_var v LPacket ≡ false → misfit_along (plain v f) i vs ≡ None → (misfit_of v vs ≡ None) × (misfit_along f (i + 1) (others vs) ≡ None)
unfolding misfit_along
along_none v f i vs s h = by (misfit_of v vs) refl (sym (let k : misfit_along (plain v f) i vs ≡ unless_misfit (misfit_of v vs) (misfit_along f (i + 1) (others vs)) (λ m. Some (i, m)) = rw s refl in k) ∙ h)
  where
    by : (o : Option Misfit) → misfit_of v vs ≡ o → unless_misfit o (misfit_along f (i + 1) (others vs)) (λ m. Some (i, m)) ≡ None → (misfit_of v vs ≡ None) × (misfit_along f (i + 1) (others vs) ≡ None)
    by None p q = (p, q)
    by (Some m) p q = absurd cc

all_fit : (vars : List Var) (i : ℕ) (vs : Values) → HasNoLength vars → misfit_along (plains vars) i vs ≡ None → AllFit vs
all_fit [] i [] n h = λ k d b. absurd (omega arith)
all_fit [] i (x ∷ xs) n h = absurd (let k = sym (along_end i (x ∷ xs)) ∙ h in cc)
all_fit (v ∷ vars) i [] n h = λ k d b. absurd (omega arith)
all_fit (v ∷ vars) i (x ∷ xs) n h =
    let both = along_none v (plains vars) i (x ∷ xs) n.0 h in
    fit_cons x xs (fits_alone v x xs both.0) (all_fit vars (i + 1) xs n.1 both.1)

pub header_fits : (vs : Values) → misfit_along header 0 vs ≡ None → AllFit vs
header_fits vs h = all_fit ten 0 vs ten_no_length (subst (λ (f : Form). misfit_along f 0 vs ≡ None) header_plains h)
