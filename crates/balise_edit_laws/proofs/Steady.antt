-- A changed value that doesn't steer keeps the form and the numbering of fields.
-- Each form of a packet is steady, that is, only variables that steer say what follows. So a packet stays spelt, whatever accepted edit changes its fields.
use Rattle.std.proofs.Common.{◌≡◌, ℕ, ◌+◌, Bool, true, IsTrue, List, [], ◌∷◌, ◌++◌, refl, sym, ap, subst, ◌∙◌}
use Rattle.balise_rules.specs.declared.variable.Var.{Var}
use Rattle.balise_rules.specs.Variables.{width_of}
use Rattle.balise_rules.specs.Bits.{fits}
use Rattle.balise_rules.specs.Tagged.{each}
use Rattle.balise_rules.specs.Tags.{Key}
use Rattle.balise_rules.specs.Forms.{Form, valued, Fields, Matches, count_of, NumberedFrom, Numbered}
use Rattle.balise_rules.specs.Steady.{IsSteady}
use Rattle.balise_rules.proofs.Tests.{split_on}
use Rattle.balise_rules.proofs.Keys.{count-append}

abbrev pub Keeps : (Var → Bool) → (Key → ℕ → ℕ) → Type 0
Keeps S h = (key : Key) → (n : ℕ) → S key.0 ≡ true → h key n ≡ n

abbrev pub Fitting : (Key → ℕ → ℕ) → Type 0
Fitting h = (key : Key) → (n : ℕ) → IsTrue (fits (width_of key.0) n) → IsTrue (fits (width_of key.0) (h key n))

pub matches-each : (S : Var → Bool) → (form : Form) → (fs : Fields) → (rest : List Bool) → IsSteady S form → (h : Key → ℕ → ℕ) → Keeps S h → Fitting h → Matches form fs rest → Matches form (each h fs) rest
matches-each S form [] rest s h k f m = m
matches-each S (valued v next) (x ∷ xs) rest s h k f m =
    let same_form : next x.1 ≡ next (h x.0 x.1) = split_on (S v) (λ e. ap next (sym (k x.0 x.1 (ap S m.0 ∙ e)))) (λ e. s.0 e x.1 (h x.0 x.1)) in
    let wide : IsTrue (fits (width_of x.0.0) x.1) = subst (λ w. IsTrue (fits (width_of w) x.1)) (sym m.0) m.1 in (
      m.0,
      subst (λ w. IsTrue (fits (width_of w) (h x.0 x.1))) m.0 (f x.0 x.1 wide),
      subst (λ form. Matches form (each h xs) rest) same_form (matches-each S (next x.1) xs rest (s.1 x.1) h k f m.2),
    )
matches-each S form (x ∷ xs) rest s h k f m = m

numbered_from : (h : Key → ℕ → ℕ) → (seen before fs : Fields) → ((v : Var) → count_of v before ≡ count_of v seen) → NumberedFrom seen fs → NumberedFrom before (each h fs)
numbered_from h seen before [] c u = tt
numbered_from h seen before (x ∷ xs) c u = (
  u.0 ∙ sym (c x.0.0),
  numbered_from h (seen ++ x ∷ []) (before ++ (x.0, h x.0 x.1) ∷ []) xs
      (λ v. count-append v before ((x.0, h x.0 x.1) ∷ []) ∙ ap (λ n. n + count_of v (x ∷ [])) (c v) ∙ sym (count-append v seen (x ∷ []))) u.1,
)

pub numbered-each : (h : Key → ℕ → ℕ) → (fs : Fields) → Numbered fs → Numbered (each h fs)
numbered-each h fs u = numbered_from h [] [] fs (λ v. refl) u
