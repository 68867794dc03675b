-- What holds of each layout: it is steady, and it is spelt where the version knows its number.
use Rattle.std.proofs.Common.{◌≡◌, ◌↔◌, ℕ, Bool, true, false, not, ◌||◌, cond, eqb, ltb, List, [], ◌∷◌, length, take, drop, Option, Some, None, refl, sym, ap, subst, ◌∙◌}
use Rattle.std.proofs.lemmas.Bool.{eqb-true}
use Rattle.balise_rules.specs.declared.variable.Var.TheVariants.{NidPacket, QDir, LPacket}
use Rattle.balise_rules.specs.Variables.{width_of, steers}
use Rattle.balise_rules.specs.Bits.{num}
use Rattle.balise_rules.specs.Forms.{Form, done, never, plain, Fields, Matches, read_form}
use Rattle.balise_rules.specs.Packets.{is_known, known_body, body, packet}
use Rattle.balise_rules.specs.Steady.{IsSteady}
use Rattle.balise_rules.proofs.Tables.{steady_if, known_steady, known_fields}
use Rattle.balise_layout.specs.Held.{headed}
use Rattle.balise_layout.specs.Layouts.{form_of, takes, next_by, next_of, SpeltWhere}
use Rattle.balise_layout.specs.LayoutLaws.{none_known}

-- ---- what follows the first three fields, as the number says

pub next_own : (own : Option ℕ) (n : ℕ) → takes own n ≡ true → next_of own n ≡ form_of own
unfolding next_by
next_own own n e = rw e refl

pub next_other : (own : Option ℕ) (n : ℕ) → takes own n ≡ false → next_of own n ≡ never
unfolding next_by
next_other own n e = rw e refl

-- ---- only a variable that isn't set in place says what comes next

pub next_steady : (own : Option ℕ) (n : ℕ) → IsSteady steers (next_of own n)
unfolding next_by form_of
next_steady None n = steady_if (takes None n) done never tt tt
next_steady (Some own) n = steady_if (takes (Some own) n) (known_body own) never (known_steady own) tt

-- ---- which versions spell it

-- what is of a known packet's form, or kept bit for bit, as a version knows the number
known_there : (version n : ℕ) (fs : Fields) (rest : List Bool) → Matches (known_body n) fs rest → (Matches (body version n) fs rest ↔ (is_known version n ≡ true))
unfolding body
known_there version n fs rest m = at (eqb n 0 || eqb n 255) refl (is_known version n) refl
  where
    none : (gs : Fields) → Matches (known_body n) gs rest → Matches done gs rest → ⊥
    none [] p q = known_fields n rest p
    none (g ∷ gs) p q = q

    at : (a : Bool) → (eqb n 0 || eqb n 255) ≡ a → (b : Bool) → is_known version n ≡ b → (Matches (cond a never (cond b (known_body n) done)) fs rest ↔ (b ≡ true))
    at true e b k = (λ h. absurd h, λ t. let both : true ≡ false = sym t ∙ sym k ∙ none_known version n e in absurd cc)
    at false e true k = (λ _. refl, λ _. m)
    at false e false k = (λ h. absurd (none fs m h), λ t. absurd cc)

kept_there : (version n : ℕ) (fs : Fields) (rest : List Bool) → (eqb n 0 || eqb n 255) ≡ false → Matches done fs rest → (Matches (body version n) fs rest ↔ (is_known version n ≡ false))
unfolding body
kept_there version n fs rest real m = rw real (at (is_known version n) fs m)
  where
    at : (b : Bool) (gs : Fields) → Matches done gs rest → (Matches (cond b (known_body n) done) gs rest ↔ (b ≡ false))
    at true [] h = (λ k. absurd (known_fields n rest k), λ e. absurd cc)
    at true (g ∷ gs) h = absurd h
    at false gs h = (λ _. refl, λ _. h)

pub next_spelt : (own : Option ℕ) → SpeltWhere own
unfolding next_by form_of takes
next_spelt None version n fs rest m = at (eqb n 0 || eqb n 255) refl m
  where
    at : (b : Bool) → (eqb n 0 || eqb n 255) ≡ b → Matches (cond (not b) done never) fs rest → (Matches (body version n) fs rest ↔ (is_known version n ≡ false))
    at true e h = absurd h
    at false e h = kept_there version n fs rest e h
next_spelt (Some own) version n fs rest m = at (eqb n own) refl m
  where
    at : (b : Bool) → eqb n own ≡ b → Matches (cond b (known_body own) never) fs rest → (Matches (body version n) fs rest ↔ (is_known version n ≡ true))
    at true e h = known_there version n fs rest (subst (λ (x : ℕ). Matches (known_body x) fs rest) (sym (eqb-true n own e)) h)
    at false e h = absurd h

-- what follows the first three fields is read by the form for the number alone
pub same_reading : (version n : ℕ) (next : ℕ → Form) (b : List Bool) → num (take 8 b) ≡ n → next n ≡ body version n → read_form (packet version) [] b ≡ read_form (headed next) [] b
unfolding read_form packet width_of
same_reading version n next b e same =
    let own : body version (num (take 8 b)) ≡ next (num (take 8 b)) = ap (body version) e ∙ sym same ∙ ap next (sym e) in
    ap (λ (x : Form). cond (ltb (length b) 8) None (read_form (plain QDir (plain LPacket x)) (((NidPacket, 0), num (take 8 b)) ∷ []) (drop 8 b))) own
