-- What a line is, by what a part of it was read as.
use Rattle.std.proofs.Common.{◌≡◌, ◌∙◌, ◌&&◌, ℕ, true, List, [], ◌∷◌, drop, is_some, Option, Some, None, Result, Ok, Err, IfErr, refl, ap}
use Rattle.std.specs.Prelude.{option_map}
use Rattle.balise_rules.specs.declared.refusal.Refusal.{Refusal}
use Rattle.balise_rules.specs.Session.{Ask}
use Rattle.balise_rules.proofs.Cases.{unsome}
use Rattle.balise_text.specs.Words.{Word, and_then, number_of, or_bad, read_as, taken, with_words}
use Rattle.balise_text.specs.Checks.{checked}
use Rattle.balise_text.specs.Kinds.{kind_of}
use Rattle.balise_text.specs.Commands.{command_words, has_digits, is_digits_kind, named_words}
use Rattle.balise_text.specs.JournalLines.{entry_in, entry_words}
use Rattle.balise_text.proofs.DigitChecks.{checked_as}

pub or_bad_as : {A B : Type 0} (f : A → B) (x : Option (Result A Refusal)) → or_bad (option_map (read_as f) x) ≡ read_as f (or_bad x)
or_bad_as f None = refl
or_bad_as f (Some r) = refl

-- an edit's command that is refused
pub named_fault : (name : Word) (ws : List Word) (r : Refusal) → named_words name ws ≡ option_map (read_as Ask) (command_words (kind_of name) ws)
    → or_bad (command_words (kind_of name) ws) ≡ Err r → or_bad (named_words name ws) ≡ Err r
named_fault name ws r n e = ap or_bad n ∙ or_bad_as Ask (command_words (kind_of name) ws) ∙ ap (read_as Ask) e

-- one that is judged
pub named_checked : (name : Word) (ws : List Word) → named_words name ws ≡ option_map (read_as Ask) (command_words (kind_of name) ws)
    → checked (or_bad (named_words name ws)) ≡ checked (or_bad (command_words (kind_of name) ws))
named_checked name ws n = ap (λ x. checked (or_bad x)) n ∙ ap checked (or_bad_as Ask (command_words (kind_of name) ws)) ∙ checked_as Ask (or_bad (command_words (kind_of name) ws))

-- ---- whether memory may be wanted

some_map : {A B : Type 0} (f : A → B) (o : Option A) → is_some (option_map f o) ≡ is_some o
some_map f None = refl
some_map f (Some x) = refl

-- an edit's command whose digits are read
pub named_digits : (name : Word) (ws : List Word) → named_words name ws ≡ option_map (read_as Ask) (command_words (kind_of name) ws)
    → (is_some (command_words (kind_of name) ws) && is_digits_kind (kind_of name)) ≡ true → (is_some (named_words name ws) && is_digits_kind (kind_of name)) ≡ true
named_digits name ws n e = ap (λ x. is_some x && is_digits_kind (kind_of name)) n ∙ ap (λ x. x && is_digits_kind (kind_of name)) (some_map (read_as Ask) (command_words (kind_of name) ws)) ∙ e

drop_taken : {A : Type 0} (says : Word → Option A) (ws us : List Word) (x : A) → taken says ws ≡ Some (x, us) → drop 1 ws ≡ us
drop_taken says [] us x h = absurd cc
drop_taken {A} says (w ∷ ws) us x h = by (says w) h
  where
    by : (o : Option A) → with_words o ws ≡ Some (x, us) → drop 1 (w ∷ ws) ≡ us
    by None h = absurd cc
    by (Some y) h = ap (λ (p : A × List Word). p.1) (unsome h)

pub if_err : {A : Type 0} (r : Result A Refusal) (P Q : Refusal → Type 0) → ((e : Refusal) → P e → Q e) → IfErr r P → IfErr r Q
if_err (Ok x) P Q f h = tt
if_err (Err e) P Q f h = f e h

-- an entry whose digits are read
pub entry_digits : (ws us rest : List Word) (s : ℕ) (name : Word) → taken number_of ws ≡ Some (s, us) → us ≡ name ∷ rest → (is_some (entry_words s (kind_of name) rest) && is_digits_kind (kind_of name)) ≡ true
    → (is_some (entry_in ws) && has_digits (drop 1 ws)) ≡ true
entry_digits ws us rest s name h e d =
    ap (λ o. is_some (and_then o (λ k vs. and_then (taken Some vs) (λ w vs. entry_words k (kind_of w) vs))) && has_digits (drop 1 ws)) h
    ∙ ap (λ vs. is_some (and_then (taken Some us) (λ w vs. entry_words s (kind_of w) vs)) && has_digits vs) (drop_taken number_of ws us s h)
    ∙ ap (λ vs. is_some (and_then (taken Some vs) (λ w vs. entry_words s (kind_of w) vs)) && has_digits vs) e ∙ d
