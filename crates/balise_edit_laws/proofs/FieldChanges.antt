-- What an edit leaves of a packet's fields: those that steer, and with them the country in force at each element.
-- From which variables are set at all: none that steers, the number of a link that is renamed, orientation and direction in a turn.
-- So a link is named under the same country before and after.
use Rattle.std.proofs.Common.{◌≡◌, ℕ, true, false, refl, sym, ap, ◌∙◌}
use Rattle.std.proofs.lemmas.Bool.{true≢false}
use Rattle.balise_rules.specs.declared.tag.Tag.{Tag}
use Rattle.balise_rules.specs.declared.identity.Id.{Id}
use Rattle.balise_rules.specs.declared.variable.Var.{Var}
use Rattle.balise_rules.specs.declared.variable.Var.TheVariants.{NidC, NidBg, QLinkorientation, QDir}
use Rattle.balise_rules.specs.Variables.{steers}
use Rattle.balise_rules.specs.Tagged.{find, each}
use Rattle.balise_rules.specs.Tags.{Key, same_var, same_key}
use Rattle.balise_rules.specs.Forms.{Fields}
use Rattle.balise_rules.specs.Names.{country_at, calls, is_it}
use Rattle.balise_rules.specs.Accepting.{Lawful}
use Rattle.balise_rules.specs.Edits.{Edit, field_after}
use Rattle.balise_rules.specs.declared.tagged_edit.TaggedEdit.TheVariants.{SetVar, Renumber, TurnGroup}
use Rattle.balise_rules.proofs.Tests.{split_on, var_test, key_test}
use Rattle.balise_rules.proofs.Lists.{find-each}
use Rattle.balise_rules.proofs.Cases.{found}
use Rattle.balise_rules.proofs.Untouched.{KeepsFields, field_untouched, country_untouched}

-- a variable that steers isn't one that doesn't
steers_other : (v w : Var) → steers v ≡ false → steers w ≡ true → same_var v w ≡ false
steers_other v w n s = split_on (same_var v w) (λ e. absurd (true≢false (sym s ∙ sym (ap steers (var_test.one v w e)) ∙ n))) (λ e. e)

-- an edit that is lawful sets no variable that steers
pub steering_untouched : (e : Edit) → Lawful e → (v : Var) → steers v ≡ true → KeepsFields e v
unfolding steers
steering_untouched (SetVar g0 t0 p0 v0 k0 new) l v s = steers_other v0 v l.0 s
steering_untouched (Renumber g0 new) l v s = steers_other NidBg v refl s
steering_untouched (TurnGroup g0) l v s = (steers_other QLinkorientation v refl s, steers_other QDir v refl s)
steering_untouched e l v s = tt

-- a field that steers stays
pub steering_stays : (e : Edit) → Lawful e → (i : Id) → (g : Tag) → (t c : ℕ) → (p : Tag) → (fs : Fields) → (key : Key) → (n : ℕ) → steers key.0 ≡ true → field_after e i g t c p fs key n ≡ n
steering_stays e l i g t c p fs key n s = field_untouched e key (steering_untouched e l key.0 s) i g t c p fs n

pub country_kept : (e : Edit) → Lawful e → KeepsFields e NidC
unfolding steers
country_kept e l = steering_untouched e l NidC refl

-- the country in force at an element stays
pub country_stays : (e : Edit) → Lawful e → (i : Id) → (g : Tag) → (t c : ℕ) → (p : Tag) → (k : ℕ) → (fs : Fields) → country_at c k (each (field_after e i g t c p fs) fs) ≡ country_at c k fs
country_stays e l i g t c p k fs = country_untouched e (country_kept e l) i g t c p k fs

-- a turn names as before
pub calls_turned : (g0 : Tag) → (i j : Id) → (g : Tag) → (t c : ℕ) → (p : Tag) → (k : ℕ) → (fs : Fields) → calls c k (each (field_after (TurnGroup g0) i g t c p fs) fs) j ≡ calls c k fs j
calls_turned g0 i j g t c p k fs =
    ap (λ w. is_it w j (find same_key (NidBg, k) (each (field_after (TurnGroup g0) i g t c p fs) fs))) (country_stays (TurnGroup g0) tt i g t c p k fs)
    ∙ ap (is_it (country_at c k fs) j) (find-each key_test (field_after (TurnGroup g0) i g t c p fs) (NidBg, k) fs)
    ∙ found (find same_key (NidBg, k) fs) (λ e. simp e) (λ n e. simp e)
