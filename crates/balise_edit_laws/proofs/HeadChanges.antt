-- What an edit leaves of a header: version, country, total, direction and medium stay, whatever is accepted.
-- From which variables of a header are set at all: those that are free, the number of a renumbered group, the place in a turned one.
-- So the change of a telegram's packets goes by the same country before and after.
use Rattle.std.proofs.Common.{◌≡◌, ℕ, false, refl, sym, ap, ◌∙◌, IsTrue}
use Rattle.std.proofs.lemmas.Bool.{true≢false}
use Rattle.balise_rules.specs.declared.tag.Tag.{Tag}
use Rattle.balise_rules.specs.declared.variable.Var.{Var}
use Rattle.balise_rules.specs.declared.variable.Var.TheVariants.{NidBg, NPig, MDup, NidC, NTotal, MVersion}
use Rattle.balise_rules.specs.Variables.{is_free_in_header}
use Rattle.balise_rules.specs.Tagged.{each}
use Rattle.balise_rules.specs.Tags.{same_var}
use Rattle.balise_rules.specs.Forms.{Fields}
use Rattle.balise_rules.specs.Packet.{value}
use Rattle.balise_rules.specs.Accepting.{Lawful}
use Rattle.balise_rules.specs.Edits.{Edit, head_after}
use Rattle.balise_rules.specs.declared.tagged_edit.TaggedEdit.TheVariants.{SetHead, Renumber, TurnGroup}
use Rattle.balise_rules.proofs.Tests.{split_on, var_test}
use Rattle.balise_rules.proofs.Untouched.{KeepsHead, value_untouched}

-- a variable of a header that no edit sets
pub record IsFixed (v : Var) : Type 0 where
  pub not_free : is_free_in_header v ≡ false
  pub not_number : same_var NidBg v ≡ false
  pub not_place : same_var NPig v ≡ false
  pub not_double : same_var MDup v ≡ false

-- a free variable isn't one that isn't
pub free_other : (v w : Var) → IsTrue (is_free_in_header v) → is_free_in_header w ≡ false → same_var v w ≡ false
free_other v w f n = split_on (same_var v w) (λ e. absurd (true≢false (sym f ∙ ap is_free_in_header (var_test.one v w e) ∙ n))) (λ e. e)

-- an edit that is lawful sets no fixed variable
fixed_untouched : (e : Edit) → Lawful e → (v : Var) → IsFixed v → KeepsHead e v
fixed_untouched (SetHead g0 t0 v0 new) l v x = free_other v0 v l.0 x.not_free
fixed_untouched (Renumber g0 new) l v x = x.not_number
fixed_untouched (TurnGroup g0) l v x = (x.not_double, x.not_place)
fixed_untouched e l v x = tt

pub fixed_kept : (e : Edit) → Lawful e → (v : Var) → IsFixed v → (g : Tag) → (t : ℕ) → (hs : Fields) → value v 0 (each (head_after e g t hs) hs) ≡ value v 0 hs
fixed_kept e l v x g t hs = value_untouched e v (fixed_untouched e l v x) g t hs

pub country_fixed : IsFixed NidC
unfolding is_free_in_header
country_fixed = record { not_free = refl; not_number = refl; not_place = refl; not_double = refl }

pub total_fixed : IsFixed NTotal
unfolding is_free_in_header
total_fixed = record { not_free = refl; not_number = refl; not_place = refl; not_double = refl }

pub version_fixed : IsFixed MVersion
unfolding is_free_in_header
version_fixed = record { not_free = refl; not_number = refl; not_place = refl; not_double = refl }
