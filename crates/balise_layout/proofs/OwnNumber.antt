-- A packet of a layout has the number of that layout.
use Rattle.std.proofs.Common.{◌≡◌, ◌⊎◌, ◌∙◌, inl, inr, ℕ, Bool, List, Option, Some, ap, subst}
use Rattle.std.proofs.lemmas.Bool.{eqb-true}
use Rattle.balise_rules.specs.declared.variable.Var.TheVariants.{NidPacket}
use Rattle.balise_rules.specs.Forms.{Fields, Form, Matches, never}
use Rattle.balise_rules.specs.Packet.{Packet, value}
use Rattle.balise_rules.proofs.Tests.{split_on}
use Rattle.balise_layout.specs.Held.{Holds}
use Rattle.balise_layout.specs.Layouts.{next_of, takes}
use Rattle.balise_layout.proofs.Layouts.{next_other}
use Rattle.balise_layout.proofs.Spelt.{head_of}

taken : (own n : ℕ) (fs : Fields) (raw : List Bool) → Matches (next_of (Some own) n) fs raw → n ≡ own
unfolding takes
taken own n fs raw m = split_on (takes (Some own) n) (λ e. eqb-true n own e) (λ e. let none : Matches never fs raw = subst (λ (f : Form). Matches f fs raw) (next_other (Some own) n e) m in absurd none)

own_number : (own : ℕ) (b : List Bool) (p : Packet) → Holds (next_of (Some own)) b p → value NidPacket 0 p.fields ≡ own
own_number own b p h = let f = head_of (next_of (Some own)) p.fields p.rest h.form h.numbered in ap (value NidPacket 0) f.is ∙ taken own f.number f.more p.rest f.matches

-- one of two layouts
pub number_of_two : (own : Option ℕ) (k l : ℕ) (b : List Bool) (p : Packet) → (own ≡ Some k) ⊎ (own ≡ Some l) → Holds (next_of own) b p → (value NidPacket 0 p.fields ≡ k) ⊎ (value NidPacket 0 p.fields ≡ l)
number_of_two own k l b p (inl e) h = inl (own_number k b p (subst (λ (o : Option ℕ). Holds (next_of o) b p) e h))
number_of_two own k l b p (inr e) h = inr (own_number l b p (subst (λ (o : Option ℕ). Holds (next_of o) b p) e h))
