-- Only packets 5 and 136 have elements: what is of another form names nothing.
use Rattle.std.proofs.Common.{◌≡◌, ℕ, zero, suc, Bool, true, false, ◌&&◌, ◌||◌, cond, eqb, List, [], ◌∷◌, Option, Some, None, refl, sym, ap, subst, ◌∙◌}
use Rattle.std.proofs.lemmas.Bool.{eqb-true}
use Rattle.balise_rules.specs.declared.variable.Var.TheVariants.{NidBg}
use Rattle.balise_rules.specs.Tags.{same_var, is_of}
use Rattle.balise_rules.specs.Forms.{Form, done, shut, never, valued, repeat, Fields, Matches}
use Rattle.balise_rules.specs.Packets.{is_known, major, counted, gradient, gradients, difference, section, speeds, level, levels, restriction, revocation, known_body}
use Rattle.balise_rules.specs.Packet.{Packet}
use Rattle.balise_rules.specs.Names.{links_among, links_of}
use Rattle.balise_layout.specs.Held.{headed, Holds}
use Rattle.balise_rules.proofs.Tests.{split_on}
use Rattle.balise_layout.specs.Layouts.{form_of, layout_in, takes, next_by, next_of, Nameless}

-- ---- what forms are made of

nameless_if : (b : Bool) (x y : Form) → Nameless x → Nameless y → Nameless (cond b x y)
nameless_if true x y s t = s
nameless_if false x y s t = t

-- a part that is nameless before each nameless rest
abbrev NamelessPart : (Form → Form) → Type 0
NamelessPart part = (rest : Form) → Nameless rest → Nameless (part rest)

nameless_repeat : (part : Form → Form) → NamelessPart part → (n : ℕ) → NamelessPart (repeat n part)
nameless_repeat part h zero rest s = s
nameless_repeat part h (suc n) rest s = h (repeat n part rest) (nameless_repeat part h n rest s)

nameless_counted : (part : Form → Form) → NamelessPart part → NamelessPart (counted part)
unfolding counted
nameless_counted part h rest s = (refl, λ n. nameless_repeat part h n rest s)

-- ---- the packets without elements

nameless_gradient : NamelessPart gradient
unfolding gradient
nameless_gradient rest s = (refl, λ _. (refl, λ _. (refl, λ _. s)))

nameless_difference : NamelessPart difference
unfolding difference
nameless_difference rest s = (refl, λ q. nameless_if (eqb q 0) _ _ (refl, λ _. (refl, λ _. s)) (nameless_if (eqb q 3) never _ tt (refl, λ _. (refl, λ _. s))))

nameless_section : NamelessPart section
unfolding section
nameless_section rest s = (refl, λ _. (refl, λ _. (refl, λ _. nameless_counted difference nameless_difference rest s)))

nameless_level : NamelessPart level
unfolding level
nameless_level rest s = (refl, λ m. nameless_if (eqb m 1) _ _ (refl, λ _. (refl, λ _. s)) (refl, λ _. s))

nameless_gradients : NamelessPart gradients
unfolding gradients
nameless_gradients rest s = (refl, λ _. nameless_gradient _ (nameless_counted gradient nameless_gradient rest s))

nameless_speeds : NamelessPart speeds
unfolding speeds
nameless_speeds rest s = (refl, λ _. nameless_section _ (nameless_counted section nameless_section rest s))

nameless_levels : NamelessPart levels
unfolding levels
nameless_levels rest s = (refl, λ _. (refl, λ _. nameless_level _ (nameless_counted level nameless_level rest s)))

nameless_restriction : NamelessPart restriction
unfolding restriction
nameless_restriction rest s = (refl, λ _. (refl, λ _. (refl, λ _. (refl, λ _. (refl, λ _. (refl, λ _. s))))))

nameless_revocation : NamelessPart revocation
unfolding revocation
nameless_revocation rest s = (refl, λ _. s)

-- whatever its kind, but of packets 5 and 136
pub nameless_21 : Nameless (form_of (Some 21))
unfolding form_of known_body
nameless_21 = nameless_gradients shut tt

pub nameless_27 : Nameless (form_of (Some 27))
unfolding form_of known_body
nameless_27 = nameless_speeds shut tt

pub nameless_41 : Nameless (form_of (Some 41))
unfolding form_of known_body
nameless_41 = nameless_levels shut tt

pub nameless_65 : Nameless (form_of (Some 65))
unfolding form_of known_body
nameless_65 = nameless_restriction shut tt

pub nameless_66 : Nameless (form_of (Some 66))
unfolding form_of known_body
nameless_66 = nameless_revocation shut tt

pub nameless_kept : Nameless (form_of None)
unfolding form_of
nameless_kept = tt

-- of the other numbers a version knows none but these
nameless_or : (n k : ℕ) → Nameless (form_of (Some k)) → (eqb n k ≡ false → Nameless (form_of (Some n))) → Nameless (form_of (Some n))
nameless_or n k is other = split_on (eqb n k) (λ e. subst (λ (m : ℕ). Nameless (form_of (Some m))) (sym (eqb-true n k e)) is) other

neither : (b : Bool) → (b && (false || false)) ≡ false
neither true = refl
neither false = refl

unknown : (version n : ℕ) → eqb n 5 ≡ false → eqb n 136 ≡ false → eqb n 21 ≡ false → eqb n 27 ≡ false → eqb n 41 ≡ false → eqb n 65 ≡ false → eqb n 66 ≡ false → is_known version n ≡ false
unfolding is_known
unknown version n a b c d e f g = rw (a, c, f, g, b, d, e) (neither (eqb (major version) 2))

nameless_known : (version n : ℕ) → eqb n 5 ≡ false → eqb n 136 ≡ false → is_known version n ≡ true → Nameless (form_of (Some n))
nameless_known version n linking infill known =
    nameless_or n 21 nameless_21 (λ c. nameless_or n 27 nameless_27 (λ d. nameless_or n 41 nameless_41 (λ e. nameless_or n 65 nameless_65 (λ f. nameless_or n 66 nameless_66 (λ g.
    let none : true ≡ false = sym known ∙ unknown version n linking infill c d e f g in absurd cc)))))

-- whatever the version makes of a number, but of 5 and 136
pub nameless_numbered : (version n : ℕ) → (n ≡ 5 → ⊥) → (n ≡ 136 → ⊥) → Nameless (form_of (layout_in version n))
unfolding layout_in
nameless_numbered version n linking infill =
    split_on (eqb n 5) (λ e. absurd (linking (eqb-true n 5 e))) (λ a. split_on (eqb n 136) (λ e. absurd (infill (eqb-true n 136 e))) (λ b.
    split_on (is_known version n) (λ e. rw e (nameless_known version n a b e)) (λ e. rw e nameless_kept)))

nameless_next : (own : Option ℕ) → Nameless (form_of own) → (n : ℕ) → Nameless (next_of own n)
unfolding next_by
nameless_next own s n = nameless_if (takes own n) _ never s tt

nameless_headed : (own : Option ℕ) → Nameless (form_of own) → Nameless (headed (next_of own))
nameless_headed own s = (refl, λ n. (refl, λ _. (refl, λ _. nameless_next own s n)))

-- ---- what is of such a form names nothing

among_none : (c : ℕ) (form : Form) (all fs : Fields) (rest : List Bool) → Nameless form → Matches form fs rest → links_among c all fs ≡ []
among_none c form all [] rest s m = refl
among_none c done all (f ∷ fs) rest s m = absurd m
among_none c shut all (f ∷ fs) rest s m = absurd m
among_none c never all (f ∷ fs) rest s m = absurd m
among_none c (valued v next) all (f ∷ fs) rest s m =
    let other : is_of NidBg f.0 ≡ false = ap (same_var NidBg) m.0 ∙ s.0 in
    rw other (among_none c (next f.1) all fs rest (s.1 f.1) m.2)

-- a packet that is held
pub held_nameless : (c : ℕ) (own : Option ℕ) (b : List Bool) (p : Packet) → Nameless (form_of own) → Holds (next_of own) b p → links_of c p ≡ []
held_nameless c own b p s h = among_none c (headed (next_of own)) p.fields p.fields p.rest (nameless_headed own s) h.form
