-- Going along a form finds the misfit that is misfit_along, and a packet that is spelt has none.
use Rattle.std.proofs.Common.{◌≡◌, ◌∙◌, ℕ, zero, suc, ◌+◌, ◌-◌, ◌<◌, ◌≤◌, take, drop, length, length-drop, get_or, arith, Bool, true, false, cond, [], ◌∷◌, Option, Some, None, Ok, Err, refl, sym, ap}
use Rattle.balise_rules.specs.declared.variable.Var.{Var}
use Rattle.balise_rules.specs.declared.variable.Var.TheVariants.{NidPacket, QDir, LPacket}
use Rattle.balise_rules.specs.Tags.{same_var}
use Rattle.balise_rules.specs.Forms.{Form, done, shut, never, valued, plain}
use Rattle.balise_rules.specs.Packets.{packet, body}
use Rattle.balise_layout.specs.declared.fault.LayoutFault.TheVariants.{LayoutMismatch}
use Rattle.balise_layout.specs.Held.{headed}
use Rattle.balise_codec.specs.declared.misfit.Misfit.{Misfit}
use Rattle.balise_codec.specs.declared.misfit.Misfit.TheVariants.{TooMany, Spare}
use Rattle.std.proofs.lemmas.List.{take_all}
use Rattle.std.proofs.Math.Seq.{drop-cons}
use Rattle.balise_layout.specs.Layouts.{next_of, layout_in}
use Rattle.balise_layout.specs.LayoutLaws.{layout_reads}
use Rattle.balise_codec.specs.Spelling.{Values}
use Rattle.balise_codec.specs.Misfits.{misfit_of, too_many, front_value, others, unless_misfit, misfit_along, first_misfit, has_no_fields, Progress, stopped, Walked, shut_at, taken, walk_values}

-- the misfit that a walk found
abbrev pub misfit_then : Walked → Option (ℕ × Misfit)
misfit_then (Ok s) = too_many s.count s.left
misfit_then (Err r) = r.1.misfit

choose : (i : ℕ) (s : Progress) (b : Bool) (o : Option Misfit) (r t : Walked) (p q : Option (ℕ × Misfit)) → misfit_then r ≡ p → misfit_then t ≡ q → misfit_then (cond b r (unless_misfit o t (λ m. Err (LayoutMismatch, stopped i m s)))) ≡ cond b p (unless_misfit o q (λ m. Some (i, m)))
choose i s true o r t p q e f = e
choose i s false None r t p q e f = f
choose i s false (Some m) r t p q e f = refl

pub walk_misfit : (form : Form) (l : Values) (i : ℕ) (m : Option (ℕ × Misfit)) → misfit_then (walk_values form (record { left = l; count = i; misfit = m })) ≡ misfit_along form i l
unfolding walk_values misfit_along
walk_misfit done l i m = refl
walk_misfit shut [] i m = refl
walk_misfit shut (x ∷ xs) i m = refl
walk_misfit never l i m = refl
walk_misfit (valued v next) l i m =
    choose i (record { left = l; count = i; misfit = m }) (same_var v LPacket) (misfit_of v l) _ _ _ _ (walk_misfit (next 0) l i m) (walk_misfit (next (front_value l)) (others l) (i + 1) m)

-- the first field's value says what follows
pub values_head : (version : ℕ) (next : ℕ → Form) (s : Progress) → next (front_value s.left) ≡ body version (front_value s.left) → walk_values (headed next) s ≡ walk_values (packet version) s
unfolding walk_values packet
values_head version next s e = ap (λ (f : Form). unless_misfit (misfit_of NidPacket s.left) (walk_values (plain QDir (plain LPacket f)) (taken s)) (λ m. Err (LayoutMismatch, stopped s.count m s))) e

-- ---- single steps, where the first k values were taken

abbrev pub progress : Values → ℕ → Option (ℕ × Misfit) → Progress
progress vs k m = record { left = drop k vs; count = k; misfit = m }

pub tail_left : (vs : Values) (k : ℕ) → take (length vs - k) (drop k vs) ≡ drop k vs
tail_left vs k = take_all (length vs - k) (drop k vs) (omega (arith, length-drop k vs))

pub front_left : (vs : Values) (k : ℕ) (d : Var × ℕ) → k < length vs → drop k vs ≡ get_or vs k d ∷ drop (k + 1) vs
front_left vs k d h =
    let one : suc k ≡ k + 1 = omega arith in
    drop-cons vs k d h ∙ ap (λ (j : ℕ). get_or vs k d ∷ drop j vs) one

none_left : (vs : Values) (k : ℕ) → length vs ≤ k → drop k vs ≡ []
none_left [] zero h = refl
none_left [] (suc k) h = refl
none_left (x ∷ xs) zero h = absurd (omega arith)
none_left (x ∷ xs) (suc k) h = none_left xs k (omega (arith, h))

pub many_left : (vs : Values) (k i : ℕ) → k < length vs → Some (i, TooMany) ≡ too_many i (drop k vs)
many_left vs k i h = sym (ap (too_many i) (front_left vs k (NidPacket, 0) h))

pub values_done : (s : Progress) → walk_values done s ≡ Ok s
unfolding walk_values
values_done s = refl

pub values_never : (s : Progress) → walk_values never s ≡ Err (LayoutMismatch, stopped (s.count - 1) Spare s)
unfolding walk_values
values_never s = refl

pub values_open : (vs : Values) (k : ℕ) (m : Option (ℕ × Misfit)) → k < length vs → walk_values shut (progress vs k m) ≡ Err (LayoutMismatch, stopped k TooMany (progress vs k m))
unfolding walk_values
values_open vs k m h = ap (λ (x : Values). shut_at x (progress vs k m)) (front_left vs k (NidPacket, 0) h)

pub values_shut : (vs : Values) (k : ℕ) (m : Option (ℕ × Misfit)) → length vs ≤ k → walk_values shut (progress vs k m) ≡ Ok (progress vs k m)
unfolding walk_values
values_shut vs k m h = ap (λ (x : Values). shut_at x (progress vs k m)) (none_left vs k h)

pub values_skip : (v : Var) (next : ℕ → Form) (s : Progress) → same_var v LPacket ≡ true → walk_values (valued v next) s ≡ walk_values (next 0) s
unfolding walk_values
values_skip v next s e = rw e refl

pub values_stop : (v : Var) (next : ℕ → Form) (vs : Values) (k : ℕ) (m : Option (ℕ × Misfit)) (w : Misfit) → same_var v LPacket ≡ false → misfit_of v (take (length vs - k) (drop k vs)) ≡ Some w → walk_values (valued v next) (progress vs k m) ≡ Err (LayoutMismatch, stopped k w (progress vs k m))
unfolding walk_values
values_stop v next vs k m w e f =
    let found : misfit_of v (drop k vs) ≡ Some w = ap (misfit_of v) (sym (tail_left vs k)) ∙ f in
    rw (e, found) refl

pub values_on : (v : Var) (next : ℕ → Form) (vs : Values) (k : ℕ) (m : Option (ℕ × Misfit)) (d : Var × ℕ) → same_var v LPacket ≡ false → misfit_of v (take (length vs - k) (drop k vs)) ≡ None → walk_values (valued v next) (progress vs k m) ≡ walk_values (next (get_or vs k d).1) (progress vs (k + 1) m)
unfolding walk_values
values_on v next vs k m d e f =
    let found : misfit_of v (drop k vs) ≡ None = ap (misfit_of v) (sym (tail_left vs k)) ∙ f in
    let front : drop k vs ≡ get_or vs k d ∷ drop (k + 1) vs = front_left vs k d (some_left v vs k found) in
    rw (e, found) (ap (λ (x : Values). walk_values (next (front_value x)) (record { left = others x; count = k + 1; misfit = m })) front)
  where
    some_left : (v : Var) (vs : Values) (k : ℕ) → misfit_of v (drop k vs) ≡ None → k < length vs
    some_left v vs k h = by (drop k vs) refl h
      where
        by : (x : Values) → drop k vs ≡ x → misfit_of v x ≡ None → k < length vs
        by [] e h = absurd cc
        by (x ∷ xs) e h = omega (arith, ap length e, length-drop k vs)

-- a walk by the layout of the first value's number finds what is misfit_along
pub walked : (version number : ℕ) (own : Option ℕ) (vs : Values) (old : Progress) (w : Walked) → old ≡ progress vs 0 None → number ≡ front_value vs → own ≡ layout_in version number → walk_values (headed (next_of own)) old ≡ w → misfit_then w ≡ misfit_along (packet version) 0 vs
walked version number own vs old w start first kind h =
    let its : own ≡ layout_in version (front_value vs) = kind ∙ ap (layout_in version) first in
    let same : next_of own (front_value vs) ≡ body version (front_value vs) = ap (λ (o : Option ℕ). next_of o (front_value vs)) its ∙ layout_reads version (front_value vs) in
    sym (ap misfit_then (sym (ap (walk_values (headed (next_of own))) start) ∙ h)) ∙ ap misfit_then (values_head version (next_of own) (progress vs 0 None) same) ∙ walk_misfit (packet version) vs 0 None

-- the values are of a packet with fields
pub first_along : (version : ℕ) (vs : Values) (b : Bool) → b ≡ has_no_fields vs → b ≡ false → misfit_along (packet version) 0 vs ≡ first_misfit version vs
first_along version vs b e f = let none : has_no_fields vs ≡ false = sym e ∙ f in rw none refl
