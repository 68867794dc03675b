-- An orientation stands only in an element that has a number: in each table an NID_BG comes before each orientation.
use Rattle.std.proofs.Common.{◌≡◌, ◌∙◌, ◌+◌, ◌≤◌, ◌<◌, ℕ, zero, suc, Bool, true, false, cond, eqb, ◌||◌, List, [], ◌∷◌, ◌++◌, Some, sym, ap, subst, arith}
use Rattle.balise_rules.specs.declared.variable.Var.{Var}
use Rattle.balise_rules.specs.declared.variable.Var.TheVariants.{NidBg, QLinkorientation, QLinkreaction, QLocacc}
use Rattle.balise_rules.specs.Tagged.{find}
use Rattle.balise_rules.specs.Tags.{Key, same_var, same_key, is_of}
use Rattle.balise_rules.specs.Forms.{Form, done, shut, never, valued, plain, repeat, Fields, Matches, count_of, NumberedFrom}
use Rattle.balise_rules.specs.Packet.{Packet, field_of, IsSpelt}
use Rattle.balise_rules.specs.Packets.{packet, body, known_body, is_known, counted, country, link, linking, gradient, gradients, difference, section, speeds, level, levels, restriction, revocation, infill}
use Rattle.balise_rules.proofs.Keys.{count-append, found_counted}
use Rattle.balise_rules.proofs.Tests.{key_test, split_keys, split_on, var_test}

-- d numbers are there already, each for an orientation that may follow
abbrev Covered : ℕ → Form → Type 0
Covered d done = Unit {0}
Covered d shut = Unit {0}
Covered d never = Unit {0}
Covered d (valued v next) = (n : ℕ) → (r : ℕ) × (r + cond (same_var QLinkorientation v) 1 0 ≤ d + cond (same_var NidBg v) 1 0) × Covered r (next n)

keep : 0 + 0 ≤ 0 + 0
keep = omega arith

gives : 1 + 0 ≤ 0 + 1
gives = omega arith

pays : 0 + 1 ≤ 1 + 0
pays = omega arith

spare : 0 + 0 ≤ 0 + 1
spare = omega arith

-- ---- what forms are made of

covered_if : (b : Bool) (x y : Form) → Covered 0 x → Covered 0 y → Covered 0 (cond b x y)
covered_if true x y s t = s
covered_if false x y s t = t

abbrev CoveredPart : (Form → Form) → Type 0
CoveredPart part = (rest : Form) → Covered 0 rest → Covered 0 (part rest)

covered_repeat : (part : Form → Form) → CoveredPart part → (n : ℕ) → CoveredPart (repeat n part)
covered_repeat part h zero rest s = s
covered_repeat part h (suc n) rest s = h (repeat n part rest) (covered_repeat part h n rest s)

covered_counted : (part : Form → Form) → CoveredPart part → CoveredPart (counted part)
unfolding counted
covered_counted part h rest s n = (0, keep, covered_repeat part h n rest s)

-- ---- the packets

-- a number with its orientation, and one without
oriented : (rest : Form) → Covered 0 rest → Covered 0 (plain NidBg (plain QLinkorientation (plain QLinkreaction (plain QLocacc rest))))
oriented rest s _ = (1, gives, λ _. (0, pays, λ _. (0, keep, λ _. (0, keep, s))))

numbered : (rest : Form) → Covered 0 rest → Covered 0 (plain NidBg rest)
numbered rest s _ = (0, spare, s)

covered_country : (new : ℕ) (rest : Form) → Covered 0 rest → Covered 0 (country new rest)
covered_country new rest s = covered_if (eqb new 1) _ _ (λ _. (0, keep, s)) s

covered_link : CoveredPart link
unfolding link
covered_link rest s = λ _. (0, keep, λ new. (0, keep, covered_country new _ (oriented rest s)))

covered_linking : CoveredPart linking
unfolding linking
covered_linking rest s _ = (0, keep, covered_link _ (covered_counted link covered_link rest s))

covered_gradient : CoveredPart gradient
unfolding gradient
covered_gradient rest s = λ _. (0, keep, λ _. (0, keep, λ _. (0, keep, s)))

covered_gradients : CoveredPart gradients
unfolding gradients
covered_gradients rest s _ = (0, keep, covered_gradient _ (covered_counted gradient covered_gradient rest s))

covered_difference : CoveredPart difference
unfolding difference
covered_difference rest s q =
    (0, keep, covered_if (eqb q 0) _ _ (λ _. (0, keep, λ _. (0, keep, s))) (covered_if (eqb q 3) never _ tt (λ _. (0, keep, λ _. (0, keep, s)))))

covered_section : CoveredPart section
unfolding section
covered_section rest s = λ _. (0, keep, λ _. (0, keep, λ _. (0, keep, covered_counted difference covered_difference rest s)))

covered_speeds : CoveredPart speeds
unfolding speeds
covered_speeds rest s _ = (0, keep, covered_section _ (covered_counted section covered_section rest s))

covered_level : CoveredPart level
unfolding level
covered_level rest s m = (0, keep, covered_if (eqb m 1) _ _ (λ _. (0, keep, λ _. (0, keep, s))) (λ _. (0, keep, s)))

covered_levels : CoveredPart levels
unfolding levels
covered_levels rest s _ = (0, keep, λ _. (0, keep, covered_level _ (covered_counted level covered_level rest s)))

covered_restriction : CoveredPart restriction
unfolding restriction
covered_restriction rest s = λ _. (0, keep, λ _. (0, keep, λ _. (0, keep, λ _. (0, keep, λ _. (0, keep, λ _. (0, keep, s))))))

covered_revocation : CoveredPart revocation
unfolding revocation
covered_revocation rest s _ = (0, keep, s)

covered_infill : CoveredPart infill
unfolding infill
covered_infill rest s new = (0, keep, covered_country new _ (numbered rest s))

covered_known : (n : ℕ) → Covered 0 (known_body n)
unfolding known_body
covered_known n =
    covered_if (eqb n 5) _ _ (covered_linking shut tt) (covered_if (eqb n 21) _ _ (covered_gradients shut tt) (covered_if (eqb n 27) _ _ (covered_speeds shut tt)
    (covered_if (eqb n 41) _ _ (covered_levels shut tt) (covered_if (eqb n 65) _ _ (covered_restriction shut tt) (covered_if (eqb n 66) _ _ (covered_revocation shut tt) (covered_infill shut tt))))))

covered_body : (version n : ℕ) → Covered 0 (body version n)
unfolding body
covered_body version n = covered_if (eqb n 0 || eqb n 255) never _ tt (covered_if (is_known version n) _ done (covered_known n) tt)

covered_packet : (version : ℕ) → Covered 0 (packet version)
unfolding packet
covered_packet version = λ n. (0, keep, λ _. (0, keep, λ _. (0, keep, covered_body version n)))

-- ---- the counts of what matches

count_step : (a b : Bool) (r d x y : ℕ) → r + cond a 1 0 ≤ d + cond b 1 0 → x ≤ r + y → cond a (suc x) x ≤ d + cond b (suc y) y
count_step true true r d x y h l = omega (arith, h, l)
count_step true false r d x y h l = omega (arith, h, l)
count_step false true r d x y h l = omega (arith, h, l)
count_step false false r d x y h l = omega (arith, h, l)

covered_count : (d : ℕ) (form : Form) (fs : Fields) (rest : List Bool) → Covered d form → Matches form fs rest → count_of QLinkorientation fs ≤ d + count_of NidBg fs
covered_count d done [] rest s m = omega arith
covered_count d shut [] rest s m = omega arith
covered_count d never fs rest s m = absurd m
covered_count d (valued v next) [] rest s m = absurd m
covered_count d done (f ∷ fs) rest s m = absurd m
covered_count d shut (f ∷ fs) rest s m = absurd m
covered_count d (valued v next) (f ∷ fs) rest s m =
    let p = s f.1 in
    let h = subst (λ (w : Var). p.0 + cond (same_var QLinkorientation w) 1 0 ≤ d + cond (same_var NidBg w) 1 0) (sym m.0) p.1 in
    count_step (is_of QLinkorientation f.0) (is_of NidBg f.0) p.0 d (count_of QLinkorientation fs) (count_of NidBg fs) h (covered_count p.0 (next f.1) fs rest p.2 m.2)

-- each number below the count has its field
counted_found : (seen fs : Fields) → NumberedFrom seen fs → (v : Var) → (k : ℕ) → count_of v seen ≤ k → k < count_of v seen + count_of v fs → (n : ℕ) × (find same_key (v, k) fs ≡ Some n)
counted_found seen [] u v k l h = absurd (omega (arith, l, h))
counted_found seen (f ∷ fs) u v k l h =
    split_keys key_test (v, k) f.0
    (λ e q. (f.1, simp e))
    (λ e.
    let a = count-append v seen (f ∷ []) in
    let b = count-append v (f ∷ []) fs in
    let more : count_of v (seen ++ f ∷ []) ≤ k = split_on (is_of v f.0)
    (λ o.
    let same : v ≡ f.0.0 = var_test.one v f.0.0 o in
    let number : f.0.1 ≡ count_of v seen = u.0 ∙ ap (λ (w : Var). count_of w seen) (sym same) in
    let one : count_of v (f ∷ []) ≡ 1 = simp o in
    let other : k ≡ f.0.1 → ⊥ = λ w. absurd (let y : same_key (v, k) f.0 ≡ true = ap (λ (c : Key). same_key c f.0) (ap (λ (x : Var). (x, k)) same ∙ ap (λ (i : ℕ). (f.0.0, i)) w) ∙ key_test.itself f.0 in let z : true ≡ false = sym y ∙ e in cc) in
    at_least (count_of v seen) k f.0.1 (count_of v (seen ++ f ∷ [])) l number (omega (arith, a, one)) other)
    (λ o. let none : count_of v (f ∷ []) ≡ 0 = simp o in omega (arith, a, none, l)) in
    let w = counted_found (seen ++ f ∷ []) fs u.1 v k more (omega (arith, a, b, h)) in
    (w.0, simp e w.1))
  where
    at_least : (c k i d : ℕ) → c ≤ k → i ≡ c → d ≡ c + 1 → (k ≡ i → ⊥) → d ≤ k
    at_least c k i d l s t n = omega (arith, l, s, t, n)

-- an element that has an orientation has a number
pub numbered_link : (version k o : ℕ) (x : Packet) → IsSpelt version x → field_of QLinkorientation k x.fields ≡ Some o → (n : ℕ) × (field_of NidBg k x.fields ≡ Some n)
numbered_link version k o x s h =
    let l = found_counted [] x.fields s.numbered QLinkorientation k o h in
    let c = covered_count 0 (packet version) x.fields x.rest (covered_packet version) s.form in
    counted_found [] x.fields s.numbered NidBg k (omega arith) (omega (arith, l, c))
