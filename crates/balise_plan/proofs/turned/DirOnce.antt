-- Q_DIR stands once in a packet, as its second field: no table has it again.
use Rattle.std.proofs.Common.{◌≡◌, ℕ, zero, suc, Bool, true, false, cond, ◌||◌, eqb, List, [], ◌∷◌, Some, refl, sym, ap, ◌∙◌, arith}
use Rattle.balise_rules.specs.declared.variable.Var.{Var}
use Rattle.balise_rules.specs.declared.variable.Var.TheVariants.{QDir}
use Rattle.balise_rules.specs.Tagged.{find}
use Rattle.balise_rules.specs.Tags.{Key, is_of, same_var, same_key}
use Rattle.balise_rules.specs.Forms.{Form, done, shut, never, valued, repeat, Fields, Matches, count_of}
use Rattle.balise_rules.specs.Packets.{packet, counted, link, linking, gradient, gradients, difference, section, speeds, level, levels, restriction, revocation, infill, is_known, known_body, body}
use Rattle.balise_rules.specs.Packet.{Packet, IsSpelt}
use Rattle.balise_rules.proofs.Tests.{var_test}
use Rattle.balise_rules.proofs.Keys.{found_counted}

-- no field of a form has the variable
abbrev pub Lacks : Form → Type 0
Lacks done = Unit {0}
Lacks shut = Unit {0}
Lacks never = Unit {0}
Lacks (valued v next) = (same_var QDir v ≡ false) × ((n : ℕ) → Lacks (next n))

lacks_count : (form : Form) (fs : Fields) (rest : List Bool) → Lacks form → Matches form fs rest → count_of QDir fs ≡ 0
lacks_count form [] rest l m = refl
lacks_count done (f ∷ fs) rest l m = absurd m
lacks_count shut (f ∷ fs) rest l m = absurd m
lacks_count never (f ∷ fs) rest l m = absurd m
lacks_count (valued v next) (f ∷ fs) rest l m = let e : same_var QDir f.0.0 ≡ false = ap (same_var QDir) m.0 ∙ l.0 in simp e (lacks_count (next f.1) fs rest (l.1 f.1) m.2)

lacks_if : (b : Bool) → (x y : Form) → Lacks x → Lacks y → Lacks (cond b x y)
lacks_if true x y s t = s
lacks_if false x y s t = t

lacks_repeat : (n : ℕ) → (part : Form → Form) → (rest : Form) → ((f : Form) → Lacks f → Lacks (part f)) → Lacks rest → Lacks (repeat n part rest)
lacks_repeat zero part rest p s = s
lacks_repeat (suc n) part rest p s = p (repeat n part rest) (lacks_repeat n part rest p s)

lacks_counted : (part : Form → Form) → (rest : Form) → ((f : Form) → Lacks f → Lacks (part f)) → Lacks rest → Lacks (counted part rest)
unfolding counted
lacks_counted part rest p s = (refl, λ n. lacks_repeat n part rest p s)

lacks_link : (rest : Form) → Lacks rest → Lacks (link rest)
unfolding link
lacks_link rest s = (
  refl,
  λ d. (
    refl,
    λ new. lacks_if (eqb new 1) _ _
        (refl, λ c. (refl, λ a. (refl, λ o. (refl, λ r. (refl, λ l. s)))))
        (refl, λ a. (refl, λ o. (refl, λ r. (refl, λ l. s)))),
  ),
)

lacks_gradient : (rest : Form) → Lacks rest → Lacks (gradient rest)
unfolding gradient
lacks_gradient rest s = (refl, λ d. (refl, λ g. (refl, λ a. s)))

lacks_difference : (rest : Form) → Lacks rest → Lacks (difference rest)
unfolding difference
lacks_difference rest s = (refl, λ q. lacks_if (eqb q 0) _ _ (refl, λ c. (refl, λ v. s)) (lacks_if (eqb q 3) _ _ tt (refl, λ c. (refl, λ v. s))))

lacks_section : (rest : Form) → Lacks rest → Lacks (section rest)
unfolding section
lacks_section rest s = (refl, λ d. (refl, λ v. (refl, λ f. lacks_counted difference rest lacks_difference s)))

lacks_level : (rest : Form) → Lacks rest → Lacks (level rest)
unfolding level
lacks_level rest s = (refl, λ m. lacks_if (eqb m 1) _ _ (refl, λ c. (refl, λ l. s)) (refl, λ l. s))

lacks_infill : Lacks (infill shut)
unfolding infill
lacks_infill = (refl, λ new. lacks_if (eqb new 1) _ _ (refl, λ c. (refl, λ b. tt)) (refl, λ b. tt))

lacks_known : (n : ℕ) → Lacks (known_body n)
unfolding known_body linking gradients speeds levels restriction revocation
lacks_known n =
    lacks_if (eqb n 5) _ _ (refl, λ q. lacks_link _ (lacks_counted link shut lacks_link tt))
    (lacks_if (eqb n 21) _ _ (refl, λ q. lacks_gradient _ (lacks_counted gradient shut lacks_gradient tt))
    (lacks_if (eqb n 27) _ _ (refl, λ q. lacks_section _ (lacks_counted section shut lacks_section tt))
    (lacks_if (eqb n 41) _ _ (refl, λ q. (refl, λ d. lacks_level _ (lacks_counted level shut lacks_level tt)))
    (lacks_if (eqb n 65) _ _ (refl, λ a. (refl, λ b. (refl, λ c. (refl, λ d. (refl, λ e. (refl, λ f. tt))))))
    (lacks_if (eqb n 66) _ _ (refl, λ a. tt) lacks_infill)))))

lacks_body : (version n : ℕ) → Lacks (body version n)
unfolding body
lacks_body version n = lacks_if (eqb n 0 || eqb n 255) _ _ tt (lacks_if (is_known version n) _ _ (lacks_known n) tt)

dir_count : (version : ℕ) (fs : Fields) (rest : List Bool) → Matches (packet version) fs rest → count_of QDir fs ≡ 1
unfolding packet
dir_count version [] rest m = absurd m
dir_count version (a ∷ []) rest m = absurd m.2
dir_count version (a ∷ b ∷ []) rest m = absurd m.2.2
dir_count version (a ∷ b ∷ c ∷ fs) rest m =
    let x : same_var QDir a.0.0 ≡ false = ap (same_var QDir) m.0 in
    let y : same_var QDir b.0.0 ≡ true = ap (same_var QDir) m.2.0 in
    let z : same_var QDir c.0.0 ≡ false = ap (same_var QDir) m.2.2.0 in
    simp (x, y, z) (ap suc (lacks_count (body version a.1) fs rest (lacks_body version a.1) m.2.2.2))

pub dir_once : (version : ℕ) (x : Packet) → IsSpelt version x → (key : Key) (n : ℕ) → find same_key key x.fields ≡ Some n → is_of QDir key ≡ true → key ≡ (QDir, 0)
dir_once version x s key n h e =
    let q : QDir ≡ key.0 = var_test.one QDir key.0 e in
    let l = found_counted [] x.fields s.numbered key.0 key.1 n h in
    let b = dir_count version x.fields x.rest s.form in
    let w : count_of key.0 x.fields ≡ count_of QDir x.fields = ap (λ v. count_of v x.fields) (sym q) in
    let z : key.1 ≡ 0 = omega (arith, l, b, w) in
    ap (λ (v : Var). (v, key.1)) (sym q) ∙ ap (λ (k : ℕ). (QDir, k)) z
