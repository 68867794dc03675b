-- Fields: two changes of the fields of one packet commute where they are apart.
-- Proves that what an element names stays unless it is renamed, and that the new value of a field is the same in both orders.
-- From the laws of tagged lists, and number facts over plain variables.
use Rattle.std.proofs.Common.{◌≡◌, ℕ, ◌-◌, Bool, true, false, cond, ◌&&◌, eqb, refl, sym, ap, ◌∙◌, arith}
use Rattle.std.proofs.lemmas.Bool.{eqb-true, and_parts, both_ways}
use Rattle.std.proofs.lemmas.Bool.Decides.{nat_tests}
use Rattle.std.specs.Option.{option_map}
use Rattle.balise_rules.specs.declared.tag.Tag.{Tag}
use Rattle.balise_rules.specs.declared.identity.Id.{Id}
use Rattle.balise_rules.specs.declared.variable.Var.{Var}
use Rattle.balise_rules.specs.declared.variable.Var.TheVariants.{NidC, NidBg, QDir, QLinkorientation}
use Rattle.balise_rules.specs.Tagged.{find, each}
use Rattle.balise_rules.specs.Tags.{same_tag, same_id, same_var, same_key, Key, is_of}
use Rattle.balise_rules.specs.Forms.{Fields}
use Rattle.balise_rules.specs.Names.{country_at, calls}
use Rattle.balise_rules.specs.Edits.{Edit, exchanged, field_after}
use Rattle.balise_rules.specs.declared.tagged_edit.TaggedEdit.TheVariants.{SetVar, Renumber, TurnGroup}
use Rattle.balise_rules.proofs.Tests.{split_on, flip_yes, tag_test, var_test, key_test, nat_test, both_one}
use Rattle.balise_rules.proofs.Lists.{find-each}
use Rattle.balise_rules.proofs.Cases.{found, parts4}
use Rattle.balise_rules.proofs.Each.{each-id}
use Rattle.balise_rules.proofs.Keys.{not_other}
use Rattle.balise_rules.proofs.Untouched.{KeepsFields, country_untouched}
use Rattle.balise_strike_laws.proofs.Cases.{both_set, twice}

-- two renumberings of one number
pub ren-ren : (c v a0 a1 x b0 b1 y : ℕ) → (eqb a0 b0 && eqb a1 b1) ≡ false → (eqb a0 b0 && eqb x b1) ≡ false → (eqb b0 a0 && eqb y a1) ≡ false →
    cond (eqb c a0 && eqb (cond (eqb c b0 && eqb v b1) y v) a1) x (cond (eqb c b0 && eqb v b1) y v) ≡ cond (eqb c b0 && eqb (cond (eqb c a0 && eqb v a1) x v) b1) y (cond (eqb c a0 && eqb v a1) x v)
ren-ren c v a0 a1 x b0 b1 y n1 n2 n3 = grind (arith, nat_tests)

-- a renumbering does not touch another identity
pub ren-other : (c v a0 a1 x b0 b1 : ℕ) → (eqb a0 b0 && eqb a1 b1) ≡ false → (eqb a0 b0 && eqb x b1) ≡ false →
    (eqb c b0 && eqb (cond (eqb c a0 && eqb v a1) x v) b1) ≡ (eqb c b0 && eqb v b1)
ren-other c v a0 a1 x b0 b1 n1 n2 = grind (arith, nat_tests)

-- an identity of a country and a number
abbrev pub identity : ℕ → ℕ → Id
identity c n = record { country = c; number = n }

pub find-fields : (h : Key → ℕ → ℕ) → (v : Var) → (k : ℕ) → (fs : Fields) → find same_key (v, k) (each h fs) ≡ option_map (h (v, k)) (find same_key (v, k) fs)
find-fields h v k fs = find-each key_test h (v, k) fs

-- what has to be apart for two changes of the fields of one packet
abbrev pub FieldApart : Edit → Id → Edit → Id → Tag → ℕ → ℕ → Tag → Fields → Type 0
FieldApart (SetVar g0 t0 p0 v0 k0 x) i (SetVar g1 t1 p1 v1 k1 y) j g t c p fs = (same_tag g1 g0 && (eqb t1 t0 && (same_tag p1 p0 && same_key (v1, k1) (v0, k0)))) ≡ false
FieldApart (SetVar g0 t0 p0 v0 k0 x) i (Renumber g1 y) j g t c p fs = (same_tag g0 g && (eqb t0 t && same_tag p0 p)) ≡ true → same_var NidBg v0 ≡ true → same_id (identity (country_at c k0 fs) x) j ≡ false
FieldApart (Renumber g1 y) j (SetVar g0 t0 p0 v0 k0 x) i g t c p fs = (same_tag g0 g && (eqb t0 t && same_tag p0 p)) ≡ true → same_var NidBg v0 ≡ true → same_id (identity (country_at c k0 fs) x) j ≡ false
FieldApart (SetVar g0 t0 p0 v0 k0 x) i (TurnGroup g1) j g t c p fs = (same_tag g0 g && (eqb t0 t && same_tag p0 p)) ≡ true →
    (same_var NidBg v0 ≡ true → (same_id (identity (country_at c k0 fs) x) j ≡ false) × (calls c k0 fs j ≡ false)) ×
    (same_var QLinkorientation v0 ≡ true → calls c k0 fs j ≡ false) × (same_var QDir v0 ≡ true → same_tag g1 g ≡ false)
FieldApart (TurnGroup g1) j (SetVar g0 t0 p0 v0 k0 x) i g t c p fs = (same_tag g0 g && (eqb t0 t && same_tag p0 p)) ≡ true →
    (same_var NidBg v0 ≡ true → (same_id (identity (country_at c k0 fs) x) j ≡ false) × (calls c k0 fs j ≡ false)) ×
    (same_var QLinkorientation v0 ≡ true → calls c k0 fs j ≡ false) × (same_var QDir v0 ≡ true → same_tag g1 g ≡ false)
FieldApart (Renumber g0 x) i (Renumber g1 y) j g t c p fs = (same_id i j ≡ false) × (same_id (identity i.country x) j ≡ false) × (same_id (identity j.country y) i ≡ false)
FieldApart (Renumber g0 x) i (TurnGroup g1) j g t c p fs = (same_id i j ≡ false) × (same_id (identity i.country x) j ≡ false)
FieldApart (TurnGroup g1) j (Renumber g0 x) i g t c p fs = (same_id i j ≡ false) × (same_id (identity i.country x) j ≡ false)
FieldApart e i f j g t c p fs = Unit {0}

pub met : (g g0 g1 : Tag) → (t t0 t1 : ℕ) → (p p0 p1 : Tag) → (k k0 k1 : Key) → (same_tag g0 g && (eqb t0 t && (same_tag p0 p && same_key k0 k))) ≡ true →
    (same_tag g1 g && (eqb t1 t && (same_tag p1 p && same_key k1 k))) ≡ true → (same_tag g1 g0 && (eqb t1 t0 && (same_tag p1 p0 && same_key k1 k0))) ≡ true
met g g0 g1 t t0 t1 p p0 p1 k k0 k1 h l =
    let a = parts4 (same_tag g0 g) (eqb t0 t) (same_tag p0 p) (same_key k0 k) h in
    let b = parts4 (same_tag g1 g) (eqb t1 t) (same_tag p1 p) (same_key k1 k) l in
    let e0 = both_one tag_test g g0 g1 a.0 b.0 in let e1 = both_one nat_test t t0 t1 a.1 b.1 in let e2 = both_one tag_test p p0 p1 a.2 b.2 in let e3 = both_one key_test k k0 k1 a.3 b.3 in
    simp (e0, e1, e2, e3)

pub named-ren : (g0 : Tag) → (x : ℕ) → (i j : Id) → (g : Tag) → (t c : ℕ) → (p : Tag) → (k : ℕ) → (fs : Fields) → same_id i j ≡ false →
    same_id (identity i.country x) j ≡ false →
    calls c k (each (field_after (Renumber g0 x) i g t c p fs) fs) j ≡ calls c k fs j
named-ren g0 x i j g t c p k fs n m =
    rw (country_untouched (Renumber g0 x) refl i g t c p k fs, find-each key_test (field_after (Renumber g0 x) i g t c p fs) (NidBg, k) fs)
    (found (find same_key (NidBg, k) fs) (λ e. simp e) (λ v e. simp e (ren-other (country_at c k fs) v i.country i.number x j.country j.number n m)))

pub named-turn : (g0 : Tag) → (i j : Id) → (g : Tag) → (t c : ℕ) → (p : Tag) → (k : ℕ) → (fs : Fields) →
    calls c k (each (field_after (TurnGroup g0) i g t c p fs) fs) j ≡ calls c k fs j
named-turn g0 i j g t c p k fs =
    rw (country_untouched (TurnGroup g0) (refl, refl) i g t c p k fs, find-each key_test (field_after (TurnGroup g0) i g t c p fs) (NidBg, k) fs)
    (found (find same_key (NidBg, k) fs) (λ e. simp e) (λ v e. simp e))

pub at_key : (g g0 : Tag) → (t t0 : ℕ) → (p p0 : Tag) → (key : Key) → (v0 : Var) → (k0 : ℕ) →
    (same_tag g0 g && (eqb t0 t && (same_tag p0 p && same_key (v0, k0) key))) ≡ true → ((same_tag g0 g && (eqb t0 t && same_tag p0 p)) ≡ true) × ((v0, k0) ≡ key)
at_key g g0 t t0 p p0 key v0 k0 h =
    let a = parts4 (same_tag g0 g) (eqb t0 t) (same_tag p0 p) (same_key (v0, k0) key) h in
    let e0 = a.0 in let e1 = a.1 in let e2 = a.2 in
    (simp (e0, e1, e2), key_test.one (v0, k0) key a.3)

pub named-set : (g0 : Tag) → (t0 : ℕ) → (p0 : Tag) → (v0 : Var) → (k0 x : ℕ) → same_var v0 NidC ≡ false → (i j : Id) → (g : Tag) → (t c : ℕ) → (p : Tag) → (k : ℕ) →
    (fs : Fields) →
    ((same_tag g0 g && (eqb t0 t && same_tag p0 p)) ≡ true → same_var NidBg v0 ≡ true → (same_id (identity (country_at c k0 fs) x) j ≡ false) × (calls c k0 fs j ≡ false)) →
    calls c k (each (field_after (SetVar g0 t0 p0 v0 k0 x) i g t c p fs) fs) j ≡ calls c k fs j
named-set g0 t0 p0 v0 k0 x s i j g t c p k fs n =
    rw (country_untouched (SetVar g0 t0 p0 v0 k0 x) s i g t c p k fs, find-each key_test (field_after (SetVar g0 t0 p0 v0 k0 x) i g t c p fs) (NidBg, k) fs)
    (found (find same_key (NidBg, k) fs) (λ e. simp e)
    (λ v e. split_on (same_tag g0 g && (eqb t0 t && (same_tag p0 p && same_key (v0, k0) (NidBg, k))))
    (λ a. let q = at_key g g0 t t0 p p0 (NidBg, k) v0 k0 a in
    let d = and_parts (same_var v0 NidBg) (eqb k0 k) (parts4 (same_tag g0 g) (eqb t0 t) (same_tag p0 p) (same_key (v0, k0) (NidBg, k)) a).3 in
    let w = n q.0 (flip_yes var_test v0 NidBg d.0) in
    let z : k0 ≡ k = eqb-true k0 k d.1 in
    let w0 : same_id (identity (country_at c k fs) x) j ≡ false = rw z at w.0 in
    let w1 : calls c k fs j ≡ false = rw z at w.1 in
    simp (e, a) (w0 ∙ sym (rw e at w1)))
    (λ a. simp (e, a))))

pub set-ren : (g0 : Tag) → (t0 : ℕ) → (p0 : Tag) → (v0 : Var) → (k0 x : ℕ) → same_var v0 NidC ≡ false → (g1 : Tag) → (y : ℕ) → (i j : Id) → (g : Tag) → (t c : ℕ) →
    (p : Tag) → (fs : Fields) →
    FieldApart (SetVar g0 t0 p0 v0 k0 x) i (Renumber g1 y) j g t c p fs → (key : Key) → (v : ℕ) →
    field_after (SetVar g0 t0 p0 v0 k0 x) i g t c p (each (field_after (Renumber g1 y) j g t c p fs) fs) key (field_after (Renumber g1 y) j g t c p fs key v) ≡
    field_after (Renumber g1 y) j g t c p (each (field_after (SetVar g0 t0 p0 v0 k0 x) i g t c p fs) fs) key (field_after (SetVar g0 t0 p0 v0 k0 x) i g t c p fs key v)
set-ren g0 t0 p0 v0 k0 x s g1 y i j g t c p fs n key v =
    rw (country_untouched (SetVar g0 t0 p0 v0 k0 x) s i g t c p key.1 fs)
    (split_on (same_tag g0 g && (eqb t0 t && (same_tag p0 p && same_key (v0, k0) key)))
    (λ a. let q = at_key g g0 t t0 p p0 key v0 k0 a in simp a (sym (rw (← q.1) (split_on (same_var NidBg v0)
    (λ e. let w = n q.0 e in simp (e, w)) (λ e. simp e)))))
    (λ a. simp a))

pub set-turn : (g0 : Tag) → (t0 : ℕ) → (p0 : Tag) → (v0 : Var) → (k0 x : ℕ) → same_var v0 NidC ≡ false → (g1 : Tag) → (i j : Id) → (g : Tag) → (t c : ℕ) → (p : Tag) →
    (fs : Fields) →
    FieldApart (SetVar g0 t0 p0 v0 k0 x) i (TurnGroup g1) j g t c p fs → (key : Key) → (v : ℕ) →
    field_after (SetVar g0 t0 p0 v0 k0 x) i g t c p (each (field_after (TurnGroup g1) j g t c p fs) fs) key (field_after (TurnGroup g1) j g t c p fs key v) ≡
    field_after (TurnGroup g1) j g t c p (each (field_after (SetVar g0 t0 p0 v0 k0 x) i g t c p fs) fs) key (field_after (SetVar g0 t0 p0 v0 k0 x) i g t c p fs key v)
set-turn g0 t0 p0 v0 k0 x s g1 i j g t c p fs n key v =
    rw (named-set g0 t0 p0 v0 k0 x s i j g t c p key.1 fs (λ a. (n a).0))
    (split_on (same_tag g0 g && (eqb t0 t && (same_tag p0 p && same_key (v0, k0) key)))
    (λ a. let q = at_key g g0 t t0 p p0 key v0 k0 a in simp a (sym (rw (← q.1) (split_on (same_var QLinkorientation v0)
    (λ e. let w = (n q.0).1 e in simp (e, w)) (λ e. split_on (same_var QDir v0) (λ d. let w = (n q.0).2 d in simp (e, d, w)) (λ d. simp (e, d)))))))
    (λ a. simp a))

pub turn-turn : (a b : Bool) → (o q m n : Bool) → (v : ℕ) →
    cond o (cond a (1 - cond o (cond b (1 - v) v) (cond (q && n) (exchanged 0 1 v) v)) (cond o (cond b (1 - v) v) (cond (q && n) (exchanged 0 1 v) v))) (cond (q && m) (exchanged 0 1 (cond o (cond b (1 - v) v) (cond (q && n) (exchanged 0 1 v) v))) (cond o (cond b (1 - v) v) (cond (q && n) (exchanged 0 1 v) v))) ≡
    cond o (cond b (1 - cond o (cond a (1 - v) v) (cond (q && m) (exchanged 0 1 v) v)) (cond o (cond a (1 - v) v) (cond (q && m) (exchanged 0 1 v) v))) (cond (q && n) (exchanged 0 1 (cond o (cond a (1 - v) v) (cond (q && m) (exchanged 0 1 v) v))) (cond o (cond a (1 - v) v) (cond (q && m) (exchanged 0 1 v) v)))
turn-turn a b true q m n v = twice (λ u. 1 - u) a b v
turn-turn a b false q m n v = twice (exchanged 0 1) (q && m) (q && n) v

pub ren-turn : (g0 : Tag) → (x : ℕ) → (g1 : Tag) → (i j : Id) → (g : Tag) → (t c : ℕ) → (p : Tag) → (fs : Fields) →
    FieldApart (Renumber g0 x) i (TurnGroup g1) j g t c p fs → (key : Key) → (v : ℕ) →
    field_after (Renumber g0 x) i g t c p (each (field_after (TurnGroup g1) j g t c p fs) fs) key (field_after (TurnGroup g1) j g t c p fs key v) ≡
    field_after (TurnGroup g1) j g t c p (each (field_after (Renumber g0 x) i g t c p fs) fs) key (field_after (Renumber g0 x) i g t c p fs key v)
ren-turn g0 x g1 i j g t c p fs n key v =
    rw (named-ren g0 x i j g t c p key.1 fs n.0 n.1, country_untouched (TurnGroup g1) (refl, refl) j g t c p key.1 fs)
    (split_on (is_of NidBg key)
    (λ e. let d = not_other NidBg QLinkorientation key refl e in let u = not_other NidBg QDir key refl e in simp (e, d, u))
    (λ e. simp e))

-- the new value of a field is the same in both orders
pub field_commute : (e : Edit) → (i : Id) → (f : Edit) → (j : Id) → KeepsFields e NidC → KeepsFields f NidC → (g : Tag) → (t c : ℕ) → (p : Tag) → (fs : Fields) →
    FieldApart e i f j g t c p fs → (key : Key) → (v : ℕ) →
    field_after e i g t c p (each (field_after f j g t c p fs) fs) key (field_after f j g t c p fs key v) ≡
    field_after f j g t c p (each (field_after e i g t c p fs) fs) key (field_after e i g t c p fs key v)
field_commute (SetVar g0 t0 p0 v0 k0 x) i (SetVar g1 t1 p1 v1 k1 y) j s r g t c p fs n key v =
    both_set (same_tag g0 g && (eqb t0 t && (same_tag p0 p && same_key (v0, k0) key))) (same_tag g1 g && (eqb t1 t && (same_tag p1 p && same_key (v1, k1) key))) x y v
    (λ a b. both_ways _ n (met g g0 g1 t t0 t1 p p0 p1 key (v0, k0) (v1, k1) a b))
field_commute (SetVar g0 t0 p0 v0 k0 x) i (Renumber g1 y) j s r g t c p fs n key v = set-ren g0 t0 p0 v0 k0 x s g1 y i j g t c p fs n key v
field_commute (Renumber g1 y) j (SetVar g0 t0 p0 v0 k0 x) i r s g t c p fs n key v = sym (set-ren g0 t0 p0 v0 k0 x s g1 y i j g t c p fs n key v)
field_commute (SetVar g0 t0 p0 v0 k0 x) i (TurnGroup g1) j s r g t c p fs n key v = set-turn g0 t0 p0 v0 k0 x s g1 i j g t c p fs n key v
field_commute (TurnGroup g1) j (SetVar g0 t0 p0 v0 k0 x) i r s g t c p fs n key v = sym (set-turn g0 t0 p0 v0 k0 x s g1 i j g t c p fs n key v)
field_commute (Renumber g0 x) i (Renumber g1 y) j s r g t c p fs n key v =
    rw (country_untouched (Renumber g0 x) refl i g t c p key.1 fs, country_untouched (Renumber g1 y) refl j g t c p key.1 fs)
    (split_on (is_of NidBg key)
    (λ e. simp e (ren-ren (country_at c key.1 fs) v i.country i.number x j.country j.number y n.0 n.1 n.2))
    (λ e. simp e))
field_commute (Renumber g0 x) i (TurnGroup g1) j s r g t c p fs n key v = ren-turn g0 x g1 i j g t c p fs n key v
field_commute (TurnGroup g1) j (Renumber g0 x) i s r g t c p fs n key v = sym (ren-turn g0 x g1 i j g t c p fs n key v)
field_commute (TurnGroup g0) i (TurnGroup g1) j s r g t c p fs n key v =
    rw (named-turn g0 i j g t c p key.1 fs, named-turn g1 j i g t c p key.1 fs)
    (turn-turn (calls c key.1 fs i) (calls c key.1 fs j) (is_of QLinkorientation key) (is_of QDir key) (same_tag g0 g) (same_tag g1 g) v)
field_commute (SetVar g0 t0 p0 v0 k0 x) i f j s r g t c p fs n key v = refl
field_commute (Renumber g0 x) i f j s r g t c p fs n key v = ap (λ l. field_after (Renumber g0 x) i g t c p l key v) (each-id fs)
field_commute (TurnGroup g0) i f j s r g t c p fs n key v = ap (λ l. field_after (TurnGroup g0) i g t c p l key v) (each-id fs)
field_commute e i f j s r g t c p fs n key v = ap (λ l. field_after f j g t c p l key v) (sym (each-id fs))
