-- Names: an element that is found is among the names of its packet, and identities are apart as their places are.
-- Proves that a renumbering leaves fields that don't name the identity.
-- From the definition of the names of a packet.
use Rattle.std.proofs.Common.{◌≡◌, ℕ, true, false, ◌&&◌, List, [], ◌∷◌, filter, Some, refl, sym, ap, Bool}
use Rattle.balise_rules.specs.declared.tag.Tag.{Tag}
use Rattle.balise_rules.specs.declared.identity.Id.{Id}
use Rattle.balise_rules.specs.declared.variable.Var.TheVariants.{NidBg}
use Rattle.balise_rules.specs.Tagged.{find, each}
use Rattle.balise_rules.specs.Tags.{same_id, same_key, Key, is_of}
use Rattle.balise_rules.specs.Forms.{Fields}
use Rattle.balise_rules.specs.Names.{country_at, is_real, links_among}
use Rattle.balise_rules.specs.Edits.{field_after}
use Rattle.balise_rules.specs.declared.tagged_edit.TaggedEdit.TheVariants.{Renumber}
use Rattle.balise_rules.proofs.Tests.{split_on, split_keys, flip_no, key_test, id_test}
use Rattle.balise_rules.proofs.Cases.{unsome}
use Rattle.balise_strike_laws.proofs.Cases.{drop1}
use Rattle.balise_strike_laws.proofs.Fields.{identity}
use Rattle.balise_strike_laws.proofs.Places.{In, first_of, later_of}

-- a found element is among the names
pub named-among : (c k v : ℕ) → (fs ys : Fields) → find same_key (NidBg, k) ys ≡ Some v → In (identity (country_at c k fs) v) (links_among c fs ys)
named-among c k v fs [] h = absurd (cc)
named-among c k v fs (y ∷ ys) h =
    split_keys key_test (NidBg, k) y.0
    (λ e q. let b : is_of NidBg y.0 ≡ true = ap (is_of NidBg) (sym q) in let o : y.0.1 ≡ k = ap (λ (i : Key). i.1) (sym q) in
    let f : Some y.1 ≡ Some v = simp e at h in let w : y.1 ≡ v = unsome f in simp (b, o, w) first_of)
    (λ e. let g : find same_key (NidBg, k) ys ≡ Some v = simp e at h in split_on (is_of NidBg y.0) (λ d. simp d (later_of (named-among c k v fs ys g))) (λ d. simp d (named-among c k v fs ys g)))

pub in-filter : {A : Type 0} → (test : A → Bool) → (x : A) → (xs : List A) → test x ≡ true → In x xs → In x (filter test xs)
in-filter test x [] n h = elim h [ ]
in-filter test x (y ∷ ys) n (first_of) = simp n first_of
in-filter test x (y ∷ ys) n (later_of h) = split_on (test y) (λ e. simp e (later_of (in-filter test x ys n h))) (λ e. simp e (in-filter test x ys n h))

-- an identity that is noted
pub in-real : (i : Id) → (is : List Id) → is_real i ≡ true → In i is → In i (filter is_real is)
in-real i is = in-filter is_real i is

-- identities are apart as their places are
pub whose_apart : (i j : Id) → (same_id i j && true) ≡ false → same_id j i ≡ false
whose_apart i j h = flip_no id_test i j (drop1 (same_id i j) h)

-- a renumbering leaves a packet that does not name the identity
pub ren-same : (g1 : Tag) → (y : ℕ) → (j : Id) → (g : Tag) → (t : ℕ) → (c : ℕ) → (p : Tag) → (fs : Fields) → (ys : Fields) →
    ((q : Id) → In q (links_among c fs ys) → same_id q j ≡ false) →
    each (field_after (Renumber g1 y) j g t c p fs) ys ≡ ys
ren-same g1 y j g t c p fs [] k = refl
ren-same g1 y j g t c p fs (z ∷ zs) k =
    split_on (is_of NidBg z.0)
    (λ e. let f = k (identity (country_at c (z.0.1) fs) (z.1)) (simp e first_of) in
    simp (e, f) (ap (λ l. z ∷ l) (ren-same g1 y j g t c p fs zs (λ q h. k q (simp e (later_of h))))))
    (λ e. simp e (ap (λ l. z ∷ l) (ren-same g1 y j g t c p fs zs (λ q h. k q (simp e h)))))
