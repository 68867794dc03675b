-- Lines of a review found one after another, and the packets and telegrams that they are found in.
use Rattle.std.proofs.Common.{◌≡◌, ◌∙◌, ℕ, suc, ◌+◌, ◌-◌, ◌<◌, true, false, List, [], ◌∷◌, ◌++◌, length, drop, reverse, get_or, slice_get, Some, refl, sym, ap, append_assoc, arith}
use Rattle.std.specs.Prelude.{flat_map}
use Rattle.std.proofs.lemmas.List.{get_or-reverse, length-reverse}
use Rattle.std.proofs.lemmas.Option.{slice_get-get_or, get_or_from_slice_get}
use Rattle.balise_rules.specs.declared.identity.Id.{Id}
use Rattle.balise_rules.specs.declared.variable.Var.TheVariants.{NidBg}
use Rattle.balise_rules.specs.declared.review.Reviewed.{Reviewed}
use Rattle.balise_rules.specs.Forms.{Fields, count_of, NumberedFrom, Numbered}
use Rattle.balise_rules.specs.Names.{country_at, calls, elements_among, is_it, links_among}
use Rattle.balise_rules.specs.Packet.{Packet}
use Rattle.balise_rules.specs.Review.{over, distance_of, links_looked}
use Rattle.balise_rules.specs.Tagged.{find}
use Rattle.balise_rules.specs.Tags.{Key, is_of, same_id, same_key}
use Rattle.balise_rules.proofs.Each.{found_later}
use Rattle.balise_rules.proofs.Keys.{of_is, count-more, count-other, numbered_distinct}
use Rattle.balise_rules.proofs.Tests.{split_on, equal_yes, key_test, var_test}
use Rattle.balise_plan.proofs.GroupLists.{drop_found}
use Rattle.balise_review.specs.Reviews.{named_from, named_in}

-- one part more
pub one_more : {B : Type 0} (new old here rest whole total : List B) → new ≡ old ++ here → whole ≡ here ++ rest → old ++ whole ≡ total → new ++ rest ≡ total
one_more new old here rest whole total a w t = ap (λ l. l ++ rest) a ∙ append_assoc old here rest ∙ ap (λ l. old ++ l) (sym w) ∙ t

pub over_next : {A B : Type 0} (f : ℕ → A → List B) (n : ℕ) (x : A) (xs : List A) → over f n (x ∷ xs) ≡ f n x ++ over f (n + 1) xs
over_next f n x xs = ap (λ (k : ℕ). f n x ++ over f k xs) (let e : suc n ≡ n + 1 = omega arith in e)

pub over_found : {A B : Type 0} (f : ℕ → A → List B) (n i : ℕ) (xs : List A) (x : A) → slice_get xs i ≡ Some x → over f n (drop i xs) ≡ f n x ++ over f (n + 1) (drop (i + 1) xs)
over_found f n i xs x e = ap (over f n) (drop_found xs i x e) ∙ over_next f n x (drop (i + 1) xs)

-- an item counted from the end
pub at_reverse : {A : Type 0} (xs : List A) (n i : ℕ) (x : A) → n ≡ length xs → i < n → Some x ≡ slice_get xs (n - 1 - i) → slice_get (reverse xs) i ≡ Some x
at_reverse xs n i x m h e =
    let less : i < length xs = omega (arith, m, h) in
    let inside : i < length (reverse xs) = omega (arith, length-reverse xs, less) in
    let place : length xs - 1 - i ≡ n - 1 - i = omega (arith, m) in
    slice_get-get_or (reverse xs) i x inside
    ∙ ap Some (get_or-reverse xs i x less ∙ ap (λ (k : ℕ). get_or xs k x) place ∙ get_or_from_slice_get xs (n - 1 - i) x x (sym e))

-- the links of a packet, from its fields
named_among : (i : Id) (c : ℕ) (fs seen from : Fields) → NumberedFrom seen from → (k : ℕ) → k ≡ count_of NidBg seen
    → ((key : Key) (n : ℕ) → find same_key key from ≡ Some n → find same_key key fs ≡ Some n)
    → named_from i fs k (links_among c fs from) ≡ flat_map (λ j. distance_of fs j ++ distance_of fs (suc j)) (elements_among i c fs from)
named_among i c fs seen [] u k m h = refl
named_among i c fs seen (f ∷ from) u k m h =
    let alone = numbered_distinct seen (f ∷ from) u in
    let later : (key : Key) (n : ℕ) → find same_key key from ≡ Some n → find same_key key fs ≡ Some n = λ key n q. h key n (found_later key_test f from alone.0 key n q) in
    split_on (is_of NidBg f.0)
    (λ o.
    let a : f.0.1 ≡ count_of NidBg seen = u.0 ∙ ap (λ v. count_of v seen) (sym (var_test.one NidBg f.0.0 o)) in
    let w : k ≡ f.0.1 = m ∙ sym a in
    let d : same_key (NidBg, f.0.1) f.0 ≡ true = equal_yes key_test (NidBg, f.0.1) f.0 (sym (of_is NidBg f.0 o)) in
    let s : find same_key (NidBg, f.0.1) fs ≡ Some f.1 = h (NidBg, f.0.1) f.1 (simp d) in
    let t : calls c f.0.1 fs i ≡ same_id (record { country = country_at c f.0.1 fs; number = f.1 }) i = ap (is_it (country_at c f.0.1 fs) i) s in
    let more : suc k ≡ count_of NidBg (seen ++ f ∷ []) = ap suc m ∙ sym (count-more NidBg seen f o) in
    let rest = named_among i c fs (seen ++ f ∷ []) from u.1 (suc k) more later in
    split_on (same_id (record { country = country_at c f.0.1 fs; number = f.1 }) i)
    (λ b. let g : calls c f.0.1 fs i ≡ true = t ∙ b in
    let both : distance_of fs k ++ distance_of fs (suc k) ≡ distance_of fs f.0.1 ++ distance_of fs (suc f.0.1) = ap (λ (j : ℕ). distance_of fs j ++ distance_of fs (suc j)) w in
    simp (o, b, g) (ap (λ (l : List Reviewed). l ++ named_from i fs (suc k) (links_among c fs from)) both ∙ ap (λ (l : List Reviewed). (distance_of fs f.0.1 ++ distance_of fs (suc f.0.1)) ++ l) rest))
    (λ b. let g : calls c f.0.1 fs i ≡ false = t ∙ b in simp (o, b, g) rest))
    (λ o. simp o (named_among i c fs (seen ++ f ∷ []) from u.1 k (m ∙ sym (count-other NidBg seen f o)) later))

pub named_is_looked : (i : Id) (c : ℕ) (x : Packet) → Numbered x.fields → named_in i c x ≡ links_looked i c x
named_is_looked i c x u = named_among i c x.fields [] x.fields u 0 refl (λ key n q. q)

pub named_more : (i : Id) (fs : Fields) (k : ℕ) (j : Id) (js : List Id) → same_id j i ≡ true → named_from i fs k (j ∷ js) ≡ (distance_of fs k ++ distance_of fs (k + 1)) ++ named_from i fs (k + 1) js
named_more i fs k j js d = let e : suc k ≡ k + 1 = omega arith in simp d (ap (λ (n : ℕ). (distance_of fs k ++ distance_of fs n) ++ named_from i fs n js) e)
