-- What is held under tags, in the order of a list of the tags.
use Rattle.std.proofs.Common.{◌≡◌, ◌∙◌, ℕ, zero, suc, Bool, true, false, cond, ◌||◌, List, [], ◌∷◌, Option, Some, None, length, option_map, slice_get, refl, sym, ap}
use Rattle.std.specs.Prelude.{option_and_then, is_some}
use Rattle.std.specs.Option.{option_map_or}
use Rattle.std.specs.Map.{keys_of}
use Rattle.std.proofs.lemmas.Bool.{true≢false}
use Rattle.balise_rules.specs.declared.tag.Tag.{Tag}
use Rattle.balise_rules.specs.Tagged.{find}
use Rattle.balise_rules.specs.Tags.{same_tag}
use Rattle.balise_rules.proofs.Tests.{split_on, split_keys, tag_test}
use Rattle.balise_index.specs.InOrder.{is_among, in_order, IsOrder}
pub use Rattle.indexmap.proofs.MapLemmas.{some_index}

-- something is held under each of these
abbrev pub All : {A : Type 0} → List (Tag × A) → List Tag → Type 0
All held gs = (g : Tag) → is_among g gs ≡ true → is_some (find same_tag g held) ≡ true

first_is : (g : Tag) (gs : List Tag) → is_among g (g ∷ gs) ≡ true
first_is g gs = simp (tag_test.itself g) refl

pub later_is : (q g : Tag) (gs : List Tag) → is_among q gs ≡ true → is_among q (g ∷ gs) ≡ true
later_is q g gs e = split_on (same_tag q g) (λ d. simp d refl) (λ d. simp d e)

pub all_there : {A : Type 0} {held : List (Tag × A)} {gs : List Tag} → IsOrder held gs → All held gs
all_there o g e = o.there g ∙ e

pub rest_there : {A : Type 0} (held : List (Tag × A)) (g : Tag) (gs : List Tag) → All held (g ∷ gs) → All held gs
rest_there held g gs h q e = h q (later_is q g gs e)

no_none : {A : Type 0} (o : Option A) (b : Bool) → o ≡ None → cond b o None ≡ o
no_none o true n = refl
no_none o false n = sym n

-- what is found among the groups in order
found : {A : Type 0} (held : List (Tag × A)) (g : Tag) (gs : List Tag) → find same_tag g (in_order held gs) ≡ cond (is_among g gs) (find same_tag g held) None
found held g [] = refl
found {A} held g (k ∷ ks) = by (find same_tag k held) refl (found held g ks)
  where
    by : (o : Option A) → find same_tag k held ≡ o → find same_tag g (in_order held ks) ≡ cond (is_among g ks) (find same_tag g held) None
        → find same_tag g (option_map_or (λ x. (k, x) ∷ in_order held ks) o (in_order held ks)) ≡ cond (same_tag g k || is_among g ks) (find same_tag g held) None
    by (Some x) e ih = split_keys tag_test g k (λ d q. simp d (sym (ap (λ u. find same_tag u held) q ∙ e))) (λ d. simp d ih)
    by None e ih = split_keys tag_test g k
        (λ d q. simp d (ih ∙ no_none (find same_tag g held) (is_among g ks) (ap (λ u. find same_tag u held) q ∙ e)))
        (λ d. simp d ih)

pub found-order : {A : Type 0} (held : List (Tag × A)) (gs : List Tag) (g : Tag) → IsOrder held gs → find same_tag g (in_order held gs) ≡ find same_tag g held
found-order {A} held gs g o = found held g gs ∙ by (find same_tag g held) refl
  where
    by : (x : Option A) → find same_tag g held ≡ x → cond (is_among g gs) x None ≡ x
    by (Some x) e = ap (λ b. cond b (Some x) None) (sym (o.there g) ∙ ap is_some e)
    by None e = no_none None (is_among g gs) refl

-- by what is held under the first
pub first_held : {A P : Type 0} (held : List (Tag × A)) (g : Tag) (gs : List Tag) → All held (g ∷ gs) → ((x : A) → find same_tag g held ≡ Some x → P) → P
first_held {A} {P} held g gs h f = by (find same_tag g held) refl
  where
    by : (o : Option A) → find same_tag g held ≡ o → P
    by (Some x) e = f x e
    by None e = absurd (true≢false (sym (h g (first_is g gs)) ∙ ap is_some e))

pub keys-order : {A : Type 0} (held : List (Tag × A)) (gs : List Tag) → All held gs → keys_of (in_order held gs) ≡ gs
keys-order held [] h = refl
keys-order held (g ∷ gs) h = first_held held g gs h (λ x e. simp e (ap (λ l. g ∷ l) (keys-order held gs (rest_there held g gs h))))

pub length-order : {A : Type 0} (held : List (Tag × A)) (gs : List Tag) → All held gs → length (in_order held gs) ≡ length gs
length-order held [] h = refl
length-order held (g ∷ gs) h = first_held held g gs h (λ x e. simp e (ap suc (length-order held gs (rest_there held g gs h))))

-- the group at a place
pub at-order : {A : Type 0} (held : List (Tag × A)) (gs : List Tag) (i : ℕ) → All held gs → slice_get (in_order held gs) i ≡ option_and_then (λ g. option_map (λ (x : A). (g, x)) (find same_tag g held)) (slice_get gs i)
at-order held [] i h = refl
at-order held (g ∷ gs) zero h = first_held held g gs h (λ x e. simp e refl)
at-order held (g ∷ gs) (suc i) h = first_held held g gs h (λ x e. simp e (at-order held gs i (rest_there held g gs h)))

-- only what is held under the tags counts
pub same-order : {A : Type 0} (new held : List (Tag × A)) (gs : List Tag) → ((q : Tag) → is_among q gs ≡ true → find same_tag q new ≡ find same_tag q held) → in_order new gs ≡ in_order held gs
same-order new held [] h = refl
same-order new held (g ∷ gs) h =
    ap (λ o. option_map_or (λ x. (g, x) ∷ in_order new gs) o (in_order new gs)) (h g (first_is g gs))
    ∙ ap (λ l. option_map_or (λ x. (g, x) ∷ l) (find same_tag g held) l) (same-order new held gs (λ q e. h q (later_is q g gs e)))

-- another tag than one that isn't among these
pub other : (g q : Tag) (gs : List Tag) → is_among g gs ≡ false → is_among q gs ≡ true → same_tag g q ≡ false
other g q gs n e = split_keys tag_test g q (λ d k. absurd (true≢false (sym e ∙ ap (λ u. is_among u gs) (sym k) ∙ n))) (λ d. d)

pub not_first : (g k : Tag) (ks : List Tag) → is_among g (k ∷ ks) ≡ false → same_tag g k ≡ false
not_first g k ks n = split_on (same_tag g k) (λ d. absurd (let h = simp d at n in cc)) (λ d. d)

pub not_later : (g k : Tag) (ks : List Tag) → is_among g (k ∷ ks) ≡ false → is_among g ks ≡ false
not_later g k ks n = split_on (same_tag g k) (λ d. absurd (let h = simp d at n in cc)) (λ d. let h = simp d at n in h)

pub among-none : {A : Type 0} (held : List (Tag × A)) (gs : List Tag) (g : Tag) → IsOrder held gs → find same_tag g held ≡ None → is_among g gs ≡ false
among-none held gs g o e = sym (o.there g) ∙ ap is_some e
