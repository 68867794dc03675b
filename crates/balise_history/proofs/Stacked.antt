-- The serials of a stack, the top last.
use Rattle.std.proofs.Common.{◌-◌, ◌≡◌, ◌≤◌, ◌<◌, ◌∙◌, ℕ, suc, List, [], ◌∷◌, ◌++◌, get_or, length, map, reverse, take, refl, sym, ap, arith}
use Rattle.std.proofs.Math.Seq.{take-suc}
use Rattle.std.proofs.lemmas.List.{map-append, reverse-append, reverse-reverse, take_all}
use Rattle.std.proofs.lemmas.Simd.{map-map}
use Rattle.balise_rules.specs.Session.{Removed}
use Rattle.balise_history.specs.declared.history.Undone.{Undone}
use Rattle.balise_history.specs.Lists.{Gone, gone_of, removed_of}

abbrev pub serial_of : Undone → ℕ
serial_of u = u.entry.0.0

map-reverse : {A : Type 0} (f : A → ℕ) (xs : List A) → map f (reverse xs) ≡ reverse (map f xs)
map-reverse f [] = refl
map-reverse f (x ∷ xs) = ap (map f) (reverse-append (x ∷ []) xs) ∙ map-append f (reverse xs) (x ∷ []) ∙ ap (λ ns. ns ++ f x ∷ []) (map-reverse f xs) ∙ sym (reverse-append (f x ∷ []) (map f xs))

of-gone : (us : List Undone) → map (λ (r : Gone). r.0.0.0) (map gone_of us) ≡ map serial_of us
of-gone = map-map (λ (r : Gone). r.0.0.0) gone_of

pub stacked : (us : List Undone) (n : ℕ) → length us ≤ n → map serial_of (take n us) ≡ reverse (map (λ (r : Gone). r.0.0.0) (map gone_of (reverse us)))
stacked us n l =
    ap (map serial_of) (take_all n us l)
    ∙ sym (ap reverse (of-gone (reverse us) ∙ map-reverse serial_of us) ∙ reverse-reverse (map serial_of us))

pub of-removed : (rs : List Gone) → map (λ (r : Gone). r.0.0.0) rs ≡ map (λ (r : Removed). r.item.0) (map removed_of rs)
of-removed rs = sym (map-map (λ (r : Removed). r.item.0) removed_of rs)

-- what is left of a stack, the top first
abbrev pub remaining : List Undone → ℕ → List Gone
remaining us n = map gone_of (reverse (take n us))

pub remaining-step : (us : List Undone) (n : ℕ) (d : Undone) → n < length us → remaining us (suc n) ≡ gone_of (get_or us n d) ∷ remaining us n
remaining-step us n d l = ap (λ (xs : List Undone). map gone_of (reverse xs)) (take-suc us n d l) ∙ ap (map gone_of) (reverse-append (take n us) (get_or us n d ∷ []))

pub remaining-all : (us : List Undone) (n : ℕ) → length us ≤ n → remaining us n ≡ map gone_of (reverse us)
remaining-all us n l = ap (λ (xs : List Undone). map gone_of (reverse xs)) (take_all n us l)

-- the last of the list is the top
last-top : (us : List Undone) (n : ℕ) (d : Undone) (r : Gone) (rs : List Gone) → suc n ≡ length us → map gone_of (reverse us) ≡ r ∷ rs → gone_of (get_or us n d) ≡ r
last-top us n d r rs l h =
    let a : gone_of (get_or us n d) ∷ remaining us n ≡ r ∷ rs = sym (remaining-step us n d (omega arith)) ∙ remaining-all us (suc n) (omega arith) ∙ h in
    cc

pub top-at : (us : List Undone) (n : ℕ) (d : Undone) (r : Gone) (rs : List Gone) → n ≡ length us - 1 → map gone_of (reverse us) ≡ r ∷ rs → gone_of (get_or us n d) ≡ r
top-at [] n d r rs l h = absurd cc
top-at (u ∷ us) n d r rs l h = last-top (u ∷ us) n d r rs (omega arith) h
