-- Places that meet, list by list.
use Rattle.std.proofs.Common.{◌≡◌, ◌+◌, ◌∙◌, ℕ, refl, ap, Bool, true, false, cond, ◌&&◌, ◌||◌, not, List, [], ◌∷◌, ◌++◌, drop}
use Rattle.std.specs.Prelude.{Option, Some, None, slice_get}
use Rattle.balise_rules.specs.declared.variable.Var.TheVariants.{NidBg, QLinkorientation, QDir, MDup}
use Rattle.balise_rules.specs.declared.identity.Id.{Id}
use Rattle.balise_rules.specs.Tags.{same_var}
use Rattle.balise_rules.specs.declared.tagged_edit.TaggedEdit.TheVariants.{SetVar, SetHead}
use Rattle.balise_rules.specs.Paths.{Part, Path, Entry, At, Nth, Of, Turn, Whose, same_part, changes, needs, ids, meet, meets_any, any_meets, room_apart, apart}
use Rattle.balise_edits.specs.Needs.{needed_place, needed_names, listed, left_out, but, clear}
use Rattle.balise_plan.proofs.GroupLists.{drop_found}
use Rattle.balise_edits.proofs.Steps.{drop-none}

by-var : (a b c : Bool) → (x y : Path) → (is : List Id) → cond a (x ∷ []) (cond b (y ∷ ids is) (cond c (ids is) [])) ≡ listed (cond a (Some x) (cond b (Some y) None)) ++ ids (cond a [] (cond b is (cond c is [])))
by-var true b c x y is = refl
by-var false true c x y is = refl
by-var false false true x y is = refl
by-var false false false x y is = refl

by-head : (a : Bool) → (x : Path) → cond a (x ∷ []) [] ≡ listed (cond a (Some x) None) ++ []
by-head true x = refl
by-head false x = refl

pub needs_split : (e : Entry) → needs e ≡ listed (needed_place e) ++ ids (needed_names e)
needs_split ((s, SetVar g t p v k n), m) = by-var (same_var QDir v) (same_var QLinkorientation v) (same_var NidBg v) (At g ∷ Turn ∷ []) (At g ∷ Nth t ∷ At p ∷ Of NidBg ∷ Nth k ∷ []) m.names
needs_split ((s, SetHead g t v n), m) = by-head (same_var MDup v) (At g ∷ Turn ∷ [])
needs_split ((s, e), m) = refl

or-assoc : (a b c : Bool) → (a || (b || c)) ≡ ((a || b) || c)
or-assoc true b c = refl
or-assoc false b c = refl

pub meets_any-append : (p : Path) → (qs rs : List Path) → meets_any p (qs ++ rs) ≡ (meets_any p qs || meets_any p rs)
meets_any-append p [] rs = refl
meets_any-append p (q ∷ qs) rs = ap (λ b. meet p q || b) (meets_any-append p qs rs) ∙ or-assoc (meet p q) (meets_any p qs) (meets_any p rs)

-- a place against a list that is gone through by place
pub meets-here : (out : Option Path) → (p q : Path) → (qs : List Path) → (i : ℕ) → slice_get qs i ≡ Some q → (not (left_out out q) && meet p q) ≡ true → meets_any p (but out (drop i qs)) ≡ true
meets-here out p q qs i e h = rw (drop_found qs i q e) (step (left_out out q) h) where
  step : (b : Bool) → (not b && meet p q) ≡ true → meets_any p (cond (not b) (q ∷ but out (drop (i + 1) qs)) (but out (drop (i + 1) qs))) ≡ true
  step true h = absurd (cc)
  step false h = ap (λ b. b || meets_any p (but out (drop (i + 1) qs))) h

pub meets-more : (out : Option Path) → (p q : Path) → (qs : List Path) → (i : ℕ) → slice_get qs i ≡ Some q → (not (left_out out q) && meet p q) ≡ false → meets_any p (but out (drop i qs)) ≡ meets_any p (but out (drop (i + 1) qs))
meets-more out p q qs i e h = rw (drop_found qs i q e) (step (left_out out q) h) where
  step : (b : Bool) → (not b && meet p q) ≡ false → meets_any p (cond (not b) (q ∷ but out (drop (i + 1) qs)) (but out (drop (i + 1) qs))) ≡ meets_any p (but out (drop (i + 1) qs))
  step true h = refl
  step false h = ap (λ b. b || meets_any p (but out (drop (i + 1) qs))) h

pub meets-none : (out : Option Path) → (p : Path) → (qs : List Path) → (i : ℕ) → slice_get qs i ≡ None → meets_any p (but out (drop i qs)) ≡ false
meets-none out p qs i e = rw (drop-none qs i e)

-- and each place of one list against another
pub any-here : (p : Path) → (ps qs : List Path) → (i : ℕ) → slice_get ps i ≡ Some p → meets_any p qs ≡ true → any_meets (drop i ps) qs ≡ true
any-here p ps qs i e h = rw (drop_found ps i p e) (ap (λ b. b || any_meets (drop (i + 1) ps) qs) h)

pub any-more : (p : Path) → (ps qs : List Path) → (i : ℕ) → slice_get ps i ≡ Some p → meets_any p qs ≡ false → any_meets (drop i ps) qs ≡ any_meets (drop (i + 1) ps) qs
any-more p ps qs i e h = rw (drop_found ps i p e) (ap (λ b. b || any_meets (drop (i + 1) ps) qs) h)

-- a place that is no identity meets none
pub meets-no-name : (a : Part) → (r : Path) → ((i : Id) → same_part a (Whose i) ≡ false) → (is : List Id) → meets_any (a ∷ r) (ids is) ≡ false
meets-no-name a r h [] = refl
meets-no-name a r h (i ∷ is) = ap (λ b. (b && meet r []) || meets_any (a ∷ r) (ids is)) (h i) ∙ meets-no-name a r h is

-- what an entry changes and needs, in the three parts in which it is looked at
pub touched : (out : Option Path) → (p : Path) → (e : Entry) → meets_any p (but out (changes e) ++ needs e) ≡ (meets_any p (but out (changes e)) || (meets_any p (listed (needed_place e)) || meets_any p (ids (needed_names e))))
touched out p e =
    meets_any-append p (but out (changes e)) (needs e)
    ∙ ap (λ qs. meets_any p (but out (changes e)) || meets_any p qs) (needs_split e)
    ∙ ap (λ b. meets_any p (but out (changes e)) || b) (meets_any-append p (listed (needed_place e)) (ids (needed_names e)))

pub but_none : (ps : List Path) → but None ps ≡ ps
but_none [] = refl
but_none (p ∷ ps) = ap (λ qs. p ∷ qs) (but_none ps)

pub clear_of_none : (e f : Entry) → clear None e f ≡ apart e f
clear_of_none e f = ap (λ qs. not (any_meets (changes e) (qs ++ needs f)) && (not (any_meets (needs e) qs) && room_apart e.0.1 f.0.1)) (but_none (changes f))
