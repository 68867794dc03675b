-- Links in the index: added and forgotten one after another.
use Rattle.std.proofs.Common.{◌≡◌, ◌∙◌, ℕ, zero, suc, ◌+◌, Bool, true, false, cond, ◌&&◌, ◌||◌, List, [], ◌∷◌, ◌++◌, drop, slice_get, Some, Result, Ok, Err, OnErr, refl, sym, ap, subst, arith, drop-cons, add-one}
use Rattle.std.proofs.lemmas.Option.{slice_get_within, get_or_from_slice_get}
use Rattle.std.proofs.lemmas.Bool.{or_parts, cond_both}
use Rattle.std.proofs.Math.Bool.{or_assoc, or-false}
use Rattle.std.specs.BTreeSet as set
use Rattle.balise_rules.specs.declared.identity.Id.{Id}
use Rattle.balise_rules.specs.declared.tag.Tag.{Tag}
use Rattle.balise_rules.specs.Tagged.{find, Distinct}
use Rattle.balise_rules.specs.Telegram.{Telegram}
use Rattle.balise_rules.specs.Plan.{Group, SoundFrom, IsSoundTelegram}
use Rattle.balise_rules.specs.Names.{is_real}
use Rattle.balise_rules.proofs.Cases.{unsome}
use Rattle.balise_rules.proofs.Tests.{IsTest, equal_yes}
use Rattle.balise_rules.proofs.Each.{found_later}
use Rattle.balise_index.specs.declared.link_place.LinkPlace.{LinkPlace}
use Rattle.balise_index.specs.NameIndex.{held, IndexOf, Keeps, Sets}
use Rattle.balise_index.specs.Identities.{is_id}
use Rattle.balise_index.specs.Places.{is_place}
use Rattle.balise_plan.specs.GroupLinks.{listed, links_from, KeepsOthers, SetsAll}

abbrev pub Links : Type 0
Links = List (Id × LinkPlace)

abbrev pub Index : Type 0
Index = IndexOf (set.BTreeSet LinkPlace)

pub listed-append : (q : Id) (w : LinkPlace) (a b : Links) → listed q w (a ++ b) ≡ (listed q w a || listed q w b)
listed-append q w [] b = refl
listed-append q w (l ∷ a) b = ap (λ (x : Bool). (is_id l.0 q && is_place l.1 w) || x) (listed-append q w a b) ∙ sym (or_assoc (is_id l.0 q && is_place l.1 w) (listed q w a) (listed q w b))

-- ---- one list after another

pub sets_then : (v : Bool) (a b : Links) (old mid new : Index) → SetsAll v a old mid → SetsAll v b mid new → SetsAll v (a ++ b) old new
sets_then v a b old mid new f h q w = h q w ∙ ap (cond (listed q w b) v) (f q w) ∙ by (listed q w a) (listed q w b) (held old q w) ∙ ap (λ (x : Bool). cond x v (held old q w)) (sym (listed-append q w a b))
  where
    by : (x y o : Bool) → cond y v (cond x v o) ≡ cond (x || y) v o
    by x y o = grind arith

pub others_then : (a b : Links) (old mid new : Index) → KeepsOthers a old mid → KeepsOthers b mid new → KeepsOthers (a ++ b) old new
others_then a b old mid new f h q w e = let n = or_parts (listed q w a) (listed q w b) (sym (listed-append q w a b) ∙ e) in h q w n.1 ∙ f q w n.0

-- what was set leaves the others
pub sets_others : (v : Bool) (ls : Links) (old new : Index) → SetsAll v ls old new → KeepsOthers ls old new
sets_others v ls old new f q w e = f q w ∙ ap (λ (x : Bool). cond x v (held old q w)) e

-- what is noted then is listed, or was noted before
pub noted_or : (ls : Links) (old new : Index) → SetsAll true ls old new → (q : Id) (w : LinkPlace) → held new q w ≡ (listed q w ls || held old q w)
noted_or ls old new f q w = f q w ∙ by (listed q w ls)
  where
    by : (x : Bool) → cond x true (held old q w) ≡ (x || held old q w)
    by x = grind arith

-- what failed on the way, and the rest not begun
pub others_before : (a b : Links) (old mid : Index) → KeepsOthers a old mid → KeepsOthers (a ++ b) old mid
others_before a b old mid f = others_then a b old mid mid f (λ q w e. refl)

pub on_err : {A E P : Type 0} (r : Result A E) → P → OnErr r P
on_err (Ok a) p = tt
on_err (Err e) p = p

-- ---- one link

pub sets_one : (v : Bool) (l : Id × LinkPlace) (old new : Index) → Sets old new l.0 l.1 v → SetsAll v (l ∷ []) old new
sets_one v l old new s q w = s q w ∙ ap (λ (x : Bool). cond x v (held old q w)) (sym (or-false (is_id l.0 q && is_place l.1 w)))

-- ---- the links of a packet, one after another

pub drop_found : {X : Type 0} (xs : List X) (i : ℕ) (x : X) → slice_get xs i ≡ Some x → drop i xs ≡ x ∷ drop (i + 1) xs
drop_found xs i x e = grind (arith, slice_get_within xs i x e, get_or_from_slice_get xs i x x e, drop-cons xs i x)

-- the next identity is listed if it is real
pub from_next : (g : Tag) (t : ℕ) (p : Tag) (k : ℕ) (is : List Id) (i : Id) → slice_get is k ≡ Some i →
    links_from g t p k (drop k is) ≡ cond (is_real i) ((i, record { group = g; telegram = t; packet = p; element = k }) ∷ links_from g t p (k + 1) (drop (k + 1) is)) (links_from g t p (k + 1) (drop (k + 1) is))
from_next g t p k is i e = ap (links_from g t p k) (drop_found is k i e) ∙ rw add-one refl

-- ---- what was added, in part, and forgotten again

pub taken_back : (ls : Links) (old mid new : Index) → ((q : Id) (w : LinkPlace) → listed q w ls ≡ true → held old q w ≡ false) → KeepsOthers ls old mid → SetsAll false ls mid new → Keeps old new
taken_back ls old mid new none k f q w = f q w ∙ cond_both (listed q w ls) false (held mid q w) (λ v. v ≡ held old q w) (λ e. sym (none q w e)) (k q w)

-- ---- going over packets and telegrams

pub found_at : {K X : Type 0} {same : K → K → Bool} → IsTest same → (xs : List (K × X)) (i : ℕ) (k : K) (x : X) → Distinct same xs → slice_get xs i ≡ Some (k, x) → find same k xs ≡ Some x
found_at t [] i k x u e = absurd cc
found_at {same = same} t (y ∷ ys) zero k x u e =
    let key : y.0 ≡ k = ap (λ q. q.0) (unsome e) in
    let d : same k y.0 ≡ true = equal_yes t k y.0 (sym key) in
    simp d (ap (λ q. Some q.1) (unsome e))
found_at t (y ∷ ys) (suc i) k x u e = found_later t y ys u.0 k x (found_at t ys i k x u.1 e)

pub sound_at : (j : Id) (last n : ℕ) (ys : Group) (i t : ℕ) (y : Telegram) → SoundFrom j last n ys → slice_get ys i ≡ Some (t, y) → IsSoundTelegram j last (n + i) y
sound_at j last n [] i t y s e = absurd cc
sound_at j last n (z ∷ zs) zero t y s e =
    let at : n ≡ n + 0 = omega arith in
    subst (λ (k : ℕ). IsSoundTelegram j last k y) at (subst (IsSoundTelegram j last n) (ap (λ (q : ℕ × Telegram). q.1) (unsome e)) s.0)
sound_at j last n (z ∷ zs) (suc i) t y s e =
    let at : suc n + i ≡ n + suc i = omega arith in
    subst (λ (k : ℕ). IsSoundTelegram j last k y) at (sound_at j last (suc n) zs i t y s.1 e)
