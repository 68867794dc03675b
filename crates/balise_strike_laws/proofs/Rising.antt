-- Serials that rise.
-- Proves that they rise among fewer edits and with other anchors, that they rise where they lie between two numbers, and what one more after them keeps.
use Rattle.std.proofs.Common.{◌≡◌, ◌≢◌, ◌<◌, ◌≤◌, ℕ, suc, All, not, eqb, nat_lt, List, [], ◌∷◌, ◌++◌, Option, arith, Bool, true, false, cond}
use Rattle.std.specs.Prelude.{find, is_some}
use Rattle.std.proofs.lemmas.List.Elements.{All-nil, All-cons, All-head, All-tail, All-filter}
use Rattle.balise_rules.specs.declared.tag.Tag.{Tag}
use Rattle.balise_rules.specs.Edits.{Item}
use Rattle.balise_rules.specs.Behind.{anchored, hung}
use Rattle.balise_rules.specs.Journal.{all_back}
use Rattle.balise_rules.specs.Opening.{last_serial}
use Rattle.balise_rules.specs.Session.{Removed, others, put_by_serial}
use Rattle.balise_strike_laws.specs.InSession.{Rising, Between}
use Rattle.balise_rules.proofs.Tests.{split_on}

-- a serial that others are above
abbrev Below : ℕ → Item → Type 0
Below n f = n < f.0

pub rising-others : (s : ℕ) → (es : List Item) → Rising es → Rising (others s es)
rising-others s [] r = tt
rising-others s (f ∷ fs) r = split_on (eqb f.0 s) (λ e. simp e (rising-others s fs r.1))
    (λ e. simp e (All-filter (λ (x : Item). not (eqb x.0 s)) (Below f.0) fs r.0, rising-others s fs r.1))

all-hung : (n : ℕ) → (a : Option Tag) → (B : List ℕ) → (es : List Item) → All (Below n) es → All (Below n) (hung a B es)
all-hung n a B [] w = All-nil (Below n)
all-hung n a B (f ∷ fs) w = by (is_some (find (λ m. eqb m f.0) B)) (all-hung n a B fs (All-tail (Below n) f fs w))
  where
    by : (b : Bool) → All (Below n) (hung a B fs) → All (Below n) (cond b (f.0, anchored a f.1) f ∷ hung a B fs)
    by true more = All-cons (Below n) (f.0, anchored a f.1) (hung a B fs) (All-head (Below n) f fs w) more
    by false more = All-cons (Below n) f (hung a B fs) (All-head (Below n) f fs w) more

pub rising-hung : (a : Option Tag) → (B : List ℕ) → (es : List Item) → Rising es → Rising (hung a B es)
rising-hung a B [] r = tt
rising-hung a B (f ∷ fs) r =
    let own = all-hung f.0 a B fs r.0 in let rest = rising-hung a B fs r.1 in
    split_on (is_some (find (λ m. eqb m f.0) B)) (λ e. simp e (own, rest)) (λ e. simp e (own, rest))

-- ---- serials between two numbers

above : (l m n : ℕ) → l ≤ m → (es : List Item) → Between m n es → All (Below l) es
above l m n h [] b = All-nil (Below l)
above l m n h (e ∷ es) b = All-cons (Below l) e es (let k = b.0 in omega arith) (above l e.0 n (let k = b.0 in omega arith) es b.2)

pub rising-between : (l n : ℕ) → (es : List Item) → Between l n es → Rising es
rising-between l n [] b = tt
rising-between l n (e ∷ es) b = (above e.0 e.0 n (omega arith) es b.2, rising-between e.0 n es b.2)

between-hung : (l n : ℕ) → (a : Option Tag) → (B : List ℕ) → (es : List Item) → Between l n (hung a B es) → Between l n es
between-hung l n a B [] b = tt
between-hung l n a B (f ∷ fs) b =
    split_on (is_some (find (λ m. eqb m f.0) B)) (λ e. let w = simp e at b in (w.0, w.1, between-hung f.0 n a B fs w.2)) (λ e. let w = simp e at b in (w.0, w.1, between-hung f.0 n a B fs w.2))

-- from a lower number on
lower : (l m n : ℕ) → l ≤ m → (es : List Item) → Between m n es → Between l n es
lower l m n h [] b = tt
lower l m n h (e ∷ es) b = (let k = b.0 in omega arith, b.1, b.2)

between-put : (l n : ℕ) → (e : Item) → (es : List Item) → Between l n (put_by_serial e es) → Between l n es
between-put l n e [] b = tt
between-put l n e (f ∷ fs) b = split_on (nat_lt e.0 f.0)
    (λ d. let w = simp d at b in lower l e.0 n (let k = w.0 in omega arith) (f ∷ fs) w.2)
    (λ d. let w = simp d at b in (w.0, w.1, between-put f.0 n e fs w.2))

-- the standing edits lie where all lie that would stand again
pub between-back : (l n : ℕ) → (rs : List Removed) → (es : List Item) → Between l n (all_back rs es) → Between l n es
between-back l n [] es b = b
between-back l n (r ∷ rs) es b = between-hung l n _ r.behind es (between-put l n r.item _ (between-back l n rs _ b))

-- with the next serial after them
pub between-next : (l n : ℕ) → (x : Item) → x.0 ≡ n → l < n → (es : List Item) → Between l n es → Between l (suc n) (es ++ x ∷ [])
between-next l n x q h [] b = (omega arith, omega arith, tt)
between-next l n x q h (e ∷ es) b = (b.0, let k = b.1 in omega arith, between-next e.0 n x q b.1 es b.2)

-- each serial is another than one that isn't below the number
pub others-above : (l n m : ℕ) → n ≤ m → (es : List Item) → Between l n es → All (λ e. m ≢ e.0) es
others-above l n m h [] b = All-nil (λ e. m ≢ e.0)
others-above l n m h (e ∷ es) b = All-cons (λ x. m ≢ x.0) e es (λ q. let k = b.1 in absurd (omega arith)) (others-above e.0 n m h es b.2)

more : (l n : ℕ) → (x e : Item) → (es : List Item) → last_serial (e ∷ es) < x.0 → x.0 < n → Between l n (e ∷ es) → Between l n (e ∷ (es ++ x ∷ []))
more l n x e [] h w b = (b.0, b.1, (h, w, tt))
more l n x e (f ∷ fs) h w b = (b.0, b.1, more e.0 n x f fs h w b.2)

-- with one more above the last
pub between-more : (n : ℕ) → (x : Item) → (es : List Item) → last_serial es < x.0 → x.0 < n → Between 0 n es → Between 0 n (es ++ x ∷ [])
between-more n x [] h w b = (h, w, tt)
between-more n x (e ∷ es) h w b = more 0 n x e es h w b

above-all : (l n : ℕ) → (x : Item) → (es : List Item) → Between l n (es ++ x ∷ []) → l < x.0
above-all l n x [] b = b.0
above-all l n x (e ∷ es) b = let k = b.0 in let m = above-all e.0 n x es b.2 in omega arith

-- those before the last one are below it
pub between-before : (l n : ℕ) → (x : Item) → (es : List Item) → Between l n (es ++ x ∷ []) → Between l x.0 es
between-before l n x [] b = tt
between-before l n x (e ∷ es) b = (b.0, above-all e.0 n x es b.2, between-before e.0 n x es b.2)
