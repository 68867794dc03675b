-- The two lists of a session: the entries that stand, and those that were undone or struck.
use Rattle.std.specs.Prelude.{◌≡◌, ◌+◌, ◌<◌, ℕ, suc, Bool, cond, nat_lt, eqb, All, List, [], ◌∷◌, ◌++◌, map, find, take, drop, Option, Some, None, is_some, Result, Ok, Err, slice_get}
use Rattle.balise_rules.specs.declared.refusal.Refusal.{Refusal}
use Rattle.balise_rules.specs.declared.refusal.Refusal.TheVariants.{OutOfMemory}
use Rattle.balise_rules.specs.declared.tag.Tag.{Tag}
use Rattle.balise_rules.specs.declared.tag.Tag.TheVariants.{Fresh}
use Rattle.balise_rules.specs.Edits.{Item}
use Rattle.balise_rules.specs.Notes.{noted, without_content}
use Rattle.balise_rules.specs.Doing.{done}
use Rattle.balise_rules.specs.Back.{back}
use Rattle.balise_rules.specs.Paths.{Entry}
use Rattle.balise_rules.specs.Behind.{anchor_of}
use Rattle.balise_rules.specs.Session.{Removed}
use Rattle.balise_plan.specs.Held.{Plan}
use Rattle.balise_edits.specs.Anchors.{hung_on}
use Rattle.balise_edits.specs.Standing.{changed_to}
use Rattle.balise_history.specs.declared.history.Undone.{Undone}

-- an entry that was undone or struck, and the serials of the later edits that stood after it
abbrev pub Gone : Type 0
Gone = Entry × List ℕ

-- The entries that stand, by rising serial; those undone or struck, the last one first; and how many more entries both lists have room for.
pub record History : Type 0 where
  pub standing : List Entry
  pub stack : List Gone
  pub room : ℕ

abbrev pub gone_of : Undone → Gone
gone_of u = (u.entry, u.behind.items)

abbrev pub items_of : List Entry → List Item
items_of es = map (λ (e : Entry). e.0) es

abbrev pub removed_of : Gone → Removed
removed_of r = record { item = r.0.0; behind = r.1 }

-- the serial of the top of a stack
abbrev pub top_serial : List Gone → Option ℕ
top_serial [] = None
top_serial (r ∷ rs) = Some r.0.0.0

-- each number is below those after it
abbrev pub Ascends : List ℕ → Type 0
Ascends [] = Unit {0}
Ascends (n ∷ ns) = All (λ m. n < m) ns × Ascends ns

-- whether a number is among others
abbrev pub is_among : ℕ → List ℕ → Bool
is_among n ns = is_some (find (λ m. eqb m n) ns)

-- how many entries have a lower serial, where serials rise
abbrev pub place_of : ℕ → List Entry → ℕ
place_of serial [] = 0
place_of serial (e ∷ es) = cond (nat_lt e.0.0 serial) (suc (place_of serial es)) 0

-- the entries of these serials with this anchor
abbrev pub entries_re_anchored : Option Tag → List ℕ → List Entry → List Entry
entries_re_anchored a serials es = map (λ (e : Entry). cond (is_among e.0.0 serials) (hung_on a e) e) es

-- The entry at a place is taken back and goes to the stack, and those of these serials after it get its anchor; or it is out of memory, and all stays.
abbrev pub TakesOut : ℕ → List ℕ → Plan → History → {A : Type 0} → Result A Refusal → Plan → History → Type 0
TakesOut n serials p h (Ok u) q k =
    (e : Entry) × (slice_get h.standing n ≡ Some e) × (q ≡ changed_to (back e.0 e.1 p.groups) p)
    × (k.standing ≡ take n h.standing ++ entries_re_anchored (anchor_of e.0.1) serials (drop (n + 1) h.standing))
    × (k.stack ≡ ((e.0, without_content e.1), serials) ∷ h.stack)
TakesOut n serials p h (Err r) q k = (r ≡ OutOfMemory) × (q ≡ p) × (k ≡ h)

-- The top of the stack is done again and put at a place, and those after it of its serials get what it put in as their anchor; or it is out of memory, and all stays.
abbrev pub PutsBack : ℕ → Gone → Plan → History → {A : Type 0} → Result A Refusal → Plan → History → Type 0
PutsBack n r p h (Ok u) q k =
    (q ≡ changed_to (done r.0.0 p.groups) p)
    × (k.standing ≡ take n h.standing ++ (r.0.0, noted r.0.0.1 p.groups) ∷ entries_re_anchored (Some (Fresh r.0.0.0)) r.1 (drop n h.standing))
    × (h.stack ≡ r ∷ k.stack)
PutsBack n r p h (Err e) q k = (e ≡ OutOfMemory) × (q ≡ p) × (k ≡ h)
