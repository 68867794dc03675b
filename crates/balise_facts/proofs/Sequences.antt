-- Texts that are written one after another, and what stops them.
use Rattle.std.proofs.Common.{◌≡◌, ◌≢◌, ◌∙◌, ◌<◌, ◌+◌, ℕ, suc, Bool, true, false, find, List, [], ◌∷◌, ◌++◌, Option, Some, None, Result, Ok, Err, MatchResult, length, drop, map, get_or, slice_get, drop-cons, refl, sym, ap, arith}
use Rattle.std.proofs.KnownBytes.{Appends-nil}
use Rattle.std.proofs.lemmas.List.{drop_all}
use Rattle.balise_lines.specs.Writing.{LastFailed, NoneFailed, Reason, WritesAll, WritesSome}
use Rattle.balise_lines.specs.declared.counted.Counted.{Counted}
use Rattle.balise_lines.proofs.PartsWritten.{some_last, wrote_all, wrote_last, wrote_more, wrote_none, wrote_some}
use Rattle.balise_text.specs.Printing.{reason_of}
use Rattle.balise_text.specs.Texts.{Text, text_of}
use Rattle.balise_text.specs.declared.run_fault.RunFault.{RunFault}
use Rattle.balise_text.specs.declared.run_fault.RunFault.TheVariants.{WriteFault}
use Rattle.balise_rules.specs.Paths.{Path}
use Rattle.balise_plan.proofs.GroupLists.{drop_found}
use Rattle.balise_plan.proofs.groups.Copied.{no-more}
use Rattle.balise_facts.specs.FactTexts.{lines_text}

-- the first text was begun
pub begun_first : {W : Type 0} {why : Reason} {contents : W → Option (List ℕ)} {xs : List ℕ} {old new : Counted W}
    (ys : List ℕ) → WritesSome why contents old new xs → WritesSome why contents old new (xs ++ ys)
begun_first ys s = wrote_some _ _ _ _ _ ys _ _ _ refl (wrote_none _ _ _) s

-- the first text was written, and the second was begun
pub begun_next : {W : Type 0} {why : Reason} {contents : W → Option (List ℕ)} {xs ys : List ℕ}
    {old now new : Counted W} → WritesAll contents old now xs → WritesSome why contents now new ys →
    WritesSome why contents old new (xs ++ ys)
begun_next w s = some_last _ _ _ _ _ _ _ _ refl (wrote_more _ _ _ _ _ _ _ _ refl (wrote_none _ _ _) w) s

-- the first text was written, and the second was, or was begun
pub done_next : {W A E : Type 0} (why : E → Reason) (contents : W → Option (List ℕ)) (r : Result A E) (xs ys : List ℕ)
    (old now new : Counted W) → WritesAll contents old now xs →
    MatchResult r (λ _. WritesAll contents now new ys) (λ e. WritesSome (why e) contents now new ys) →
    MatchResult r (λ _. WritesAll contents old new (xs ++ ys)) (λ e. WritesSome (why e) contents old new (xs ++ ys))
done_next why contents (Ok a) xs ys old now new w s = wrote_last contents _ ys ys old now new refl
    (wrote_more contents _ _ xs ys old old now refl (wrote_none contents _ old) w) s
done_next why contents (Err b) xs ys old now new w s = begun_next w s

-- What stops a text.

-- a call failed
pub call_failed : {W : Type 0} {contents : W → Option (List ℕ)} {old new : Counted W} {text : List ℕ}
    {fault : RunFault} → fault ≡ WriteFault → WritesSome LastFailed contents old new text →
    WritesSome (reason_of fault) contents old new text
call_failed e s = rw e s

-- nothing of the text was written
pub nothing_yet : {W : Type 0} (contents : W → Option (List ℕ)) (now : Counted W) (text : List ℕ) → text ≢ [] →
    WritesSome NoneFailed contents now now text
nothing_yet contents now text h = record {
  begun = record { done = []; begins = (text, refl); appended = Appends-nil (contents now.inner) };
  cause = refl;
  left = h;
}

-- an edit has a line
pub edit_is_some : (s : ℕ) (changed needed : List Path) (dependents : List ℕ) →
    lines_text s changed needed dependents ≢ []
edit_is_some s changed needed dependents = λ e. absurd cc

-- An item of a list, and those after it.

item_at : {X : Type 0} (xs : List X) (i : ℕ) (d : X) → i < length xs → drop i xs ≡ get_or xs i d ∷ drop (i + 1) xs
item_at xs i d h = let n : suc i ≡ i + 1 = omega arith in drop-cons xs i d h
    ∙ ap (λ (k : ℕ). get_or xs i d ∷ drop k xs) n

item_left : {X : Type 0} (xs : List X) (i : ℕ) (x : X) → i < length xs → x ≡ get_or xs i x →
    drop i xs ≡ x ∷ drop (i + 1) xs
item_left {X = X} xs i x h e = item_at xs i x h ∙ ap (λ (y : X). y ∷ drop (i + 1) xs) (sym e)

pub item_text : {X : Type 0} (f : X → Text) (xs : List X) (i : ℕ) (x : X) → i < length xs → x ≡ get_or xs i x →
    text_of (map f (drop i xs)) ≡ f x ++ text_of (map f (drop (i + 1) xs))
item_text f xs i x h e = ap (λ ys. text_of (map f ys)) (item_left xs i x h e)

-- the same, where the items stand for others
pub mapped_text : {X Y : Type 0} (f : Y → Text) (g : X → Y) (xs : List X) (i : ℕ) (d : X) → i < length xs →
    text_of (map f (map g (drop i xs))) ≡ f (g (get_or xs i d)) ++ text_of (map f (map g (drop (i + 1) xs)))
mapped_text f g xs i d h = ap (λ ys. text_of (map f (map g ys))) (item_at xs i d h)

-- the item at a place stands next
pub text_at : {X : Type 0} (f : X → Text) (xs : List X) (i : ℕ) (x : X) → Some x ≡ slice_get xs i →
    text_of (map f (drop i xs)) ≡ f x ++ text_of (map f (drop (i + 1) xs))
text_at f xs i x e = ap (λ ys. text_of (map f ys)) (drop_found xs i x (sym e))

-- where none does, nothing is left
pub no_text_at : {X : Type 0} (f : X → Text) (xs : List X) (i : ℕ) → None ≡ slice_get xs i →
    text_of (map f (drop i xs)) ≡ []
no_text_at f xs i e = ap (λ ys. text_of (map f ys)) (drop_all i xs (no-more xs i (sym e)))

-- the item of a test stands there
pub found_there : {X : Type 0} (p : X → Bool) (xs : List X) (i : ℕ) (x : X) → i < length xs → x ≡ get_or xs i x →
    p x ≡ true → find p (drop i xs) ≡ Some x
found_there p xs i x h e t = ap (find p) (item_left xs i x h e) ∙ simp t

-- it stands later
pub found_later : {X : Type 0} (p : X → Bool) (xs : List X) (i : ℕ) (x : X) → i < length xs → x ≡ get_or xs i x →
    p x ≡ false → find p (drop i xs) ≡ find p (drop (i + 1) xs)
found_later p xs i x h e t = ap (find p) (item_left xs i x h e) ∙ simp t

-- there was nothing to write
pub nothing_due : {W : Type 0} (contents : W → Option (List ℕ)) (now : Counted W) → WritesAll contents now now []
nothing_due contents now = wrote_all contents [] [] now now refl (wrote_none contents [] now)
