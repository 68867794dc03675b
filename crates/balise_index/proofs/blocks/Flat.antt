-- The codes of all blocks, where those of one block change.
use Rattle.std.proofs.Common.{◌≡◌, ◌∙◌, ℕ, zero, suc, ◌+◌, ◌-◌, ◌≤◌, ◌<◌, List, [], ◌∷◌, ◌++◌, length, take, refl, sym, ap, arith, length-append, slice_index_or, slice_set, insert, remove, if◌then◌else◌, Ok, Err}
use Rattle.std.specs.Result.{IsOk, is_ok}
use Rattle.std.specs.declared.result.Result.{Result}
use Rattle.std.proofs.lemmas.Bool.{true≢false}
use Rattle.std.proofs.lemmas.List.Edits.{insert-append_left, insert-append_right, remove-append_left, remove-append_right}
use Rattle.balise_index.specs.declared.code_list.Block.{Block}
use Rattle.balise_index.specs.Blocks.{flat, before}

pub flat-insert : (b j : ℕ) (bs : List Block) (d y : Block) (g : ℕ) → b < length bs → j ≤ length (slice_index_or bs b d).codes.items → y.codes.items ≡ insert (slice_index_or bs b d).codes.items j g → flat (slice_set bs b y) ≡ insert (flat bs) (before b bs + j) g
flat-insert b j [] d y g w l e = absurd (omega (arith, w))
flat-insert zero j (x ∷ xs) d y g w l e = ap (λ (l : List ℕ). l ++ flat xs) e ∙ sym (insert-append_left x.codes.items (flat xs) j g l)
    ∙ ap (λ (k : ℕ). insert (x.codes.items ++ flat xs) k g) (let z : j ≡ 0 + j = omega arith in z)
flat-insert (suc b) j (x ∷ xs) d y g w l e =
    let n = length x.codes.items in
    let place : n + (before b xs + j) - n ≡ before b xs + j = omega arith in
    let far : before (suc b) (x ∷ xs) + j ≡ n + (before b xs + j) = omega (arith, length-append x.codes.items (flat (take b xs))) in
    ap (λ (l : List ℕ). x.codes.items ++ l) (flat-insert b j xs d y g (omega (arith, w)) l e ∙ ap (λ (k : ℕ). insert (flat xs) k g) (sym place))
    ∙ sym (insert-append_right x.codes.items (flat xs) n (n + (before b xs + j)) g refl (omega arith)) ∙ ap (λ (k : ℕ). insert (x.codes.items ++ flat xs) k g) (sym far)

pub flat-remove : (b j : ℕ) (bs : List Block) (d y : Block) → b < length bs → j < length (slice_index_or bs b d).codes.items → y.codes.items ≡ remove (slice_index_or bs b d).codes.items j → flat (slice_set bs b y) ≡ remove (flat bs) (before b bs + j)
flat-remove b j [] d y w l e = absurd (omega (arith, w))
flat-remove zero j (x ∷ xs) d y w l e = ap (λ (l : List ℕ). l ++ flat xs) e ∙ sym (remove-append_left x.codes.items (flat xs) j l)
    ∙ ap (λ (k : ℕ). remove (x.codes.items ++ flat xs) k) (let z : j ≡ 0 + j = omega arith in z)
flat-remove (suc b) j (x ∷ xs) d y w l e =
    let n = length x.codes.items in
    let place : n + (before b xs + j) - n ≡ before b xs + j = omega arith in
    let far : before (suc b) (x ∷ xs) + j ≡ n + (before b xs + j) = omega (arith, length-append x.codes.items (flat (take b xs))) in
    ap (λ (l : List ℕ). x.codes.items ++ l) (flat-remove b j xs d y (omega (arith, w)) l e ∙ ap (λ (k : ℕ). remove (flat xs) k) (sym place))
    ∙ sym (remove-append_right x.codes.items (flat xs) n (n + (before b xs + j)) refl (omega arith)) ∙ ap (λ (k : ℕ). remove (x.codes.items ++ flat xs) k) (sym far)

pub flat-same : (b : ℕ) (bs : List Block) (d y : Block) → b < length bs → y.codes.items ≡ (slice_index_or bs b d).codes.items → flat (slice_set bs b y) ≡ flat bs
flat-same b [] d y w e = absurd (omega (arith, w))
flat-same zero (x ∷ xs) d y w e = ap (λ (l : List ℕ). l ++ flat xs) e
flat-same (suc b) (x ∷ xs) d y w e = ap (λ (l : List ℕ). x.codes.items ++ l) (flat-same b xs d y (omega (arith, w)) e)

-- a list that grew in its room
pub ok_then : {A E X : Type 0} (r : Result A E) (x y z : X) → IsOk r → z ≡ (if is_ok r then x else y) → z ≡ x
ok_then (Ok a) x y z h e = e
ok_then (Err b) x y z h e = absurd (true≢false (sym h))
