-- A text that is another and then one more.
use Rattle.std.proofs.Common.{◌≡◌, ℕ, List, ◌++◌, Option, Result, Ok, Err, MatchResult, refl}
use Rattle.balise_lines.specs.declared.counted.Counted.{Counted}
use Rattle.balise_lines.specs.Writing.{Reason, WritesAll, WritesSome}
use Rattle.balise_lines.proofs.PartsWritten.{some_last, wrote_last, wrote_more, wrote_none, wrote_some}

pub some_front_of : {W : Type 0} (why : Reason) (contents : W → Option (List ℕ)) (text xs ys : List ℕ) (old new : Counted W) → text ≡ xs ++ ys → WritesSome why contents old new xs → WritesSome why contents old new text
some_front_of why contents text xs ys old new e s = wrote_some why contents text text xs ys old old new e (wrote_none contents text old) s

pub all_behind : {W : Type 0} (contents : W → Option (List ℕ)) (text xs ys : List ℕ) (old now new : Counted W) → text ≡ xs ++ ys → WritesAll contents old now xs → WritesAll contents now new ys → WritesAll contents old new text
all_behind contents text xs ys old now new e a b = wrote_last contents text ys ys old now new refl (wrote_more contents text text xs ys old old now e (wrote_none contents text old) a) b

pub some_behind : {W : Type 0} (why : Reason) (contents : W → Option (List ℕ)) (text xs ys : List ℕ) (old now new : Counted W) → text ≡ xs ++ ys → WritesAll contents old now xs → WritesSome why contents now new ys →
    WritesSome why contents old new text
some_behind why contents text xs ys old now new e a s = some_last why contents text ys ys old now new refl (wrote_more contents text text xs ys old old now e (wrote_none contents text old) a) s

-- after the first text, the second is written or begun
pub behind : {W A E : Type 0} (why : E → Reason) (contents : W → Option (List ℕ)) (r : Result A E) (text xs ys : List ℕ) (old now new : Counted W) → text ≡ xs ++ ys → WritesAll contents old now xs →
    MatchResult r (λ _. WritesAll contents now new ys) (λ e. WritesSome (why e) contents now new ys) → MatchResult r (λ _. WritesAll contents old new text) (λ e. WritesSome (why e) contents old new text)
behind why contents (Ok a) text xs ys old now new e w s = all_behind contents text xs ys old now new e w s
behind why contents (Err b) text xs ys old now new e w s = some_behind (why b) contents text xs ys old now new e w s
