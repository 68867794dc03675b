-- What is sent: numbers, and the items of a list one after another.
use Rattle.std.proofs.Common.{◌≡◌, ◌∙◌, ℕ, suc, List, [], ◌∷◌, length, map, Some, refl, sym, ap, subst}
use Rattle.serde.specs.Event.{Log, Logs, field_key, seq_begins, seq_ends, unsigned}
use Rattle.serde.specs.declared.name.Case.TheVariants.{AsIs}
use Rattle.serde_json.specs.Data.{Data, array}
use Rattle.serde_json.specs.Events.{items_len, SendsValue, SendsItems}
use Rattle.serde_json.specs.View.{items_of}

-- whatever ends the list well from here, with these left, ends all of it well from the start
abbrev pub SentUpTo : {A : Type 0} → (A → Data) → List A → List A → Log → Log → Type 0
SentUpTo d all left old now = (end : Log) → SendsItems (items_of (map d left)) now end → SendsItems (items_of (map d all)) old end

pub one_sent : {A : Type 0} (d : A → Data) (all here left : List A) (x : A) (old now new : Log) → here ≡ x ∷ left → SentUpTo d all here old now → SendsValue (d x) now new → SentUpTo d all left old new
one_sent d all here left x old now new step so_far sent end rest = so_far end (subst (λ xs. SendsItems (items_of (map d xs)) now end) (sym step) (new, sent, rest))

many_items : {A : Type 0} (d : A → Data) (xs : List A) → items_len (items_of (map d xs)) ≡ length xs
many_items d [] = refl
many_items d (x ∷ xs) = ap suc (many_items d xs)

pub all_sent : {A : Type 0} (d : A → Data) (all left : List A) (n : ℕ) (old first last new : Log) → left ≡ [] → n ≡ length all → Logs old first (seq_begins (Some n)) → SentUpTo d all left first last → Logs last new seq_ends
    → SendsValue (array (items_of (map d all))) old new
all_sent d all left n old first last new none many begun so_far ended = (
  first,
  subst (λ k. Logs old first (seq_begins (Some k))) (many ∙ sym (many_items d all)) begun,
  so_far new (subst (λ xs. SendsItems (items_of (map d xs)) last new) (sym none) ended),
)

-- a key and a number, under another name of the number, and then what follows
pub number_member : {n m : ℕ} {Rest : Log → Type 0} (key : List ℕ) (old named mid : Log) → n ≡ m →
    Logs old named (field_key key AsIs) → Logs named mid (unsigned n) → Rest mid →
    (k v : Log) × Logs old k (field_key key AsIs) × Logs k v (unsigned m) × Rest v
number_member key old named mid same key_sent sent rest =
    (named, mid, key_sent, subst (λ k. Logs named mid (unsigned k)) same sent, rest)
