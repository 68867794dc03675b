-- Texts that are written one after another.
use Rattle.std.proofs.Common.{◌≡◌, ◌≢◌, ◌∙◌, ◌<◌, ◌+◌, ℕ, Bool, List, [], ◌∷◌, ◌++◌, Option, Result, Ok, Err, MatchResult, codes, decimal, length, drop, map, get_or, refl, sym, ap, arith, append_assoc}
use Rattle.std.proofs.lemmas.List.{append-nil}
use Rattle.balise_text.specs.Texts.{Text, text_of, whole_line}
use Rattle.balise_text.proofs.Lists.{text_left}
use Rattle.balise_fields.specs.ExplainedTexts.{bits_text, fields_text, front_text, last_text}
use Rattle.balise_codec.specs.declared.placed.Placed.{Placed}
use Rattle.balise_text.specs.Printing.{fours_of}
use Rattle.balise_codec.specs.declared.explain.PacketFields.{PacketFields}
pub use Rattle.balise_text.proofs.TextsBehind.{behind, some_behind, some_front_of}

-- an item of a list, and those after it
pub item_text : {X : Type 0} (f : X → Text) (xs : List X) (i : ℕ) (x : X) → i < length xs → x ≡ get_or xs i x → text_of (map f (drop i xs)) ≡ f x ++ text_of (map f (drop (i + 1) xs))
item_text f xs i x h e = text_left f xs i x h ∙ ap (λ y. f y ++ text_of (map f (drop (i + 1) xs))) (sym e)

-- the front of a telegram and more, where its lists were lent
pub front_parts : (len : ℕ) (hs h : List Placed) (ps p : List PacketFields) (more : Text) → h ≡ hs → p ≡ ps → front_text len hs ps ++ more ≡ front_text len h p ++ more
front_parts len hs h ps p more e f = ap (λ x. front_text len x ps ++ more) (sym e) ∙ ap (λ x. front_text len h x ++ more) (sym f)

-- the line of bits, part by part
pub bits_parts : (name : Text) (b : List Bool) → length b ≢ 0 → bits_text name b ≡ text_of (name ∷ codes " " ∷ decimal (length b) ∷ codes " " ∷ []) ++ (fours_of b ++ codes "\n")
bits_parts name [] h = absurd (h refl)
bits_parts name (b ∷ bs) h = parts name (decimal (length (b ∷ bs))) (fours_of (b ∷ bs))
  where
    parts : (x y z : Text) → whole_line (x ∷ y ∷ z ∷ []) ≡ text_of (x ∷ codes " " ∷ y ∷ codes " " ∷ []) ++ (z ++ codes "\n")
    parts x y z = simp (append_assoc, append-nil)

pub no_bits : (name : Text) (b : List Bool) → length b ≡ 0 → bits_text name b ≡ []
no_bits name [] h = refl
no_bits name (b ∷ bs) h = absurd (omega arith)

-- the fields of the packet that a fault is in
pub last_parts : (fs : List Placed) → length fs ≢ 0 → last_text fs ≡ codes "packet\n" ++ fields_text fs
last_parts [] h = absurd (h refl)
last_parts (f ∷ fs) h = refl
