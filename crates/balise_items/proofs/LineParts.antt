-- Lines that are written part by part.
use Rattle.std.proofs.Common.{◌≡◌, [], ◌∷◌, ◌++◌, codes, ap, append_assoc, append-nil}
use Rattle.balise_text.specs.Texts.{Text, text_of, whole_line}

pub one_word : (x : Text) → whole_line (x ∷ []) ≡ x ++ codes "\n"
one_word x = ap (λ (t : Text). t ++ codes "\n") (append-nil x)

pub packet_words : (x y : Text) → whole_line (codes "packet" ∷ x ∷ y ∷ []) ≡ text_of (codes "packet " ∷ x ∷ codes " " ∷ []) ++ whole_line (y ∷ [])
packet_words x y = simp (append_assoc, append-nil)

pub reason_alone : (x y : Text) → whole_line (codes "bad" ∷ x ∷ y ∷ []) ≡ text_of (codes "bad " ∷ x ∷ codes " " ∷ y ∷ []) ++ codes "\n"
reason_alone x y = simp (append_assoc, append-nil)

pub reason_due : (x y z : Text) → whole_line (codes "bad" ∷ x ∷ y ∷ z ∷ []) ≡ text_of (codes "bad " ∷ x ∷ codes " " ∷ y ∷ []) ++ text_of (codes " " ∷ z ∷ codes "\n" ∷ [])
reason_due x y z = simp (append_assoc, append-nil)
