-- How many bits are used: a change of values keeps the width of a packet, and the packets of a telegram take more, less or as much after each change of their list.
-- From the width of each field, whatever its value.
use Rattle.std.proofs.Common.{◌≡◌, ℕ, ◌+◌, ◌≤◌, List, [], ◌∷◌, length, Option, Some, None, refl, sym, ap, subst, ◌∙◌, arith, length-append}
use Rattle.balise_rules.specs.declared.tag.Tag.{Tag}
use Rattle.balise_rules.specs.declared.identity.Id.{Id}
use Rattle.balise_rules.specs.Variables.{width_of}
use Rattle.balise_rules.specs.Bits.{bits}
use Rattle.balise_rules.specs.Tagged.{find, each, Distinct, put, put_behind, put_found, without, move}
use Rattle.balise_rules.specs.Tags.{Key, same_tag}
use Rattle.balise_rules.specs.Forms.{Fields, spelling}
use Rattle.balise_rules.specs.Packet.{Packet, width}
use Rattle.balise_rules.specs.Telegram.{used}
use Rattle.balise_rules.specs.Accepting.{Stands}
use Rattle.balise_rules.specs.Edits.{Edit, field_after, packet_after}
use Rattle.balise_rules.proofs.Cases.{unsome, found}
use Rattle.balise_rules.proofs.Tests.{split_on, split_keys, tag_test}
use Rattle.balise_rules.proofs.Numbers.{length-bits}
use Rattle.balise_rules.proofs.Lists.{without-absent}

-- a field keeps its width, whatever its value
pub spelling-each : (h : Key → ℕ → ℕ) → (fs : Fields) → length (spelling (each h fs)) ≡ length (spelling fs)
unfolding spelling
spelling-each h [] = refl
spelling-each h (f ∷ fs) =
    let w = width_of f.0.0 in
    omega (arith, length-append (bits w (h f.0 f.1)) (spelling (each h fs)), length-append (bits w f.1) (spelling fs), length-bits w (h f.0 f.1), length-bits w f.1, spelling-each h fs)

pub width-each : (h : Key → ℕ → ℕ) → (x : Packet) → width (record { fields = each h x.fields; rest = x.rest }) ≡ width x
width-each h x = omega (arith, length-append (spelling (each h x.fields)) x.rest, length-append (spelling x.fields) x.rest, spelling-each h x.fields)

-- an edit leaves each packet as wide as it was
pub width_kept : (e : Edit) → (i : Id) → (g : Tag) → (t c : ℕ) → (p : Tag) → (x : Packet) → width (packet_after e i g t c p x) ≡ width x
width_kept e i g t c p x = width-each (field_after e i g t c p x.fields) x

-- the packets of a telegram
pub used-each : (f : Tag → Packet → Packet) → ((p : Tag) → (x : Packet) → width (f p x) ≡ width x) → (ps : List (Tag × Packet)) → used (each f ps) ≡ used ps
used-each f h [] = refl
used-each f h (y ∷ ys) = omega (arith, h y.0 y.1, used-each f h ys)

used-put_behind : (k : Tag) → (z : Tag × Packet) → (ps : List (Tag × Packet)) → used (put_behind same_tag k z ps) ≤ used ps + width z.1
used-put_behind k z [] = omega arith
used-put_behind k z (y ∷ ys) = let ih = used-put_behind k z ys in split_on (same_tag k y.0) (λ e. simp e (omega arith)) (λ e. simp e (omega (arith, ih)))

pub used-put : (a : Option Tag) → (z : Tag × Packet) → (ps : List (Tag × Packet)) → used (put same_tag a z ps) ≤ used ps + width z.1
used-put None z ps = omega arith
used-put (Some k) z ps = used-put_behind k z ps

pub used-without : (p : Tag) → (ps : List (Tag × Packet)) → used (without same_tag p ps) ≤ used ps
used-without p [] = omega arith
used-without p (y ∷ ys) = let ih = used-without p ys in split_on (same_tag p y.0) (λ e. simp e (omega (arith, ih))) (λ e. simp e (omega (arith, ih)))

used_less : (p : Tag) → (x : Packet) → (ps : List (Tag × Packet)) → find same_tag p ps ≡ Some x → used (without same_tag p ps) + width x ≤ used ps
used_less p x [] h = absurd cc
used_less p x (y ∷ ys) h =
    split_on (same_tag p y.0)
    (λ e. let w : Some y.1 ≡ Some x = simp e at h in let l : width y.1 ≡ width x = ap width (unsome w) in let k = used-without p ys in simp e (omega (arith, l, k)))
    (λ e. let w : find same_tag p ys ≡ Some x = simp e at h in let ih = used_less p x ys w in simp e (omega (arith, ih)))

pub used-move : (p : Tag) → (a : Option Tag) → (ps : List (Tag × Packet)) → used (move same_tag p a ps) ≤ used ps
used-move p a ps =
    found (find same_tag p ps)
    (λ e. subst (λ o. used (put_found same_tag o p a (without same_tag p ps)) ≤ used ps) (sym e) (used-without p ps))
    (λ x e. subst (λ o. used (put_found same_tag o p a (without same_tag p ps)) ≤ used ps) (sym e) (omega (arith, used-put a (p, x) (without same_tag p ps), used_less p x ps e)))

-- exactly, where the anchor or the packet stands
pub used-put_there : (a : Option Tag) → (z : Tag × Packet) → (xs : List (Tag × Packet)) → Stands a xs → used (put same_tag a z xs) ≡ used xs + width z.1
used-put_there None z xs s = omega arith
used-put_there (Some a) z [] s = let k = s.1 in absurd (cc)
used-put_there (Some a) z (y ∷ ys) s =
    split_on (same_tag a y.0) (λ e. simp e (omega arith))
    (λ e. let w : find same_tag a ys ≡ Some s.0 = simp e at s.1 in simp e (omega (arith, used-put_there (Some a) z ys (s.0, w))))

pub used-without_there : (q : Tag) → (x : Packet) → (xs : List (Tag × Packet)) → Distinct same_tag xs → find same_tag q xs ≡ Some x →
    used (without same_tag q xs) + width x ≡ used xs
used-without_there q x [] u h = absurd (cc)
used-without_there q x (y ∷ ys) u h =
    split_keys tag_test q y.0
    (λ e p. let g : find same_tag q ys ≡ None = ap (λ k. find same_tag k ys) p ∙ u.0 in let k : Some y.1 ≡ Some x = simp e at h in
    let l : width x ≡ width y.1 = ap width (sym (unsome k)) in simp (e, without-absent same_tag q ys g) (omega arith))
    (λ e. let k : find same_tag q ys ≡ Some x = simp e at h in simp e (omega (arith, used-without_there q x ys u.1 k)))
