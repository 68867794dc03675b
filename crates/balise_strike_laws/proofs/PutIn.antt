-- Striking under later neighbours, in a list: what stands after what was put in can stand after its anchor instead.
-- Proves that putting, or moving, an item after one that was put in gives what putting it after the anchor first gives.
-- From the laws of tagged lists; what was put in was new.
use Rattle.std.proofs.Common.{◌≡◌, ℕ, ◌+◌, ◌≤◌, false, List, [], ◌∷◌, Option, Some, None, refl, sym, ap, ◌∙◌, arith}
use Rattle.balise_rules.specs.declared.tag.Tag.{Tag}
use Rattle.balise_rules.specs.Tagged.{same_spot, find, behind, put_behind, put, without, Distinct, move, Move}
use Rattle.balise_rules.specs.Tags.{same_tag}
use Rattle.balise_rules.specs.Packet.{Packet, width}
use Rattle.balise_rules.specs.Telegram.{used}
use Rattle.balise_rules.specs.Accepting.{Stands}
use Rattle.balise_rules.proofs.Tests.{split_on, flip_no, flip_spot, tag_test}
use Rattle.balise_rules.proofs.Lists.{find-put, find-without, without-put, next-put}
use Rattle.balise_rules.proofs.Cases.{found}
use Rattle.balise_rules.proofs.Anchors.{behind-put_in, stands-move, anchor-other}
use Rattle.balise_strike_laws.proofs.Neighbours.{Accepts}
use Rattle.balise_strike_laws.proofs.Rooms.{used-move}

-- after what was put in, and after its anchor
put_behind-put_in : {A : Type 0} → (a : Tag) → (z w : Tag × A) → same_tag z.0 a ≡ false → (xs : List (Tag × A)) → find same_tag z.0 xs ≡ None →
    put_behind same_tag z.0 w (put_behind same_tag a z xs) ≡ put_behind same_tag a z (put_behind same_tag a w xs)
put_behind-put_in a z w n [] h = refl
put_behind-put_in a z w n (y ∷ ys) h =
    let s = tag_test.itself z.0 in
    split_on (same_tag z.0 y.0) (λ e. let k = simp e at h in absurd (cc))
    (λ e. let k : find same_tag z.0 ys ≡ None = simp e at h in
    split_on (same_tag a y.0) (λ d. simp (e, d, s)) (λ d. simp (e, d) (ap (λ l. y ∷ l) (put_behind-put_in a z w n ys k))))

pub put-put_in : {A : Type 0} → (a : Option Tag) → (z w : Tag × A) → same_spot same_tag (Some z.0) a ≡ false → (xs : List (Tag × A)) → find same_tag z.0 xs ≡ None →
    put same_tag (Some z.0) w (put same_tag a z xs) ≡ put same_tag a z (put same_tag a w xs)
put-put_in None z w n xs h = let s = tag_test.itself z.0 in simp s
put-put_in (Some a) z w n xs h = put_behind-put_in a z w n xs h

-- a move to after what was put in
pub move-put_in : {A : Type 0} → (a : Option Tag) → (z : Tag × A) → (p : Tag) → same_spot same_tag (Some z.0) a ≡ false → same_tag p z.0 ≡ false →
    same_spot same_tag (Some p) a ≡ false → (xs : List (Tag × A)) → find same_tag z.0 xs ≡ None →
    move same_tag p (Some z.0) (put same_tag a z xs) ≡ put same_tag a z (move same_tag p a xs)
move-put_in a z p n np na xs h = found (find same_tag p xs)
    (λ e. let g : find same_tag p (put same_tag a z xs) ≡ None = find-put same_tag p a z np xs ∙ e in simp (e, g) (without-put tag_test p a z np na xs))
    (λ x e. let g : find same_tag p (put same_tag a z xs) ≡ Some x = find-put same_tag p a z np xs ∙ e in
    simp (e, g) (ap (put same_tag (Some z.0) (p, x)) (without-put tag_test p a z np na xs)
    ∙ put-put_in a z (p, x) n (without same_tag p xs) (find-without tag_test z.0 p (flip_no tag_test p z.0 np) xs ∙ h)))

-- What a move to after what was put in asks, notes and makes is what a move to its anchor does.
pub record MovesBehind (a : Option Tag) (z : Tag × Packet) (p : Tag) (room : ℕ) (xs : List (Tag × Packet)) : Type 0 where
  pub accepted : Accepts (Move p a) xs
  pub neighbour : behind same_tag p xs ≡ behind same_tag p (put same_tag a z xs)
  pub stands : Stands a (move same_tag p a xs)
  pub fits : used (move same_tag p a xs) + width z.1 ≤ room
  pub same_list : move same_tag p (Some z.0) (put same_tag a z xs) ≡ put same_tag a z (move same_tag p a xs)

pub moves-behind : (a : Option Tag) → (z : Tag × Packet) → (p : Tag) → (room : ℕ) → (xs : List (Tag × Packet)) → Distinct same_tag xs → find same_tag z.0 xs ≡ None →
    same_spot same_tag a (Some p) ≡ false →
    Stands a xs → used xs + width z.1 ≤ room → Accepts (Move p (Some z.0)) (put same_tag a z xs) → MovesBehind a z p room xs
moves-behind a z p room xs u un n s r f =
    let pz : same_tag p z.0 ≡ false = flip_no tag_test z.0 p f.2 in
    let az = anchor-other a z.0 xs s un in
    let ac : Accepts (Move p a) xs = ((f.0.0, sym (find-put same_tag p a z pz xs) ∙ f.0.1), s, n, ap (λ o. same_spot same_tag o (Some p)) (sym (behind-put_in a z xs s un)) ∙ f.3) in
    let k = used-move p a xs u ac in
    record {
      accepted = ac;
      neighbour = sym (next-put tag_test (Some p) a z (flip_spot tag_test a (Some p) n) pz xs);
      stands = stands-move a p xs n s;
      fits = omega arith;
      same_list = move-put_in a z p az pz (flip_spot tag_test a (Some p) n) xs un;
    }
