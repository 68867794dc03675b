-- The fields of a header are read where their bits stand.
-- From reading by a form, one variable after another.
use Rattle.std.proofs.Common.{◌≡◌, ◌∙◌, ℕ, ◌+◌, ◌-◌, ◌≤◌, Bool, false, ltb, List, [], ◌∷◌, ◌++◌, length, take, drop, Some, refl, ap, arith}
use Rattle.std.proofs.lemmas.Bool.{le-ltb}
use Rattle.std.proofs.lemmas.List.{drop-drop, length-drop, length-take, take-take, drop-take}
use Rattle.balise_rules.specs.declared.variable.Var.{Var}
use Rattle.balise_rules.specs.declared.variable.Var.TheVariants.{QUpdown, MVersion, QMedia, NPig, NTotal, MDup, MMcount, NidC, NidBg, QLink}
use Rattle.balise_rules.specs.Variables.{width_of}
use Rattle.balise_rules.specs.Bits.{num, part}
use Rattle.balise_rules.specs.Forms.{Form, done, plain, Fields, count_of, read_form}
use Rattle.balise_rules.specs.Telegram.{header, read_header, fields_or_none}
use Rattle.balise_telegram.specs.HeaderFields.{fields_of}

-- ---- read

-- one variable read from the bits after a place
one : (v : Var) (rest : Form) (seen : Fields) (b : List Bool) (at left : ℕ) → at + left ≤ length b → width_of v ≤ left →
    read_form (plain v rest) seen (part at left b) ≡ read_form rest (seen ++ ((v, count_of v seen), num (part at (width_of v) b)) ∷ []) (part (at + width_of v) (left - width_of v) b)
unfolding read_form
one v rest seen b at left h w =
    let size : length (part at left b) ≡ left = omega (arith, length-take left (drop at b), length-drop at b) in
    let long : ltb (length (part at left b)) (width_of v) ≡ false = le-ltb _ _ (omega (arith, size)) in
    let front : take (width_of v) (part at left b) ≡ part at (width_of v) b = take-take (width_of v) left (drop at b) w in
    let two : left ≡ width_of v + (left - width_of v) = omega arith in
    let back : drop (width_of v) (part at left b) ≡ part (at + width_of v) (left - width_of v) b =
    ap (λ (k : ℕ). drop (width_of v) (take k (drop at b))) two ∙ drop-take (width_of v) (left - width_of v) (drop at b) ∙ ap (λ (l : List Bool). take (left - width_of v) l) (drop-drop (width_of v) at b) in
    rw (long, front, back) refl

read_done : (seen : Fields) (b : List Bool) → read_form done seen b ≡ Some (seen, b)
unfolding read_form
read_done seen b = refl

read_all : (b : List Bool) → 50 ≤ length b → read_form header [] (part 0 50 b) ≡ Some (fields_of (num (part 0 1 b)) (num (part 1 7 b)) (num (part 8 1 b)) (num (part 9 3 b)) (num (part 12 3 b)) (num (part 15 2 b)) (num (part 17 8 b)) (num (part 25 10 b)) (num (part 35 14 b)) (num (part 49 1 b)), part 50 0 b)
unfolding header width_of
read_all b h =
    one QUpdown _ _ b 0 50 (omega arith) (omega arith) ∙ one MVersion _ _ b 1 49 (omega arith) (omega arith) ∙ one QMedia _ _ b 8 42 (omega arith) (omega arith)
    ∙ one NPig _ _ b 9 41 (omega arith) (omega arith) ∙ one NTotal _ _ b 12 38 (omega arith) (omega arith) ∙ one MDup _ _ b 15 35 (omega arith) (omega arith)
    ∙ one MMcount _ _ b 17 33 (omega arith) (omega arith) ∙ one NidC _ _ b 25 25 (omega arith) (omega arith) ∙ one NidBg _ _ b 35 15 (omega arith) (omega arith)
    ∙ one QLink _ _ b 49 1 (omega arith) (omega arith) ∙ read_done _ (part 50 0 b)

-- each field stands where the standard has it
pub header_is : (b : List Bool) → 50 ≤ length b → read_header b ≡ fields_of (num (part 0 1 b)) (num (part 1 7 b)) (num (part 8 1 b)) (num (part 9 3 b)) (num (part 12 3 b)) (num (part 15 2 b)) (num (part 17 8 b)) (num (part 25 10 b)) (num (part 35 14 b)) (num (part 49 1 b))
unfolding read_header
header_is b h = ap fields_or_none (read_all b h)
