-- There are fewer entries than the next serial.
use Rattle.std.proofs.Common.{◌≡◌, ◌<◌, ◌+◌, ◌∙◌, ℕ, suc, nat_lt, List, [], ◌∷◌, Option, length, map, refl, ap, arith}
use Rattle.balise_rules.specs.declared.tag.Tag.{Tag}
use Rattle.balise_rules.specs.Edits.{Item}
use Rattle.balise_rules.specs.Behind.{hung}
use Rattle.balise_rules.specs.Journal.{all_back}
use Rattle.balise_rules.specs.Paths.{Entry}
use Rattle.balise_rules.specs.Plan.{Plan}
use Rattle.balise_rules.specs.Session.{Removed, put_back, put_by_serial}
use Rattle.balise_rules.proofs.Tests.{split_on}
use Rattle.balise_strike_laws.specs.InSession.{Between}
use Rattle.balise_history.specs.Held.{IsHeld}
use Rattle.balise_history.specs.Lists.{Gone, items_of, removed_of}

length-put : (e : Item) (es : List Item) → length (put_by_serial e es) ≡ suc (length es)
length-put e [] = refl
length-put e (f ∷ fs) = split_on (nat_lt e.0 f.0) (λ t. simp t) (λ t. simp t (ap suc (length-put e fs)))

length-hung : (a : Option Tag) (B : List ℕ) (es : List Item) → length (hung a B es) ≡ length es
length-hung a B [] = refl
length-hung a B (e ∷ es) = ap suc (length-hung a B es)

length-back : (rs : List Removed) (es : List Item) → length (all_back rs es) ≡ length es + length rs
length-back [] es = omega arith
length-back (r ∷ rs) es =
    let a = length-back rs (put_back r es) in
    let b = length-put r.item (hung _ r.behind es) in
    let c = length-hung _ r.behind es in
    let d : length (put_back r es) ≡ suc (length es) = b ∙ ap suc c in
    omega arith

between-length : (l n : ℕ) (es : List Item) → l < n → Between l n es → l + length es < n
between-length l n [] h b = omega arith
between-length l n (e ∷ es) h b = let x = b.0 in let y = b.1 in let k = between-length e.0 n es b.1 b.2 in omega arith

pub few-held : (groups : Plan) (st : List Entry) (sk : List Gone) (n : ℕ) → IsHeld groups st sk n → length (items_of st) + length (map removed_of sk) < n
few-held groups st sk n h =
    let f = h.session.first in
    let a = between-length 0 n (all_back (map removed_of sk) (items_of st)) (omega arith) h.session.within in
    let b = length-back (map removed_of sk) (items_of st) in
    omega arith
