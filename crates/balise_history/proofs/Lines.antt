-- The entries with all of the stack put back, and their lines.
use Rattle.std.proofs.Common.{◌≡◌, ◌∙◌, ℕ, suc, cond, nat_lt, List, [], ◌∷◌, ◌++◌, Option, Some, map, take, drop, refl, sym, ap, subst}
use Rattle.std.proofs.lemmas.List.{drop-map, map-append, take-map}
use Rattle.std.proofs.lemmas.Simd.{map-map}
use Rattle.balise_rules.specs.declared.tag.Tag.{Tag}
use Rattle.balise_rules.specs.declared.tag.Tag.TheVariants.{Fresh}
use Rattle.balise_rules.specs.Plan.{Plan}
use Rattle.balise_rules.specs.Edits.{Edit, Item}
use Rattle.balise_rules.specs.declared.tagged_edit.TaggedEdit.TheVariants.{SetVar}
use Rattle.balise_rules.specs.Notes.{Note, noted, without_content}
use Rattle.balise_rules.specs.Doing.{done}
use Rattle.balise_rules.specs.Paths.{Entry}
use Rattle.balise_rules.specs.Behind.{hung}
use Rattle.balise_rules.specs.Journal.{Noted, Line, noted_of, line_edit, line_of, all_back}
use Rattle.balise_rules.specs.Session.{entries}
use Rattle.balise_strike_laws.specs.InSession.{Rising}
use Rattle.balise_history.specs.Held.{Holds}
use Rattle.balise_history.specs.Lists.{Gone, items_of, removed_of, place_of, entries_re_anchored}
use Rattle.balise_history.specs.Returned.{all_returned, bare, returned, AllReturn}
use Rattle.balise_history.proofs.Entries.{items-append, items-hung, same-entries}
use Rattle.balise_history.proofs.Hanging.{kept-hung}
use Rattle.balise_history.proofs.Taking.{rising}
use Rattle.balise_history.proofs.Returning.{with_back, brought-back}

-- what is kept of an entry's note where what it took out stands in the plan again
abbrev bare_note : Entry → Note
bare_note e = without_content e.1

abbrev all_bare : List Entry → List Note
all_bare es = map bare_note es

-- a line says nothing of the content
noted-less : (e : Edit) (m : Note) → noted_of e (without_content m) ≡ noted_of e m
noted-less (SetVar g t p v k n) m = refl
noted-less e m = refl

lines-bare : (es : List Entry) → map line_of (map bare es) ≡ map line_of es
lines-bare [] = refl
lines-bare (e ∷ es) =
    ap (λ (m : Noted). record { serial = e.0.0; edit = line_edit e.0.1; noted = m } ∷ map line_of (map bare es)) (noted-less e.0.1 e.1)
    ∙ ap (λ (l : List Line). line_of e ∷ l) (lines-bare es)

-- entries that are the same but for their content have the same lines
pub lines-same : (es st : List Entry) → map bare es ≡ map bare st → map line_of es ≡ map line_of st
lines-same es st h = sym (lines-bare es) ∙ ap (map line_of) h ∙ lines-bare st

-- entries of the same items, with the same notes but for their content, are the same but for it
same-bare : (es st : List Entry) → items_of es ≡ items_of st → all_bare es ≡ all_bare st → map bare es ≡ map bare st
same-bare es st i n =
    same-entries (map bare es) (map bare st)
    (map-map (λ (e : Entry). e.0) bare es ∙ i ∙ sym (map-map (λ (e : Entry). e.0) bare st))
    (map-map (λ (e : Entry). e.1) bare es ∙ n ∙ sym (map-map (λ (e : Entry). e.1) bare st))

-- the place of a serial among items
place_in : ℕ → List Item → ℕ
place_in s [] = 0
place_in s (e ∷ es) = cond (nat_lt e.0 s) (suc (place_in s es)) 0

place-items : (s : ℕ) (es : List Entry) → place_of s es ≡ place_in s (items_of es)
unfolding place_in
place-items s [] = refl
place-items s (e ∷ es) = ap (λ (n : ℕ). cond (nat_lt e.0.0 s) (suc n) 0) (place-items s es)

-- one put at a place, by items and by notes
put-items : (es : List Entry) (n : ℕ) (f : Entry) (a : Option Tag) (B : List ℕ) → items_of (take n es ++ f ∷ entries_re_anchored a B (drop n es)) ≡ take n (items_of es) ++ f.0 ∷ hung a B (drop n (items_of es))
put-items es n f a B =
    items-append (take n es) (f ∷ entries_re_anchored a B (drop n es))
    ∙ ap (λ (l : List Item). l ++ f.0 ∷ items_of (entries_re_anchored a B (drop n es))) (sym (take-map (λ (e : Entry). e.0) n es))
    ∙ ap (λ (l : List Item). take n (items_of es) ++ f.0 ∷ l) (items-hung a B (drop n es) ∙ ap (hung a B) (sym (drop-map (λ (e : Entry). e.0) n es)))

put-notes : (es : List Entry) (n : ℕ) (f : Entry) (a : Option Tag) (B : List ℕ) → all_bare (take n es ++ f ∷ entries_re_anchored a B (drop n es)) ≡ take n (all_bare es) ++ bare_note f ∷ drop n (all_bare es)
put-notes es n f a B =
    map-append bare_note (take n es) (f ∷ entries_re_anchored a B (drop n es))
    ∙ ap (λ (l : List Note). l ++ bare_note f ∷ all_bare (entries_re_anchored a B (drop n es))) (sym (take-map bare_note n es))
    ∙ ap (λ (l : List Note). take n (all_bare es) ++ bare_note f ∷ l) (kept-hung bare_note (λ b e. refl) a B (drop n es) ∙ sym (drop-map bare_note n es))

-- putting all back, without a plan or on it, gives the same entries, but for their content
pub lines-back : (base groups : Plan) (st es : List Entry) (sk : List Gone) (serial : ℕ) → Holds base groups st sk serial → items_of es ≡ items_of st → map (λ (e : Entry). without_content e.1) es ≡ map (λ (e : Entry). without_content e.1) st →
    AllReturn sk es × (map bare (all_returned sk es) ≡ map bare (entries base (all_back (map removed_of sk) (items_of st))))
lines-back base groups st es [] serial h i n =
    (tt, same-bare es st i n ∙ ap (map bare) h.noted_there)
lines-back base groups st es (r ∷ rs) serial h i n =
    let s = r.0.0.0 in
    let a = Some (Fresh s) in
    let B = r.1 in
    let p = place_of s st in
    let w = brought-back base groups st r rs serial p h refl in
    let st1 = with_back st p r groups in
    let f : Entry = (r.0.0, noted r.0.0.1 groups) in
    let same : place_of s es ≡ p = place-items s es ∙ ap (place_in s) i ∙ sym (place-items s st) in
    let es1 = returned es r in
    let es_is : es1 ≡ take p es ++ r.0 ∷ entries_re_anchored a B (drop p es) = ap (λ (m : ℕ). take m es ++ r.0 ∷ entries_re_anchored a B (drop m es)) same in
    let i1 : items_of es1 ≡ items_of st1 =
    ap items_of es_is ∙ put-items es p r.0 a B ∙ ap (λ (l : List Item). take p l ++ r.0.0 ∷ hung a B (drop p l)) i ∙ sym (put-items st p f a B) in
    let one : bare_note r.0 ≡ bare_note f = ap without_content (sym w.next.noted_there) in
    let n1 : all_bare es1 ≡ all_bare st1 =
    ap all_bare es_is ∙ put-notes es p r.0 a B ∙ ap (λ (l : List Note). take p l ++ bare_note r.0 ∷ drop p l) n
    ∙ ap (λ (m : Note). take p (all_bare st) ++ m ∷ drop p (all_bare st)) one ∙ sym (put-notes st p f a B) in
    let k = lines-back base (done r.0.0 groups) st1 es1 rs serial w.holds i1 n1 in
    let up : Rising (items_of es) = subst Rising (sym i) (rising base groups st (r ∷ rs) serial h) in
    ((up, w.ascends, k.0), k.1 ∙ ap (λ (l : List Item). map bare (entries base (all_back (map removed_of rs) l))) w.standing)
