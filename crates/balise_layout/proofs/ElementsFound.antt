-- The identities found along the fields of a packet are those of its elements.
use Rattle.std.proofs.Common.{◌≡◌, ◌⊎◌, inl, inr, ℕ, suc, ◌+◌, ◌-◌, ◌<◌, ◌≤◌, Bool, true, false, cond, not, ◌||◌, ltb, List, [], ◌∷◌, ◌++◌, length, take, refl, sym, ap, subst, ◌∙◌, append_assoc, length-append, arith}
use Rattle.std.proofs.lemmas.Bool.{ltb-false}
use Rattle.std.proofs.lemmas.List.{append-nil}
use Rattle.balise_rules.specs.declared.variable.Var.{Var}
use Rattle.balise_rules.specs.declared.variable.Var.TheVariants.{NidC, NidBg}
use Rattle.balise_rules.specs.declared.identity.Id.{Id}
use Rattle.balise_rules.specs.Variables.{width_of}
use Rattle.balise_rules.specs.Tags.{Key, same_var, same_key, is_of}
use Rattle.balise_rules.specs.Forms.{Fields, Numbered, NumberedFrom, count_of}
use Rattle.balise_rules.specs.Packet.{Packet}
use Rattle.balise_rules.specs.Names.{country_at, links_among, links_of}
use Rattle.balise_rules.proofs.Tests.{test-sym, var_test, key_test, equal_yes, split_on}
use Rattle.balise_rules.proofs.Keys.{count-more, count_grows}
use Rattle.balise_layout.specs.Walks.{kept}
use Rattle.balise_layout.specs.Linked.{few, link, link_few, most_elements}
use Rattle.std.proofs.lemmas.List.{take_all}

-- the step without a limit
abbrev link_all : ℕ × List Id → ℕ → Var → ℕ → ℕ × List Id
link_all s left v n = cond (same_var v NidC) (n, s.1) (cond (same_var v NidBg) (s.0, s.1 ++ record { country = s.0; number = n } ∷ []) s)

-- the country in force after some fields
abbrev country_after : ℕ → Fields → ℕ
country_after c [] = c
country_after c (f ∷ fs) = cond (is_of NidC f.0) (country_after f.1 fs) (country_after c fs)

country_after-push : (c : ℕ) (fs : Fields) (f : Key × ℕ) → country_after c (fs ++ f ∷ []) ≡ cond (is_of NidC f.0) f.1 (country_after c fs)
country_after-push c [] f = refl
country_after-push c (g ∷ fs) f = at (is_of NidC g.0) (country_after-push g.1 fs f) (country_after-push c fs f)
  where
    at : (b : Bool) → country_after g.1 (fs ++ f ∷ []) ≡ cond (is_of NidC f.0) f.1 (country_after g.1 fs) → country_after c (fs ++ f ∷ []) ≡ cond (is_of NidC f.0) f.1 (country_after c fs) → cond b (country_after g.1 (fs ++ f ∷ [])) (country_after c (fs ++ f ∷ [])) ≡ cond (is_of NidC f.0) f.1 (cond b (country_after g.1 fs) (country_after c fs))
    at true p q = p
    at false p q = q

-- none of these fields is the number of the group that element k names
abbrev NoNumber : ℕ → Fields → Type 0
NoNumber k [] = Unit {0}
NoNumber k (f ∷ fs) = (same_key (NidBg, k) f.0 ≡ false) × NoNumber k fs

NoNumber-push : (k : ℕ) (fs : Fields) (f : Key × ℕ) → NoNumber k fs → same_key (NidBg, k) f.0 ≡ false → NoNumber k (fs ++ f ∷ [])
NoNumber-push k [] f m e = (e, tt)
NoNumber-push k (g ∷ fs) f m e = (m.0, NoNumber-push k fs f m.1 e)

-- the fields in front of element k put its country in force
country_before : (c k : ℕ) (before : Fields) (f : Key × ℕ) (fs : Fields) → NoNumber k before → (NidBg, k) ≡ f.0 → country_at c k (before ++ f ∷ fs) ≡ country_after c before
country_before c k [] f fs m e =
    let other : is_of NidC f.0 ≡ false = ap (is_of NidC) (sym e) in
    let here : same_key (NidBg, k) f.0 ≡ true = equal_yes key_test (NidBg, k) f.0 e in
    rw (other, here) refl
country_before c k (g ∷ before) f fs m e = at (is_of NidC g.0) (country_before g.1 k before f fs m.1 e) (country_before c k before f fs m.1 e)
  where
    at : (b : Bool) → country_at g.1 k (before ++ f ∷ fs) ≡ country_after g.1 before → country_at c k (before ++ f ∷ fs) ≡ country_after c before → cond b (country_at g.1 k (before ++ f ∷ fs)) (cond (same_key (NidBg, k) g.0) c (country_at c k (before ++ f ∷ fs))) ≡ cond b (country_after g.1 before) (country_after c before)
    at true p q = p
    at false p q = rw m.0 q

-- elements yet to come are none of those seen
abbrev Later : Fields → Type 0
Later seen = (k : ℕ) → count_of NidBg seen ≤ k → NoNumber k seen

later-push : (seen : Fields) (f : Key × ℕ) → f.0.1 ≡ count_of f.0.0 seen → Later seen → Later (seen ++ f ∷ [])
later-push seen f m later k h = NoNumber-push k seen f (later k (omega (arith, h, count_grows NidBg seen f))) (split_on (same_key (NidBg, k) f.0) taken (λ e. e))
  where
    taken : same_key (NidBg, k) f.0 ≡ true → same_key (NidBg, k) f.0 ≡ false
    taken e =
        let key : (NidBg, k) ≡ f.0 = key_test.one (NidBg, k) f.0 e in
        let k_is : k ≡ count_of NidBg seen = ap (λ (x : Key). x.1) key ∙ m ∙ ap (λ (x : Key). count_of x.0 seen) (sym key) in
        let more : count_of NidBg (seen ++ f ∷ []) ≡ suc (count_of NidBg seen) = count-more NidBg seen f (equal_yes var_test NidBg f.0.0 (ap (λ (x : Key). x.0) key)) in
        absurd (omega (arith, h, k_is, more))

count-tail : (v : Var) (f : Key × ℕ) (fs : Fields) → count_of v fs ≤ count_of v (f ∷ fs)
count-tail v f fs = split_on (is_of v f.0) (λ e. rw e (omega arith)) (λ e. rw e (omega arith))

same_var-swap : (a b : Var) (x : Bool) → same_var a b ≡ x → same_var b a ≡ x
same_var-swap a b x e = test-sym var_test b a ∙ e

abbrev an_id : ℕ → ℕ → Id
an_id c n = record { country = c; number = n }

-- an identity after others
abbrev with_id : List Id → ℕ → ℕ → List Id
with_id ids c n = ids ++ an_id c n ∷ []

length-with_id : (ids : List Id) (c n : ℕ) → length (with_id ids c n) ≡ length ids + 1
length-with_id ids c n = length-append ids (an_id c n ∷ [])

links_from : (c n : ℕ) (seen fs : Fields) (ids : List Id) → NumberedFrom seen fs → Later seen → (kept link_all (country_after c seen, ids) n fs).1 ≡ ids ++ links_among c (seen ++ fs) fs
links_from c n seen [] ids m later = sym (append-nil ids)
links_from c n seen (f ∷ fs) ids m later = at (same_var f.0.0 NidC) (same_var f.0.0 NidBg) refl refl (λ (more : List Id). links_from c (n - width_of f.0.0) (seen ++ f ∷ []) fs more m.1 (later-push seen f m.0 later) ∙ ap (λ (x : Fields). more ++ links_among c x fs) (append_assoc seen (f ∷ []) fs))
  where
    force : (a : Bool) → same_var f.0.0 NidC ≡ a → country_after c (seen ++ f ∷ []) ≡ cond a f.1 (country_after c seen)
    force a is = country_after-push c seen f ∙ ap (λ (x : Bool). cond x f.1 (country_after c seen)) (same_var-swap f.0.0 NidC a is)

    at : (a b : Bool) → same_var f.0.0 NidC ≡ a → same_var f.0.0 NidBg ≡ b → ((more : List Id) → (kept link_all (country_after c (seen ++ f ∷ []), more) (n - width_of f.0.0) fs).1 ≡ more ++ links_among c (seen ++ f ∷ fs) fs) → (kept link_all (cond a (f.1, ids) (cond b (country_after c seen, ids ++ an_id (country_after c seen) f.1 ∷ []) (country_after c seen, ids))) (n - width_of f.0.0) fs).1 ≡ ids ++ cond (is_of NidBg f.0) (an_id (country_at c f.0.1 (seen ++ f ∷ fs)) f.1 ∷ links_among c (seen ++ f ∷ fs) fs) (links_among c (seen ++ f ∷ fs) fs)
    at true b is is' rest =
        let other : is_of NidBg f.0 ≡ false = ap (same_var NidBg) (var_test.one f.0.0 NidC is) in
        rw other (rw (force true is) at (rest ids))
    at false true is is' rest =
        let v : NidBg ≡ f.0.0 = sym (var_test.one f.0.0 NidBg is') in
        let own : is_of NidBg f.0 ≡ true = same_var-swap f.0.0 NidBg true is' in
        let key : (NidBg, f.0.1) ≡ f.0 = ap (λ (x : Var). (x, f.0.1)) v in
        let count : f.0.1 ≡ count_of NidBg seen = m.0 ∙ ap (λ (x : Var). count_of x seen) (sym v) in
        let country : country_at c f.0.1 (seen ++ f ∷ fs) ≡ country_after c seen = country_before c f.0.1 seen f fs (later f.0.1 (omega (arith, count))) key in
        let more = ids ++ an_id (country_after c seen) f.1 ∷ [] in
        rw (own, country) ((rw (force false is) at (rest more)) ∙ append_assoc ids (an_id (country_after c seen) f.1 ∷ []) (links_among c (seen ++ f ∷ fs) fs))
    at false false is is' rest = rw (same_var-swap f.0.0 NidBg false is') (rw (force false is) at (rest ids))

-- where there are few enough the limit isn't met
kept_all : (s : ℕ × List Id) (n : ℕ) (fs : Fields) → length s.1 + count_of NidBg fs ≤ most_elements → kept link s n fs ≡ kept link_all s n fs
kept_all s n [] h = refl
kept_all s n (f ∷ fs) h = at (same_var f.0.0 NidC) (same_var f.0.0 NidBg) refl refl (λ (x : ℕ × List Id). kept_all x (n - width_of f.0.0) fs)
  where
    own : (b : Bool) → same_var f.0.0 NidBg ≡ b → count_of NidBg (f ∷ fs) ≡ cond b (suc (count_of NidBg fs)) (count_of NidBg fs)
    own b e = ap (λ (x : Bool). cond x (suc (count_of NidBg fs)) (count_of NidBg fs)) (same_var-swap f.0.0 NidBg b e)

    other : length s.1 + count_of NidBg fs ≤ most_elements
    other = omega (arith, h, count-tail NidBg f fs)

    at : (a b : Bool) → same_var f.0.0 NidC ≡ a → same_var f.0.0 NidBg ≡ b → ((x : ℕ × List Id) → length x.1 + count_of NidBg fs ≤ most_elements → kept link x (n - width_of f.0.0) fs ≡ kept link_all x (n - width_of f.0.0) fs) →
        kept link (cond a (f.1, s.1) (cond b (s.0, take most_elements (with_id s.1 s.0 f.1)) s)) (n - width_of f.0.0) fs ≡ kept link_all (cond a (f.1, s.1) (cond b (s.0, with_id s.1 s.0 f.1) s)) (n - width_of f.0.0) fs
    at true b is is' rest = rest (f.1, s.1) other
    at false true is is' rest =
        let l = length-with_id s.1 s.0 f.1 in
        let o = own true is' in
        let all : take most_elements (with_id s.1 s.0 f.1) ≡ with_id s.1 s.0 f.1 = take_all most_elements (with_id s.1 s.0 f.1) (omega (arith, h, l, o)) in
        ap (λ (ids : List Id). kept link (s.0, ids) (n - width_of f.0.0) fs) all ∙ rest (s.0, with_id s.1 s.0 f.1) (omega (arith, h, l, o))
    at false false is is' rest = rest s other

-- along a whole packet
pub links_found : (c n : ℕ) (p : Packet) → Numbered p.fields → count_of NidBg p.fields ≤ most_elements → (kept link (c, []) n p.fields).1 ≡ links_of c p
links_found c n p m few = ap (λ (x : ℕ × List Id). x.1) (kept_all (c, []) n p.fields (omega (arith, few))) ∙ links_from c n [] p.fields [] m (λ k h. tt)

-- ---- the first few

-- what was found stays
found_stays : (s : ℕ × List Id) (n : ℕ) (fs : Fields) → length s.1 ≤ length (kept link_all s n fs).1
found_stays s n [] = omega arith
found_stays s n (f ∷ fs) = at (same_var f.0.0 NidC) (same_var f.0.0 NidBg) (λ (x : ℕ × List Id). found_stays x (n - width_of f.0.0) fs)
  where
    at : (a b : Bool) → ((x : ℕ × List Id) → length x.1 ≤ length (kept link_all x (n - width_of f.0.0) fs).1) → length s.1 ≤ length (kept link_all (cond a (f.1, s.1) (cond b (s.0, with_id s.1 s.0 f.1) s)) (n - width_of f.0.0) fs).1
    at true b rest = rest (f.1, s.1)
    at false true rest = omega (arith, rest (s.0, with_id s.1 s.0 f.1), length-with_id s.1 s.0 f.1)
    at false false rest = rest s

-- whether there were more than a few, at the end and before: where there were not, the few are all, and where there were, all are more
abbrev FewOfAll : Bool → Bool → List Id → List Id → Type 0
FewOfAll false before ids all = (before ≡ false) × (ids ≡ all)
FewOfAll true before ids all = (before ≡ true) ⊎ (few < length all)

unchanged : (b : Bool) (ids : List Id) → FewOfAll b b ids ids
unchanged false ids = (refl, refl)
unchanged true ids = inl refl

one_more : (end b : Bool) (ids all : List Id) → FewOfAll end (b || false) ids all → FewOfAll end b ids all
one_more end true ids all h = h
one_more end false ids all h = h

no_room : (end b : Bool) (ids all more : List Id) → few < length more → FewOfAll end (b || true) ids all → FewOfAll end b ids more
no_room true b ids all more l h = inr l
no_room false true ids all more l h = absurd cc
no_room false false ids all more l h = absurd cc

few_of_all : (s : ℕ × List Id × Bool) (n : ℕ) (fs : Fields) → FewOfAll (kept link_few s n fs).2 s.2 (kept link_few s n fs).1 (kept link_all (s.0, s.1) n fs).1
few_of_all s n [] = unchanged s.2 s.1
few_of_all s n (f ∷ fs) = at (same_var f.0.0 NidC) (same_var f.0.0 NidBg) (ltb (length s.1) few) refl (λ (x : ℕ × List Id × Bool). few_of_all x (n - width_of f.0.0) fs)
  where
    at : (a b room : Bool) → ltb (length s.1) few ≡ room → ((x : ℕ × List Id × Bool) → FewOfAll (kept link_few x (n - width_of f.0.0) fs).2 x.2 (kept link_few x (n - width_of f.0.0) fs).1 (kept link_all (x.0, x.1) (n - width_of f.0.0) fs).1)
        → let few_after : ℕ × List Id × Bool = kept link_few (cond a (f.1, s.1, s.2) (cond b (s.0, cond room (with_id s.1 s.0 f.1) s.1, s.2 || not room) s)) (n - width_of f.0.0) fs in
        FewOfAll few_after.2 s.2 few_after.1 (kept link_all (cond a (f.1, s.1) (cond b (s.0, with_id s.1 s.0 f.1) (s.0, s.1))) (n - width_of f.0.0) fs).1
    at true b room is rest = rest (f.1, s.1, s.2)
    at false true true is rest = one_more _ s.2 _ _ (rest (s.0, with_id s.1 s.0 f.1, s.2 || false))
    at false true false is rest =
        let full : few ≤ length s.1 = ltb-false _ _ is in
        no_room _ s.2 _ _ _ (omega (arith, full, length-with_id s.1 s.0 f.1, found_stays (s.0, with_id s.1 s.0 f.1) (n - width_of f.0.0) fs)) (rest (s.0, s.1, s.2 || true))
    at false false room is rest = rest s

-- along a whole packet
few_links : (c n : ℕ) (p : Packet) (b : Bool) → Numbered p.fields → (kept link_few (c, [], false) n p.fields).2 ≡ b → FewOfAll b false (kept link_few (c, [], false) n p.fields).1 (links_of c p)
few_links c n p b m e = rw (← e) (subst (FewOfAll (kept link_few (c, [], false) n p.fields).2 false (kept link_few (c, [], false) n p.fields).1) (links_from c n [] p.fields [] m (λ k h. tt)) (few_of_all (c, [], false) n p.fields))

pub few_found : (c n : ℕ) (p : Packet) → Numbered p.fields → (kept link_few (c, [], false) n p.fields).2 ≡ false → (kept link_few (c, [], false) n p.fields).1 ≡ links_of c p
few_found c n p m e = (few_links c n p false m e).1

pub more_found : (c n : ℕ) (p : Packet) → Numbered p.fields → (kept link_few (c, [], false) n p.fields).2 ≡ true → few < length (links_of c p)
more_found c n p m e = elim (few_links c n p true m e) [
  | inl none ↦ absurd cc
  | inr more ↦ more
]
