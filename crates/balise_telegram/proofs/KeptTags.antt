-- Tags of packets as they were read, and tags that are kept.
use Rattle.std.proofs.Common.{◌≡◌, ◌∙◌, ℕ, zero, suc, ◌+◌, ◌<◌, ◌≤◌, Bool, true, cond, List, [], ◌∷◌, ◌++◌, length, drop, get_or, slice_get, Option, Some, None, option_map, refl, sym, ap, arith}
use Rattle.std.specs.List.{position, position_from}
use Rattle.std.proofs.lemmas.List.{length-replicate}
use Rattle.std.proofs.lemmas.Option.{slice_get-get_or, slice_get_past}
use Rattle.std.proofs.lemmas.Iterator.Adapters.{position_from-zero}
use Rattle.balise_rules.specs.declared.tag.Tag.{Tag}
use Rattle.balise_rules.specs.declared.tag.Tag.TheVariants.{Base}
use Rattle.balise_rules.specs.Bits.{ones, put_at}
use Rattle.balise_rules.specs.Packet.{Packet}
use Rattle.balise_rules.specs.Tagged.{find}
use Rattle.balise_rules.specs.Tags.{same_tag}
use Rattle.balise_rules.specs.Telegram.{TaggedFrom}
use Rattle.balise_rules.proofs.TaggedFrom.{tagged_at}
use Rattle.balise_telegram.specs.Shown.{tags_of}
use Rattle.balise_telegram.proofs.Tagging.{Packets, is_tagged, not_found}
use Rattle.balise_telegram.proofs.Placing.{looked}
use Rattle.balise_telegram.proofs.Shifting.{own_tag}

nothing : Tag × Packet
nothing = (Base 0, record { fields = []; rest = [] })

-- the tag of a packet that was read is its place
tag_got : (n k : ℕ) (ps : Packets) (d : Tag × Packet) → TaggedFrom n ps → k < length ps → (get_or ps k d).0 ≡ Base (n + k)
tag_got n k [] d u h = absurd (omega (arith, h))
tag_got n zero (y ∷ ys) d u h = u.0 ∙ ap Base (let e : n ≡ n + 0 = omega arith in e)
tag_got n (suc k) (y ∷ ys) d u h = tag_got (suc n) k ys d u.1 (omega (arith, h)) ∙ ap Base (let e : suc n + k ≡ n + suc k = omega arith in e)

base_at : (k m : ℕ) (ps : Packets) (d : Tag × Packet) → TaggedFrom 0 ps → k < length ps → (get_or ps k d).0 ≡ Base k
base_at k m ps d u h = tag_got 0 k ps d u h ∙ ap Base (let e : 0 + k ≡ k = omega arith in e)

pub place_is : (tag : Tag) (ps : Packets) (o : Option ℕ) → TaggedFrom 0 ps → o ≡ position (is_tagged tag) ps → (m : ℕ) → tag ≡ Base m → m < length ps → Some m ≡ o
place_is tag ps None u e m t h =
    let gone = not_found tag ps e in
    let there : slice_get ps m ≡ Some (get_or ps m nothing) = slice_get-get_or ps m nothing h in
    let none : slice_get ps m ≡ None =
    tagged_at 0 m m ps (omega arith) u ∙ ap (λ (k : Tag). option_map (λ (x : Packet). (Base m, x)) (find same_tag k ps)) (sym t) ∙ ap (option_map (λ (x : Packet). (Base m, x))) gone in
    absurd cc
place_is tag ps (Some j) u e m t h =
    let q = looked tag ps j e in
    let own : tag ≡ q.0.0 = own_tag tag ps j q.0 q.1 in
    let same : q.0.0 ≡ Base j = ap (λ (x : Tag × Packet). x.0) q.1.is ∙ base_at j m ps q.0 u q.1.within in
    let both : Base m ≡ Base j = sym t ∙ own ∙ same in
    let one : m ≡ j = cc in
    ap Some one

pub no_place : (tag : Tag) (ps : Packets) (o : Option ℕ) → TaggedFrom 0 ps → o ≡ position (is_tagged tag) ps → ((j : ℕ) → tag ≡ Base j → j < length ps → ⊥) → None ≡ o
no_place tag ps None u e not = refl
no_place tag ps (Some j) u e not =
    let q = looked tag ps j e in
    absurd (not j (own_tag tag ps j q.0 q.1 ∙ ap (λ (x : Tag × Packet). x.0) q.1.is ∙ base_at j j ps q.0 u q.1.within) q.1.within)

pub read_tag : (ps : Packets) (i : ℕ) → TaggedFrom 0 ps → i < length ps → Some (Base i) ≡ option_map (λ (q : Tag × Packet). q.0) (slice_get ps i)
read_tag ps i u h =
    ap Some (sym (base_at i i ps nothing u h)) ∙ sym (ap (option_map (λ (q : Tag × Packet). q.0)) (slice_get-get_or ps i nothing h))

pub no_tag : (ps : Packets) (i : ℕ) → length ps ≤ i → None ≡ option_map (λ (q : Tag × Packet). q.0) (slice_get ps i)
no_tag ps i h = sym (ap (option_map (λ (q : Tag × Packet). q.0)) (slice_get_past ps i h))

-- ---- tags that are kept

from_tags : (tag : Tag) (n : ℕ) (ps : Packets) → position_from (same_tag tag) n (tags_of ps) ≡ position_from (is_tagged tag) n ps
from_tags tag n [] = refl
from_tags tag n (p ∷ ps) = ap (cond (same_tag tag p.0) (Some n)) (from_tags tag (n + 1) ps)

pub position-tags : (tag : Tag) (ps : Packets) → position (same_tag tag) (tags_of ps) ≡ position (is_tagged tag) ps
position-tags tag ps = position_from-zero (same_tag tag) (tags_of ps) ∙ from_tags tag 0 ps ∙ sym (position_from-zero (is_tagged tag) ps)

-- the tags of a number of packets that were read
abbrev pub base_tags : ℕ → ℕ → List Tag
base_tags n zero = []
base_tags n (suc k) = Base n ∷ base_tags (suc n) k

tags-more : (n k : ℕ) → base_tags n (suc k) ≡ base_tags n k ++ Base (n + k) ∷ []
tags-more n zero = ap (λ (t : Tag). t ∷ []) (ap Base (let e : n ≡ n + 0 = omega arith in e))
tags-more n (suc k) = ap (λ (l : List Tag). Base n ∷ l) (tags-more (suc n) k ∙ ap (λ (m : ℕ). base_tags (suc n) k ++ Base m ∷ []) (let e : suc n + k ≡ n + suc k = omega arith in e))

pub base_more : (k : ℕ) (ts : List Tag) → ts ≡ base_tags 0 k → ts ++ Base k ∷ [] ≡ base_tags 0 (k + 1)
base_more k ts e =
    let zero_ : 0 + k ≡ k = omega arith in
    let one : suc k ≡ k + 1 = omega arith in
    ap (λ (l : List Tag). l ++ Base k ∷ []) e ∙ ap (λ (m : ℕ). base_tags 0 k ++ Base m ∷ []) (sym zero_) ∙ sym (tags-more 0 k) ∙ ap (base_tags 0) one

tags_from : (n : ℕ) (ps : Packets) → TaggedFrom n ps → base_tags n (length ps) ≡ tags_of ps
tags_from n [] u = refl
tags_from n (p ∷ ps) u = ap (λ (l : List Tag). Base n ∷ l) (tags_from (suc n) ps u.1) ∙ ap (λ (t : Tag). t ∷ tags_of ps) (sym u.0)

pub tags_read : (ps : Packets) (k : ℕ) (ts : List Tag) → TaggedFrom 0 ps → ts ≡ base_tags 0 k → k ≡ length ps → ts ≡ tags_of ps
tags_read ps k ts u e is = e ∙ ap (base_tags 0) is ∙ tags_from 0 ps u

pub ground_read : (b copy new ground : List Bool) (u n : ℕ) → copy ≡ b → new ≡ put_at 0 (ones n) copy → n ≡ u → ground ≡ ones u ++ drop u b → new ≡ ground
ground_read b copy new ground u n e f is g =
    let size : 0 + length (ones n) ≡ u = omega (arith, length-replicate n true, is) in
    f ∙ ap (λ (k : ℕ). ones n ++ drop k copy) size ∙ ap (λ (l : List Bool). ones n ++ drop u l) e ∙ ap (λ (k : ℕ). ones k ++ drop u b) is ∙ sym g
