-- Links noted in the index, or forgotten, one part of them after another.
use Rattle.std.proofs.Common.{◌≡◌, ◌≢◌, ◌<◌, ◌+◌, ◌++◌, ◌∙◌, ℕ, [], ◌∷◌, List, Bool, drop, get_or, length, slice_get, Some, refl, sym, ap, subst, cond}
use Rattle.std.proofs.lemmas.Option.{slice_get-get_or}
use Rattle.balise_rules.specs.declared.tag.Tag.{Tag}
use Rattle.balise_rules.specs.declared.identity.Id.{Id}
use Rattle.balise_rules.specs.Telegram.{Telegram}
use Rattle.balise_rules.specs.Plan.{Group, country_of}
use Rattle.balise_rules.specs.Names.{is_real}
use Rattle.balise_index.specs.declared.link_place.LinkPlace.{LinkPlace}
use Rattle.balise_plan.specs.GroupLinks.{links_from, links_in_group, links_in_packets, KeepsOthers, SetsAll}
use Rattle.balise_index.specs.NameIndex.{held, names_of, tags_of, NameIndex, Sets}
use Rattle.balise_plan.proofs.naming.GroupLists.{Index, Links, drop_found, from_next, others_before, others_then, sets_one, sets_others, sets_then}
use Rattle.balise_plan.proofs.naming.LinkSteps.{real, unreal}

-- what notes those that are left, or forgets them, does so with all of them
pub record Setting (v : Bool) (all left : Links) (old mid : NameIndex) : Type 0 where
  pub set : (new : Index) → SetsAll v left (names_of mid) new → SetsAll v all (names_of old) new
  pub others : (new : Index) → KeepsOthers left (names_of mid) new → KeepsOthers all (names_of old) new
  pub tags : tags_of mid ≡ tags_of old

-- ---- one part more

pub setting_on : {v : Bool} {all left : Links} {old mid : NameIndex} (one more : Links) (next : NameIndex) → Setting v all left old mid → left ≡ one ++ more → SetsAll v one (names_of mid) (names_of next) → tags_of next ≡ tags_of mid → Setting v all more old next
setting_on {v = v} {mid = mid} one more next a rest s same = record {
  set = λ new f. a.set new (subst (λ (ls : Links). SetsAll v ls (names_of mid) new) (sym rest) (sets_then v one more (names_of mid) (names_of next) new s f));
  others = λ new f. a.others new (subst (λ (ls : Links). KeepsOthers ls (names_of mid) new) (sym rest) (others_then one more (names_of mid) (names_of next) new (sets_others v one (names_of mid) (names_of next) s) f));
  tags = same ∙ a.tags;
}

-- memory ran out within the next part
pub setting_stopped : {v : Bool} {all left : Links} {old mid : NameIndex} (one more : Links) (next : NameIndex) → Setting v all left old mid → left ≡ one ++ more → KeepsOthers one (names_of mid) (names_of next) → KeepsOthers all (names_of old) (names_of next)
setting_stopped {mid = mid} one more next a rest s = a.others (names_of next) (subst (λ (ls : Links). KeepsOthers ls (names_of mid) (names_of next)) (sym rest) (others_before one more (names_of mid) (names_of next) s))

-- nothing is left
pub all_set : {v : Bool} {all left : Links} {old mid : NameIndex} → Setting v all left old mid → left ≡ [] → SetsAll v all (names_of old) (names_of mid)
all_set {v = v} {mid = mid} a e = a.set (names_of mid) (subst (λ (ls : Links). SetsAll v ls (names_of mid) (names_of mid)) (sym e) (λ q w. refl))

-- memory ran out, and nothing was noted since
pub none_set : {v : Bool} {all left : Links} {old mid : NameIndex} (next : NameIndex) → Setting v all left old mid → names_of next ≡ names_of mid → KeepsOthers all (names_of old) (names_of next)
none_set next a same = a.others (names_of next) (λ q w _. ap (λ (m : Index). held m q w) same)

-- ---- the parts

pub group_rest : (g : Tag) (ys : Group) (i t : ℕ) (y : Telegram) → Some (t, y) ≡ slice_get ys i → links_in_group g (drop i ys) ≡ links_in_packets g t (country_of y) y.packets ++ links_in_group g (drop (i + 1) ys)
group_rest g ys i t y e = ap (links_in_group g) (drop_found ys i (t, y) (sym e))

abbrev nobody : Id
nobody = record { country = 0; number = 0 }

module _ (g : Tag) (t : ℕ) (p : Tag) (k : ℕ) (es ids : List Id) (all : ids ≡ es) (within : k < length ids) where
  abbrev here : LinkPlace
  here = record { group = g; telegram = t; packet = p; element = k }

  abbrev one : Links
  one = (get_or ids k nobody, here) ∷ []

  abbrev more : Links
  more = links_from g t p (k + 1) (drop (k + 1) es)

  first : links_from g t p k (drop k es) ≡ cond (is_real (get_or ids k nobody)) (one ++ more) more
  first = from_next g t p k es (get_or ids k nobody) (ap (λ l. slice_get l k) (sym all) ∙ slice_get-get_or ids k nobody within)

  next : (get_or ids k nobody).number ≢ 16383 → links_from g t p k (drop k es) ≡ one ++ more
  next n = first ∙ ap (λ b. cond b (one ++ more) more) (real (get_or ids k nobody) n)

  past : (get_or ids k nobody).number ≡ 16383 → links_from g t p k (drop k es) ≡ more
  past n = first ∙ ap (λ b. cond b (one ++ more) more) (unreal (get_or ids k nobody) n)

  -- the element is noted, or forgotten, or names nothing
  module _ (v : Bool) (all_links : Links) (old mid : NameIndex) (a : Setting v all_links (links_from g t p k (drop k es)) old mid) where
    pub element_set : (new : NameIndex) → (get_or ids k nobody).number ≢ 16383 → (w : LinkPlace) → w ≡ here → Sets (names_of mid) (names_of new) (get_or ids k nobody) w v → tags_of new ≡ tags_of mid → Setting v all_links more old new
    element_set new n w e s same = setting_on one more new a (next n) (sets_one v (get_or ids k nobody, here) (names_of mid) (names_of new) (subst (λ (x : LinkPlace). Sets (names_of mid) (names_of new) (get_or ids k nobody) x v) e s)) same

    pub element_past : (get_or ids k nobody).number ≡ 16383 → Setting v all_links more old mid
    element_past n = subst (λ (left : Links). Setting v all_links left old mid) (past n) a
