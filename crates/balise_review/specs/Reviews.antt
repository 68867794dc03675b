-- The lines of a review one level after another, as they are found in the plan before the turn.
use Rattle.std.specs.Prelude.{◌≡◌, ℕ, suc, true, cond, List, [], ◌∷◌, ◌++◌, map, filter, position, reverse, Some, Option, None, slice_get}
use Rattle.std.specs.BTreeSet as set
use Rattle.std.specs.Map.{keys_of}
use Rattle.std.specs.Ordering.{nat_cmp}
use Rattle.balise_rules.specs.declared.identity.Id.{Id}
use Rattle.balise_rules.specs.declared.tag.Tag.{Tag}
use Rattle.balise_rules.specs.declared.review.Reviewed.{Reviewed}
use Rattle.balise_rules.specs.declared.review.Reviewed.TheVariants.{Field}
use Rattle.balise_rules.specs.declared.review.ReviewLine.{ReviewLine}
use Rattle.balise_rules.specs.Variables.{is_distance}
use Rattle.balise_rules.specs.Tags.{Key, same_tag, same_id}
use Rattle.balise_rules.specs.Forms.{Fields}
use Rattle.balise_rules.specs.Names.{links_among}
use Rattle.balise_rules.specs.Packet.{Packet}
use Rattle.balise_rules.specs.Telegram.{Telegram, version_of}
use Rattle.balise_rules.specs.Plan.{Group, Plan, country_of, identity_of}
use Rattle.balise_rules.specs.Review.{over, looked_in, lines_at, distance_of, links_looked}
use Rattle.balise_plan.specs.Links.{named_at}
use Rattle.balise_index.specs.Places.{among}
use Rattle.balise_index.specs.declared.link_place.LinkPlace.{LinkPlace}

-- the distances among fields
abbrev pub distances : Fields → List Reviewed
distances fs = map (λ (f : Key × ℕ). Field f.0.0 f.0.1 f.1) (filter (λ (f : Key × ℕ). is_distance f.0.0) fs)

-- the distances and unknown packets of the packets of a telegram, counted on from n
abbrev pub packet_lines : Id → ℕ → ℕ → ℕ → List (Tag × Packet) → List ReviewLine
packet_lines i version pig n ps = over (λ pkt (p : Tag × Packet). lines_at i pig pkt (looked_in version p.1)) n ps

-- those of the telegrams of a group with an identity, counted on from n
abbrev pub telegram_lines : Id → ℕ → Group → List ReviewLine
telegram_lines i n ys = over (λ pig (t : ℕ × Telegram). packet_lines i (version_of t.1) pig 0 t.1.packets) n ys

-- of elements with these identities of a packet with these fields, counted on from k, those that name the identity: what is looked at
abbrev pub named_from : Id → Fields → ℕ → List Id → List Reviewed
named_from i fs k [] = []
named_from i fs k (j ∷ js) = cond (same_id j i) (distance_of fs k ++ distance_of fs (suc k)) [] ++ named_from i fs (suc k) js

-- the same of all elements of a packet, in a telegram of country c
abbrev pub named_in : Id → ℕ → Packet → List Reviewed
named_in i c x = named_from i x.fields 0 (links_among c x.fields x.fields)

-- the links to an identity in the packets of a telegram of a group with the identity j, counted on from n
abbrev pub packet_links : Id → Id → ℕ → ℕ → ℕ → List (Tag × Packet) → List ReviewLine
packet_links i j country pig n ps = over (λ pkt (p : Tag × Packet). lines_at j pig pkt (links_looked i country p.1)) n ps

-- those in the telegrams of the group, counted on from n
abbrev pub telegram_links : Id → Id → ℕ → Group → List ReviewLine
telegram_links i j n ys = over (λ pig (t : ℕ × Telegram). packet_links i j (country_of t.1) pig 0 t.1.packets) n ys

-- those in a group of the plan, the turned one's telegrams in the other order
abbrev pub group_links : Tag → Id → Tag × Group → List ReviewLine
group_links g i y = telegram_links i (identity_of y.1) 0 (cond (same_tag g y.0) (reverse y.1) y.1)

-- what an item gives, where there is one
abbrev pub given : {A B : Type 0} → (A → List B) → Option A → List B
given f None = []
given f (Some x) = f x

-- those in the group at a place of the plan, where there is one
abbrev pub links_of : Tag → Id → Plan → ℕ → List ReviewLine
links_of g i plan k = given (group_links g i) (slice_get plan k)

-- the place of the group of each link is among the places
abbrev pub HasPlaces : List LinkPlace → Plan → set.BTreeSet ℕ → Type 0
HasPlaces links plan places = (w : LinkPlace) (k : ℕ) → position (same_tag w.group) (keys_of plan) ≡ Some k → among w links ≡ true → set.contains nat_cmp places k ≡ true

-- the place of each group that has a link to the identity is among these
abbrev pub HasLinking : Id → Plan → set.BTreeSet ℕ → Type 0
HasLinking i plan places = (w : LinkPlace) (k : ℕ) → position (same_tag w.group) (keys_of plan) ≡ Some k → named_at i w plan ≡ true → set.contains nat_cmp places k ≡ true
