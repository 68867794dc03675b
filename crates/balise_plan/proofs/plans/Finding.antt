-- What stands at an address, found step by step.
use Rattle.std.proofs.Common.{◌≡◌, ◌∙◌, ℕ, ◌-◌, length, Option, Some, None, option_map, ok_or, slice_get, Ok, refl, sym, ap}
use Rattle.balise_rules.specs.declared.identity.Id.{Id}
use Rattle.balise_rules.specs.declared.tag.Tag.{Tag}
use Rattle.balise_rules.specs.declared.refusal.Refusal.TheVariants.{NoSuchGroup, NoSuchTelegram, NoSuchPacket}
use Rattle.balise_rules.specs.Refusals.{and_then}
use Rattle.balise_rules.specs.Addresses.{find_group, find_telegram, find_packet, found_telegram, found_packet, FoundTelegram}
use Rattle.balise_rules.specs.Packet.{Packet}
use Rattle.balise_rules.specs.Tagged.{find, Distinct}
use Rattle.balise_rules.specs.Tags.{same_tag}
use Rattle.balise_rules.specs.Telegram.{Telegram}
use Rattle.balise_rules.specs.Plan.{Group, Plan, IsSound, group_named, identity_of}
use Rattle.balise_rules.proofs.Cases.{unsome, found}
use Rattle.balise_rules.proofs.Found.{group_sound}
use Rattle.balise_plan.specs.Held.{tag_named}
use Rattle.balise_plan.proofs.naming.GroupLists.{sound_at}
use Rattle.balise_plan.proofs.naming.Identities.{named-found}

named : (i : Id) (plan : Plan) (g : Tag) → tag_named i plan ≡ Some g → (z : Tag × Group) × (group_named i plan ≡ Some z) × (z.0 ≡ g)
named i plan g e =
    found (group_named i plan) (λ h. absurd (let q : None ≡ Some g = sym (ap (option_map (λ (y : Tag × Group). y.0)) h) ∙ e in cc))
    (λ z h. (z, h, unsome (sym (ap (option_map (λ (y : Tag × Group). y.0)) h) ∙ e)))

-- the tag that the index has is that of a group
pub group-tagged : (i : Id) (plan : Plan) (g : Tag) → tag_named i plan ≡ Some g → (ys : Group) × (find_group i plan ≡ Ok (g, ys))
group-tagged i plan g e = let z = named i plan g e in (z.0.1, ap (λ o. ok_or o NoSuchGroup) z.1 ∙ ap (λ (t : Tag). Ok (t, z.0.1)) z.2)

-- the group of the tag that the index has
pub group_found : (i : Id) (plan : Plan) (g : Tag) (ys : Group) → IsSound plan → tag_named i plan ≡ Some g → find same_tag g plan ≡ Some ys → find_group i plan ≡ Ok (g, ys)
group_found i plan g ys sound e f =
    let z = named i plan g e in
    let there = (named-found i plan sound.tags z.0 z.1).0 in
    let same : z.0.1 ≡ ys = unsome (sym there ∙ ap (λ (t : Tag). find same_tag t plan) z.2 ∙ f) in
    ap (λ o. ok_or o NoSuchGroup) z.1 ∙ ap (λ (t : Tag). Ok (t, z.0.1)) z.2 ∙ ap (λ (q : Group). Ok (g, q)) same

-- it stands
pub group_there : (i : Id) (plan : Plan) (g : Tag) → IsSound plan → tag_named i plan ≡ Some g → find same_tag g plan ≡ None → ⊥
group_there i plan g sound e f =
    let z = named i plan g e in
    let there = (named-found i plan sound.tags z.0 z.1).0 in
    let no : None ≡ Some z.0.1 = sym f ∙ ap (λ (t : Tag). find same_tag t plan) (sym z.2) ∙ there in cc

pub telegram_found : (i : Id) (pig : ℕ) (plan : Plan) (g : Tag) (ys : Group) (o : Option (ℕ × Telegram)) → find_group i plan ≡ Ok (g, ys) → slice_get ys pig ≡ o → find_telegram i pig plan ≡ and_then (ok_or o NoSuchTelegram) (λ t. Ok (found_telegram g t))
telegram_found i pig plan g ys o e f = rw (e, f) refl

pub tags_there : (plan : Plan) (g : Tag) (ys : Group) (pig t : ℕ) (y : Telegram) → IsSound plan → find same_tag g plan ≡ Some ys → slice_get ys pig ≡ Some (t, y) → Distinct same_tag y.packets
tags_there plan g ys pig t y sound e f = (sound_at (identity_of ys) (length ys - 1) 0 ys pig t y (group_sound plan sound g ys e).telegrams f).tags

pub packet_found : (i : Id) (pig pkt : ℕ) (plan : Plan) (f : FoundTelegram) (o : Option (Tag × Packet)) → find_telegram i pig plan ≡ Ok f → slice_get f.telegram.packets pkt ≡ o → find_packet i pig pkt plan ≡ and_then (ok_or o NoSuchPacket) (λ p. Ok (found_packet f p))
packet_found i pig pkt plan f o e h = rw (e, h) refl
