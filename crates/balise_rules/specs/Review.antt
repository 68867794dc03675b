-- What is to be looked at by hand after a group was turned: distances, which aren't shifted, and packets that aren't known (this project's own).
use Rattle.std.specs.Prelude.{ℕ, suc, nat_le, cond, List, [], ◌∷◌, ◌++◌, length, map, filter, flat_map, option_map, option_to_list, Option, Some, None}
use Rattle.balise_rules.specs.declared.variable.Var.TheVariants.{NidPacket, DLink}
use Rattle.balise_rules.specs.declared.identity.Id.{Id}
use Rattle.balise_rules.specs.declared.tag.Tag.{Tag}
use Rattle.balise_rules.specs.declared.review.Reviewed.{Reviewed}
use Rattle.balise_rules.specs.declared.review.Reviewed.TheVariants.{Field, Opaque}
use Rattle.balise_rules.specs.declared.review.ReviewLine.{ReviewLine}
use Rattle.balise_rules.specs.Variables.{is_distance}
use Rattle.balise_rules.specs.Tagged.{find}
use Rattle.balise_rules.specs.Tags.{Key, same_tag}
use Rattle.balise_rules.specs.Forms.{Fields}
use Rattle.balise_rules.specs.Packets.{is_known}
use Rattle.balise_rules.specs.Packet.{Packet, value, field_of}
use Rattle.balise_rules.specs.Telegram.{Telegram, version_of}
use Rattle.balise_rules.specs.Plan.{Group, Plan, identity_of, country_of}
use Rattle.balise_rules.specs.Names.{elements_among}
use Rattle.balise_rules.specs.declared.tagged_edit.TaggedEdit.TheVariants.{TurnGroup}
use Rattle.balise_rules.specs.Doing.{done}

-- what each item of a list gives, with its place, counted on from n
abbrev pub over : {A B : Type 0} → (ℕ → A → List B) → ℕ → List A → List B
over f n [] = []
over f n (x ∷ xs) = f n x ++ over f (suc n) xs

abbrev pub looked_in : ℕ → Packet → List Reviewed
looked_in version x =
    cond (is_known version (value NidPacket 0 x.fields))
    (map (λ (f : Key × ℕ). Field f.0.0 f.0.1 f.1) (filter (λ (f : Key × ℕ). is_distance f.0.0) x.fields))
    (Opaque (value NidPacket 0 x.fields) ∷ [])

abbrev pub lines_at : Id → ℕ → ℕ → List Reviewed → List ReviewLine
lines_at i pig pkt ws = map (λ (w : Reviewed). record { id = i; pig = pig; pkt = pkt; what = w }) ws

-- the distances and unknown packets of a group
abbrev pub lines_in : Group → List ReviewLine
lines_in ys = over (λ pig (t : ℕ × Telegram). over (λ pkt (p : Tag × Packet). lines_at (identity_of ys) pig pkt (looked_in (version_of t.1) p.1)) 0 t.1.packets) 0 ys

abbrev pub distance_of : Fields → ℕ → List Reviewed
distance_of fs k = option_to_list (option_map (Field DLink k) (field_of DLink k fs))

-- of each element that names the identity its D_LINK, and that of the next element of its packet
abbrev pub links_looked : Id → ℕ → Packet → List Reviewed
links_looked i c x = flat_map (λ k. distance_of x.fields k ++ distance_of x.fields (suc k)) (elements_among i c x.fields x.fields)

abbrev pub link_lines : Id → Plan → List ReviewLine
link_lines i plan = flat_map (λ (g : Tag × Group). over (λ pig (t : ℕ × Telegram). over (λ pkt (p : Tag × Packet). lines_at (identity_of g.1) pig pkt (links_looked i (country_of t.1) p.1)) 0 t.1.packets) 0 g.1) plan

abbrev pub review_in : Option Group → Plan → List ReviewLine
review_in None plan = []
review_in (Some ys) plan = cond (nat_le (length ys) 1) [] (lines_in ys ++ link_lines (identity_of ys) plan)

-- the lines after group g was turned, of the plan as it then is; a group of one telegram has none
abbrev pub review : Tag → Plan → List ReviewLine
review g plan = review_in (find same_tag g (done (0, TurnGroup g) plan)) (done (0, TurnGroup g) plan)
