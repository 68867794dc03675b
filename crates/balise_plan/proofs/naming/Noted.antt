-- What a group names is what its telegrams name, one after another.
use Rattle.std.proofs.Common.{◌≡◌, ◌∙◌, ◌++◌, ◌∷◌, [], ℕ, List, sym, ap, append_assoc}
use Rattle.std.proofs.lemmas.List.{append-nil}
use Rattle.balise_rules.specs.declared.identity.Id.{Id}
use Rattle.balise_rules.specs.declared.tag.Tag.{Tag}
use Rattle.balise_rules.specs.declared.tag.Tag.TheVariants.{Base}
use Rattle.balise_rules.specs.Names.{links_of}
use Rattle.balise_rules.specs.Plan.{country_of, Group}
use Rattle.balise_rules.specs.Telegram.{Telegram}
use Rattle.balise_telegram.specs.Linking.{NameNothing, NamesAlone}
use Rattle.balise_index.specs.declared.link_place.LinkPlace.{LinkPlace}
use Rattle.balise_plan.specs.GroupLinks.{links_from, links_in_group, links_in_packets}
use Rattle.balise_plan.specs.GroupNames.{AreLinks}
use Rattle.balise_plan.specs.declared.group_names.GroupNames.{GroupNames}
use Rattle.balise_plan.specs.declared.group_names.GroupNames.TheVariants as names
use Rattle.balise_plan.proofs.naming.Past.{links_past, no_links}

abbrev Noted : Type 0
Noted = List (Id × LinkPlace)

abbrev links_of_last : Tag → ℕ → Telegram → Noted
links_of_last g t y = links_in_packets g t (country_of y) y.packets

-- those of a telegram that is added come last
added : (g : Tag) (ys : Group) (t : ℕ) (y : Telegram) → links_in_group g (ys ++ (t, y) ∷ []) ≡ links_in_group g ys ++ links_of_last g t y
added g [] t y = append-nil (links_of_last g t y)
added g (z ∷ zs) t y =
    ap (λ (ls : Noted). links_in_packets g z.0 (country_of z.1) z.1.packets ++ ls) (added g zs t y)
    ∙ sym (append_assoc (links_in_packets g z.0 (country_of z.1) z.1.packets) (links_in_group g zs) (links_of_last g t y))

-- where one packet alone has elements, they are those of the telegram
of_one : (g : Tag) (t : ℕ) (y : Telegram) (i : ℕ) (ids : List Id) → NamesAlone i ids (country_of y) y.packets → links_of_last g t y ≡ links_from g t (Base i) 0 ids
of_one g t y i ids n =
    let c = country_of y in
    links_past g t c y.packets ((Base i, n.packet) ∷ n.after) (n.before, n.nothing_before, n.stands)
    ∙ ap (λ (ls : Noted). links_from g t (Base i) 0 (links_of c n.packet) ++ ls) (no_links g t c n.after n.nothing_after)
    ∙ append-nil (links_from g t (Base i) 0 (links_of c n.packet))
    ∙ ap (λ (is : List Id). links_from g t (Base i) 0 is) (sym n.names)

-- a telegram that names nothing leaves all as it was
pub kept : (held : GroupNames) (ys : Group) (t : ℕ) (y : Telegram) → AreLinks held ys → NameNothing y.packets → AreLinks held (ys ++ (t, y) ∷ [])
kept names.Nothing ys t y links nothing = λ g. added g ys t y ∙ ap (λ (ls : Noted). ls ++ links_of_last g t y) (links g) ∙ no_links g t (country_of y) y.packets nothing
kept (names.One u i ids) ys t y links nothing = λ g.
    added g ys t y ∙ ap (λ (ls : Noted). links_in_group g ys ++ ls) (no_links g t (country_of y) y.packets nothing) ∙ append-nil (links_in_group g ys) ∙ links g
kept names.Many ys t y links nothing = tt

-- the first that names something
pub first : (ys : Group) (t : ℕ) (y : Telegram) (i : ℕ) (ids : List Id) → AreLinks names.Nothing ys → NamesAlone i ids (country_of y) y.packets → AreLinks (names.One t i ids) (ys ++ (t, y) ∷ [])
first ys t y i ids links n = λ g. added g ys t y ∙ ap (λ (ls : Noted). ls ++ links_of_last g t y) (links g) ∙ of_one g t y i ids n
