use Rattle.std.proofs.Common.{◌∙◌, Some, option_map, slice_get, refl, sym, ap}
use Rattle.std.specs.Prelude.{option_and_then}
use Rattle.balise_rules.specs.Tagged.{find}
use Rattle.balise_rules.specs.Tags.{same_tag}
use Rattle.balise_index.specs.TagCode.{tag_of}
use Rattle.balise_index.specs.InOrder.{tagged}
use Rattle.balise_index.proofs.order.Entries.{all_there, at-order}
use Rattle.balise_index.proofs.order.Held.{IsCode, find-code}
use Rattle.balise_index.proofs.ordered_map.OrderedMap.at.Goals as goal

pub returns-in_default : goal.returns-in_default
returns-in_default g c =
    let held = tagged c.self.inside.order.rare c.self.inside.held.entries in
    ap (option_and_then (λ g. option_map (λ x. (g, x)) (find same_tag g held))) c.in_default.ensures.tag
    ∙ sym (at-order held c.self.inside.order.items c.args.i (all_there c.self.invariant.0)) ∙ ap (λ v. slice_get v.entries c.args.i) c.self.view_is

pub returns-in-Some-found : goal.returns-in-Some-found
returns-in-Some-found g c =
    let rare = c.self.inside.order.rare in
    let held = tagged rare c.self.inside.held.entries in
    let code = c.in-Some.code in
    let tag = tag_of rare code in
    let is : IsCode rare code tag = record { known = c.in-Some.ensures.known; tag = refl } in
    ap (λ t. Some (t, c.in-Some-found.value.now)) c.tag.ensures
    ∙ ap (option_map (λ x. (tag, x))) (c.in-Some-found.ensures ∙ sym (find-code rare c.in-Some.ensures.one code tag is c.self.inside.held.entries c.self.invariant.1))
    ∙ ap (option_and_then (λ g. option_map (λ x. (g, x)) (find same_tag g held))) c.in-Some.ensures.tag
    ∙ sym (at-order held c.self.inside.order.items c.args.i (all_there c.self.invariant.0)) ∙ ap (λ v. slice_get v.entries c.args.i) c.self.view_is

pub returns-in-None : goal.returns-in-None
returns-in-None g c =
    let rare = c.self.inside.order.rare in
    let held = tagged rare c.self.inside.held.entries in
    let code = c.in-Some.code in
    let tag = tag_of rare code in
    let is : IsCode rare code tag = record { known = c.in-Some.ensures.known; tag = refl } in
    ap (option_map (λ x. (tag, x))) (c.in-None.ensures ∙ sym (find-code rare c.in-Some.ensures.one code tag is c.self.inside.held.entries c.self.invariant.1))
    ∙ ap (option_and_then (λ g. option_map (λ x. (g, x)) (find same_tag g held))) c.in-Some.ensures.tag
    ∙ sym (at-order held c.self.inside.order.items c.args.i (all_there c.self.invariant.0)) ∙ ap (λ v. slice_get v.entries c.args.i) c.self.view_is
