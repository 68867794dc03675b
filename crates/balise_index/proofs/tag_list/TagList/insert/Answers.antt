use Rattle.std.proofs.Common.{◌∙◌, sym, ap, subst, insert}
use Rattle.indexmap.proofs.SetLemmas.{map-insert}
use Rattle.balise_index.specs.TagCode.{tag_of, tags_of, AreKnown}
use Rattle.balise_index.proofs.tags.Known.{known-insert, known-more, tags-kept}
use Rattle.balise_index.proofs.tag_list.TagList.insert.Goals as goal

pub invariant_of-self : goal.invariant_of-self
invariant_of-self c =
    let codes = c.self.inside.codes.items in
    let new = c.make_code-code.new.rare.items in
    let known = known-more c.self.inside.rare.items new codes c.make_code-code.ensures.more c.self.invariant.0 in
    (subst (AreKnown new) (sym c.insert.ensures) (known-insert new codes c.args.i c.make_code-code.result c.make_code-code.ensures.known known), c.make_code-code.ensures.few, c.make_code-code.ensures.one)

pub returns-clause-items : goal.returns-clause-items
returns-clause-items c =
    let codes = c.self.inside.codes.items in
    let old = c.self.inside.rare.items in
    let new = c.make_code-code.new.rare.items in
    ap (tags_of new) c.insert.ensures
    ∙ map-insert (tag_of new) codes c.args.i c.make_code-code.result
    ∙ ap (λ l. insert l c.args.i (tag_of new c.make_code-code.result)) (tags-kept old new codes c.make_code-code.ensures.kept c.self.invariant.0)
    ∙ ap (insert (tags_of old codes) c.args.i) c.make_code-code.ensures.tag
    ∙ ap (λ v. insert v.items c.args.i c.args.tag) c.self.view_is
