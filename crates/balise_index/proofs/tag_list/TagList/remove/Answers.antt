use Rattle.std.proofs.Common.{◌∙◌, ap, remove}
use Rattle.indexmap.proofs.SetLemmas.{map-remove}
use Rattle.balise_index.specs.TagCode.{tag_of, tags_of}
use Rattle.balise_index.proofs.tag_list.TagList.remove.Goals as goal

pub returns-clause-items : goal.returns-clause-items
returns-clause-items c =
    let rare = c.self.inside.rare.items in
    ap (tags_of rare) c.remove.ensures
    ∙ map-remove (tag_of rare) c.self.inside.codes.items c.args.i
    ∙ ap (λ v. remove v.items c.args.i) c.self.view_is
