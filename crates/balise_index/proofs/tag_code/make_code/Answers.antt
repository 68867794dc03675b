use Rattle.std.proofs.Common.{◌≡◌, ◌++◌, [], ◌∷◌, sym, subst, arith}
use Rattle.std.proofs.lemmas.Grind.{common_steps}
use Rattle.balise_index.specs.TagCode.{OneCode}
use Rattle.balise_index.proofs.tags.Codes.{one-push}
use Rattle.balise_index.proofs.tag_code.make_code.Goals as goal

pub returns-clause-one : goal.returns-clause-one
returns-clause-one c =
    let items : c.push.new.self.items ≡ c.args.rare.now.items ++ c.args.tag ∷ [] = grind (arith, common_steps) in
    subst OneCode (sym items) (one-push c.args.rare.now.items c.args.tag c.requires.one c.in_default.ensures.none)
