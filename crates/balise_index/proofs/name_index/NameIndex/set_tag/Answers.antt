use Rattle.std.proofs.Common.{refl}
use Rattle.balise_index.specs.declared.name_index.Named.{Named}
use Rattle.balise_index.specs.NameIndex.{names_in}
use Rattle.balise_index.proofs.names.Slots.{lent, stays}
use Rattle.balise_index.proofs.name_index.NameIndex.set_tag.Goals as goal

pub returns-in-Some-get_mut-clause-names : goal.returns-in-Some-get_mut-clause-names
returns-in-Some-get_mut-clause-names c =
    let b : Named = record { owner = c.in-Some.code; links = c.in-Some-get_mut.named.now.links } in
    stays (lent c.self.view_is c.in-Some-get_mut.ensures.value b (c.get_mut.follows.holds b)) names_in refl
