-- The number is put where the element has its own.
use Rattle.std.proofs.Common.{◌≡◌, Some, refl, sym}
use Rattle.balise_rules.specs.declared.variable.Var.TheVariants.{NidBg}
use Rattle.balise_rules.specs.Variables.{width_of, steers}
use Rattle.balise_layout.specs.Held.{before}
use Rattle.balise_layout.proofs.Values.{with_field-missing, spelt_still}
use Rattle.balise_layout.proofs.packet.Packet.name_link.Goals as goal

pub returns-in-Some-clause-spelt : goal.returns-in-Some-clause-spelt
unfolding width_of steers
returns-in-Some-clause-spelt c = λ version s.
    let place : before (NidBg, c.args.k) c.args.self.now.fields ≡ Some c.in-Some.at = sym c.in-Some.ensures in
    spelt_still version c.args.self.now _ NidBg c.args.k c.args.number refl c.requires (c.put_field.ensures c.args.k place) s

pub returns-in_default-clause-renamed : goal.returns-in_default-clause-renamed
returns-in_default-clause-renamed c = sym (with_field-missing c.args.self.now NidBg c.args.k c.args.number (sym c.in_default.ensures))
