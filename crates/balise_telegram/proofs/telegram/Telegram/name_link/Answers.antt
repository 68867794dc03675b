-- The number is put where the element has its own.
use Rattle.std.proofs.Common.{sym}
use Rattle.balise_rules.specs.declared.variable.Var.TheVariants.{NidBg}
use Rattle.balise_layout.specs.Setting.{renamed}
use Rattle.balise_layout.proofs.Values.{with_field-missing}
use Rattle.balise_telegram.proofs.PackedPlaces.{not_located}
use Rattle.balise_telegram.proofs.PackedFields.{absent, field_missing}
use Rattle.balise_telegram.proofs.PackedChanges.{kept_as_is}
use Rattle.balise_telegram.proofs.telegram.Telegram.name_link.Goals as goal

pub returns-in_default : goal.returns-in_default
returns-in_default c = absent c.args.tag (renamed c.args.k c.args.number) c.args.self.now (not_located c.args.tag 50 c.args.self.now.packets (sym c.in_default.ensures.place))

pub put_field-requires-clause-stands : goal.put_field-requires-clause-stands
put_field-requires-clause-stands c = (c.args.tag, c.args.k, sym (c.in-Some-place_in.ensures c.args.tag (sym c.in-Some.ensures.place)))

pub returns-in-Some-place_in : goal.returns-in-Some-place_in
returns-in-Some-place_in c = c.put_field.ensures c.args.tag c.args.k (sym (c.in-Some-place_in.ensures c.args.tag (sym c.in-Some.ensures.place)))

pub returns-in_default-place_in : goal.returns-in_default-place_in
returns-in_default-place_in c =
    let p = field_missing c.args.tag NidBg c.args.k c.in-Some.packet c.args.self.now.packets c.in-Some.ensures.place c.in_default-place_in.ensures in
    kept_as_is c.args.tag (renamed c.args.k c.args.number) c.args.self.now p.0 c.in-Some.ensures.tags p.1 (with_field-missing p.0 NidBg c.args.k c.args.number p.2)
