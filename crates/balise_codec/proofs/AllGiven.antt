-- A packet's values with L_PACKET are given by it: L_PACKET is the third.
use Rattle.std.proofs.Common.{◌≡◌, ◌∙◌, map, refl, sym, ap, subst}
use Rattle.balise_rules.specs.declared.variable.Var.TheVariants.{LPacket}
use Rattle.balise_rules.specs.Forms.{Fields}
use Rattle.balise_rules.specs.Packet.{value, width}
use Rattle.balise_rules.proofs.PacketRead.{begins}
use Rattle.balise_codec.specs.Given.{but_length, length_given, AllGiven, LengthIs}
use Rattle.balise_codec.specs.Spelling.{given, said}

pub all_given : AllGiven
all_given version p s =
    let b = begins version p.fields p.rest s.form s.numbered in
    let values : given p.fields ≡ but_length (map said p.fields) = subst (λ (x : Fields). given x ≡ but_length (map said x)) (sym b.is) refl in
    let size : b.said ≡ width p = sym (ap (value LPacket 0) b.is) ∙ s.said in
    (record { spelt = s; values = values; rest = refl }, subst (λ (x : Fields). LengthIs (length_given (map said x)) p) (sym b.is) size)
