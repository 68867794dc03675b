use Rattle.std.proofs.Common.{◌≡◌, ◌∙◌, ◌≤◌, ◌-◌, ◌+◌, ◌++◌, length, refl, sym, ap, subst, arith}
use Rattle.balise_rules.specs.Forms.{spelling}
use Rattle.balise_rules.specs.Packet.{bits_of}
use Rattle.balise_layout.specs.Collected.{all_keyed}
use Rattle.balise_codec.specs.Places.{placed}
use Rattle.balise_fields.proofs.FieldsFound.{fields_fit, rest_part}
use Rattle.balise_fields.proofs.packet.explain_whole.Goals as goal

pub place_all-requires : goal.place_all-requires
place_all-requires c =
    let p = c.args.packet.now in
    let e : c.write.new.out ≡ bits_of p = c.in_ok-write.ensures.ok ∙ ap (λ x. x ++ bits_of p) c.new-all.ensures in
    let fs : all_keyed c.deref.result.now ≡ p.fields = ap all_keyed c.deref.ensures.value ∙ c.in_ok-fields.ensures.ok in
    let f : length (spelling (all_keyed c.deref.result.now)) ≤ length c.write.new.out = subst (λ x. length (spelling x) ≤ length c.write.new.out) (sym fs) (fields_fit p c.write.new.out e) in
    omega (arith, f, c.len-len.ensures, c.len-len.type_inv)

pub returns : goal.returns
returns c =
    let p = c.args.packet.now in
    let out = c.write.new.out in
    let e : out ≡ bits_of p = c.in_ok-write.ensures.ok ∙ ap (λ x. x ++ bits_of p) c.new-all.ensures in
    let fs : all_keyed c.deref.result.now ≡ p.fields = ap all_keyed c.deref.ensures.value ∙ c.in_ok-fields.ensures.ok in
    let l : length (spelling (all_keyed c.deref.result.now)) ≡ length (spelling p.fields) = ap (λ x. length (spelling x)) fs in
    let n : c.in_ok-fields-2.next ≡ length (spelling p.fields) = omega (arith, c.in_ok-fields-2.ensures.ok.1, l) in
    let g : c.in_ok-fields-2.next + (c.len-len.result - c.in_ok-fields-2.next) ≡ length out = omega (arith, n, fields_fit p out e, c.len-len.ensures) in
    (refl, (p, c.requires, (refl, c.in_ok-fields-2.ensures.ok.0 ∙ ap (placed 0) fs, c.in_ok-rest.ensures.ok ∙ rest_part p out c.in_ok-fields-2.next (c.len-len.result - c.in_ok-fields-2.next) e n g)))
