-- Q_DIR stands after 8 bits of every packet.
use Rattle.std.proofs.Common.{◌≡◌, ◌∙◌, ◌-◌, ◌+◌, ℕ, Bool, List, Some, ap, sym, arith}
use Rattle.balise_rules.specs.declared.tag.Tag.{Tag}
use Rattle.balise_rules.specs.declared.variable.Var.TheVariants.{QDir}
use Rattle.balise_rules.specs.Bits.{num, part}
use Rattle.balise_rules.specs.Edits.{exchanged}
use Rattle.balise_rules.specs.Variables.{width_of}
use Rattle.balise_rules.specs.Packet.{bits_of, value}
use Rattle.balise_rules.specs.Telegram.{Telegram, version_of}
use Rattle.balise_layout.specs.Held.{with_field}
use Rattle.balise_layout.specs.Setting.{turned}
use Rattle.balise_layout.proofs.First.{spells_holds}
use Rattle.balise_layout.proofs.Values.{exchanged_low, exchanged_high, with_field-same, dir_found}
use Rattle.balise_telegram.specs.Packed.{packet_place}
use Rattle.balise_telegram.specs.Shown.{IsShown}
use Rattle.balise_telegram.proofs.PackedFields.{FieldThere, its_value}
use Rattle.balise_telegram.proofs.FieldPlaces.{dir_place, field_there, packet_within}
use Rattle.balise_telegram.proofs.PackedChanges.{changed_alike, kept_as_is}
use Rattle.balise_telegram.proofs.Walking.{shown_size}
use Rattle.balise_telegram.proofs.telegram.Telegram.flip_dir_there.Goals as goal

pub overflow_add-packet : goal.overflow_add-packet
overflow_add-packet c = omega (arith, packet_within c.packed-bits.result.now c.args.self.now c.requires.0 c.args.packet c.packed-bits.ensures c.requires.1, (shown_size c.packed-bits.result.now c.args.self.now c.packed-bits.ensures).1)

pub number-dir-requires-clause-within : goal.number-dir-requires-clause-within
number-dir-requires-clause-within c = omega (arith, packet_within c.packed-bits.result.now c.args.self.now c.requires.0 c.args.packet c.packed-bits.ensures c.requires.1)

pub overflow_add-packet-then-dir-lt2 : goal.overflow_add-packet-then-dir-lt2
overflow_add-packet-then-dir-lt2 c = omega (arith, packet_within c.packed-bits.result.now c.args.self.now c.requires.0 c.args.packet c.packed-bits.ensures c.requires.1, (shown_size c.packed-bits.result.now c.args.self.now c.packed-bits.ensures).1)

pub put_field-requires-clause-stands : goal.put_field-requires-clause-stands
put_field-requires-clause-stands c =
    (c.requires.0, 0, dir_place c.packed-bits.result.now c.args.self.now c.requires.0 c.args.packet c.packed-bits.ensures c.requires.1)

-- the direction of the packet, as it is read
direction : (b : List Bool) (y : Telegram) (tag : Tag) (place n : ℕ) → IsShown b y → packet_place 50 tag y.packets ≡ Some place → n ≡ num (part (place + 8) 2 b) → (f : FieldThere b y tag QDir 0 (place + 8)) × (n ≡ value QDir 0 f.packet.fields)
unfolding width_of
direction b y tag place n r e is =
    let f = field_there b y tag QDir 0 place (place + 8) r e (dir_place b y tag place r e) in
    (f, is ∙ sym (its_value b y tag QDir 0 (place + 8) f))

pub returns-then-dir-lt2 : goal.returns-then-dir-lt2
returns-then-dir-lt2 c = λ tag e.
    let y = c.args.self.now in
    let r = c.packed-bits.ensures in
    let d = direction c.packed-bits.result.now y tag c.args.packet c.number-dir.result r e c.number-dir.ensures in
    let p = d.0.packet in
    let new : 1 - c.number-dir.result ≡ exchanged 0 1 (value QDir 0 p.fields) = sym (exchanged_low c.number-dir.result c.if-dir-lt2.true) ∙ ap (exchanged 0 1) d.1 in
    c.put_field.ensures tag 0 (dir_place c.packed-bits.result.now y tag c.args.packet r e)
    ∙ changed_alike tag (with_field QDir 0 (1 - c.number-dir.result)) turned y p r.tags d.0.is (ap (λ (n : ℕ). with_field QDir 0 n p) new)

pub returns-else-dir-lt2 : goal.returns-else-dir-lt2
returns-else-dir-lt2 c = λ tag e.
    let y = c.args.self.now in
    let d = direction c.packed-bits.result.now y tag c.args.packet c.number-dir.result c.packed-bits.ensures e c.number-dir.ensures in
    let p = d.0.packet in
    let holds = spells_holds (version_of y) (bits_of p) p d.0.spelt in
    let same : exchanged 0 1 (value QDir 0 p.fields) ≡ value QDir 0 p.fields = ap (exchanged 0 1) (sym d.1) ∙ exchanged_high c.number-dir.result c.if-dir-lt2.false ∙ d.1 in
    let stays : turned p ≡ p = ap (λ (n : ℕ). with_field QDir 0 n p) same ∙ with_field-same _ (bits_of p) p QDir 0 (value QDir 0 p.fields) holds (dir_found _ (bits_of p) p holds) in
    kept_as_is tag turned y p c.packed-bits.ensures.tags d.0.is stays
