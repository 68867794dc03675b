-- An accepted edit leaves a telegram's packets spelt, under distinct tags, and within its size.
-- From the packets that stay spelt and the four changes of a list: none makes the packets longer but an insertion, which has room.
-- What is put in is spelt, and its tag is new.
use Rattle.std.proofs.Common.{◌≡◌, ℕ, ◌+◌, ◌≤◌, Bool, true, false, cond, ◌&&◌, eqb, All, List, None, refl, sym, subst, arith}
use Rattle.balise_rules.specs.declared.tag.Tag.{Tag}
use Rattle.balise_rules.specs.declared.tag.Tag.TheVariants.{Fresh}
use Rattle.balise_rules.specs.declared.identity.Id.{Id}
use Rattle.balise_rules.specs.Tagged.{find, each, Distinct, changed, Each, Put, Take, Move, Change}
use Rattle.balise_rules.specs.Tags.{same_tag}
use Rattle.balise_rules.specs.Packet.{Packet, width, IsSpelt}
use Rattle.balise_rules.specs.Telegram.{used}
use Rattle.balise_rules.specs.Accepting.{Lawful}
use Rattle.balise_rules.specs.Edits.{Edit, Item, packet_after, packets_change}
use Rattle.balise_rules.specs.declared.tagged_edit.TaggedEdit.TheVariants.{InsertPacket, DeletePacket, MovePacket}
use Rattle.balise_rules.proofs.Tests.{tag_test}
use Rattle.balise_rules.proofs.Distincts.{distinct-each, distinct-without, distinct-put, distinct-move}
use Rattle.balise_rules.proofs.Each.{each-id}
use Rattle.balise_rules.proofs.AllItems.{all-each, all-put, all-without, all-move}
use Rattle.balise_rules.proofs.Used.{used-each, used-put, used-without, used-move, width_kept}
use Rattle.balise_edit_laws.proofs.FieldsKept.{packet_kept}

-- the packets of a telegram of this version, with at most `most` bits
pub record PacketsSound (version most : ℕ) (ps : List (Tag × Packet)) : Type 0 where
  pub tags : Distinct same_tag ps
  pub packets : All (λ p. IsSpelt version p.1) ps
  pub fits : used ps ≤ most

-- what is put into a telegram is new, spelt, and has room
abbrev pub Fitted : Item → Tag → ℕ → ℕ → ℕ → List (Tag × Packet) → Type 0
Fitted (s, InsertPacket g0 t0 a x) g t version most ps = (same_tag g0 g && eqb t0 t) ≡ true → (find same_tag (Fresh s) ps ≡ None) × IsSpelt version x × (used ps + width x ≤ most)
Fitted e g t version most ps = Unit {0}

after_each : (e : Edit) → Lawful e → (i : Id) → (g : Tag) → (t c version most : ℕ) → (ps : List (Tag × Packet)) → PacketsSound version most ps → PacketsSound version most (each (packet_after e i g t c) ps)
after_each e l i g t c version most ps s = record {
  tags = distinct-each tag_test (packet_after e i g t c) ps s.tags;
  packets = all-each (IsSpelt version) (IsSpelt version) (packet_after e i g t c) (λ p x w. packet_kept e l i g t c p version x w) ps s.packets;
  fits = let k = used-each (packet_after e i g t c) (λ p x. width_kept e i g t c p x) ps in let f = s.fits in omega (arith, k, f);
}

stay : (version most : ℕ) → (ps : List (Tag × Packet)) → PacketsSound version most ps → PacketsSound version most (each (λ q y. y) ps)
stay version most ps s = subst (PacketsSound version most) (sym (each-id ps)) s

-- one of two changes
pub either : {A : Type 0} → (P : Change Tag A → Type 0) → (b : Bool) → (x y : Change Tag A) → (b ≡ true → P x) → P y → P (cond b x y)
either P true x y h k = h refl
either P false x y h k = k

pub packets_kept : (e : Item) → Lawful e.1 → (i : Id) → (g : Tag) → (t c version most : ℕ) → (ps : List (Tag × Packet)) → PacketsSound version most ps → Fitted e g t version most ps → PacketsSound version most (changed same_tag (packets_change e i g t c) ps)
packets_kept (s, InsertPacket g0 t0 a x) l i g t c version most ps w n =
    either (λ z. PacketsSound version most (changed same_tag z ps)) (same_tag g0 g && eqb t0 t) (Put a (Fresh s, x)) (Each (λ q y. y))
    (λ e. let m = n e in let r = m.2 in record {
      tags = distinct-put tag_test a (Fresh s, x) ps w.tags m.0;
      packets = all-put (IsSpelt version) same_tag a (Fresh s, x) ps m.1 w.packets;
      fits = omega (arith, used-put a (Fresh s, x) ps, r);
    }) (stay version most ps w)
packets_kept (s, DeletePacket g0 t0 p) l i g t c version most ps w n =
    either (λ z. PacketsSound version most (changed same_tag z ps)) (same_tag g0 g && eqb t0 t) (Take p) (Each (λ q y. y))
    (λ e. let f = w.fits in record { tags = distinct-without same_tag p ps w.tags; packets = all-without (IsSpelt version) same_tag p ps w.packets; fits = omega (arith, used-without p ps, f) }) (stay version most ps w)
packets_kept (s, MovePacket g0 t0 p a) l i g t c version most ps w n =
    either (λ z. PacketsSound version most (changed same_tag z ps)) (same_tag g0 g && eqb t0 t) (Move p a) (Each (λ q y. y))
    (λ e. let f = w.fits in record { tags = distinct-move tag_test p a ps w.tags; packets = all-move (IsSpelt version) same_tag p a ps w.packets; fits = omega (arith, used-move p a ps, f) }) (stay version most ps w)
packets_kept e l i g t c version most ps w n = after_each e.1 l i g t c version most ps w
