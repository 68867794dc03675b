-- A telegram is written part by part.
use Rattle.std.proofs.Common.{◌≡◌, ◌++◌, ℕ, List, codes, refl}
use Rattle.balise_lines.specs.Writing.{LastFailed}
use Rattle.balise_codec.specs.declared.placed.Placed.{Placed}
use Rattle.balise_codec.specs.declared.explain.PacketFields.{PacketFields}
use Rattle.balise_codec.specs.declared.explain.TelegramFields.{TelegramFields}
use Rattle.balise_fields.specs.ExplainedTexts.{bits_text, front_text, telegram_text}
use Rattle.balise_fields.proofs.Sequences.{behind, front_parts, some_behind, some_front_of}
use Rattle.balise_fields.proofs.explained_text.put_telegram.Goals as goal

parts : (len : ℕ) (t : TelegramFields) (h : List Placed) (p : List PacketFields) → h ≡ t.header.items → p ≡ t.packets.items → telegram_text len t ≡ front_text len h p ++ (codes "end\n" ++ bits_text (codes "padding") t.padding)
parts len t h p e f = front_parts len t.header.items h t.packets.items p (codes "end\n" ++ bits_text (codes "padding") t.padding) e f

pub returns-in-Err : goal.returns-in-Err
returns-in-Err g c = some_front_of LastFailed _ _ _ _ _ _ (parts c.args.len c.args.telegram.now _ _ c.as_slice-header.ensures.value c.as_slice-packets.ensures.value) c.in-Err.ensures

pub returns-in-Err-put : goal.returns-in-Err-put
returns-in-Err-put g c =
    some_behind LastFailed _ _ _ _ _ _ _ (parts c.args.len c.args.telegram.now _ _ c.as_slice-header.ensures.value c.as_slice-packets.ensures.value) c.in_default.ensures
    (some_front_of LastFailed _ _ (codes "end\n") (bits_text (codes "padding") c.args.telegram.now.padding) _ _ refl c.in-Err-put.ensures)

pub returns : goal.returns
returns g c =
    behind (λ _. LastFailed) _ c.put_bits.result _ _ _ _ _ _ (parts c.args.len c.args.telegram.now _ _ c.as_slice-header.ensures.value c.as_slice-packets.ensures.value) c.in_default.ensures
    (behind (λ _. LastFailed) _ c.put_bits.result _ (codes "end\n") (bits_text (codes "padding") c.args.telegram.now.padding) _ _ _ refl c.in_default-put.ensures c.put_bits.ensures)
