-- A telegram up to its fault is written part by part.
use Rattle.std.proofs.Common.{◌≡◌, ◌++◌, List, sym, ap}
use Rattle.balise_lines.specs.Writing.{LastFailed}
use Rattle.balise_codec.specs.declared.placed.Placed.{Placed}
use Rattle.balise_codec.specs.declared.explain.PacketFields.{PacketFields}
use Rattle.balise_fields.specs.declared.explained.Begun.{Begun}
use Rattle.balise_fields.specs.ExplainedTexts.{begun_text, fault_text, front_text, last_text}
use Rattle.balise_fields.proofs.Sequences.{behind, front_parts, some_behind, some_front_of}
use Rattle.balise_fields.proofs.explained_text.put_begun.Goals as goal

parts : (x : Begun) (h : List Placed) (p : List PacketFields) → h ≡ x.header.items → p ≡ x.packets.items → begun_text x ≡ front_text x.len h p ++ (last_text x.last.items ++ fault_text x.fault)
parts x h p e f = front_parts x.len x.header.items h x.packets.items p (last_text x.last.items ++ fault_text x.fault) e f

pub returns-in-Err : goal.returns-in-Err
returns-in-Err g c = some_front_of LastFailed _ _ _ _ _ _ (parts c.args.begun.now _ _ c.as_slice-header.ensures.value c.as_slice-packets.ensures.value) c.in-Err.ensures

pub returns-in-Err-put_last : goal.returns-in-Err-put_last
returns-in-Err-put_last g c =
    some_behind LastFailed _ _ _ _ _ _ _ (parts c.args.begun.now _ _ c.as_slice-header.ensures.value c.as_slice-packets.ensures.value) c.in_default.ensures
    (some_front_of LastFailed _ _ (last_text c.as_slice-last.result.now) (fault_text c.args.begun.now.fault) _ _ (ap (λ l. last_text l ++ fault_text c.args.begun.now.fault) (sym c.as_slice-last.ensures.value)) c.in-Err-put_last.ensures)

pub returns : goal.returns
returns g c =
    behind (λ _. LastFailed) _ c.put_fault.result _ _ _ _ _ _ (parts c.args.begun.now _ _ c.as_slice-header.ensures.value c.as_slice-packets.ensures.value) c.in_default.ensures
    (behind (λ _. LastFailed) _ c.put_fault.result _ (last_text c.as_slice-last.result.now) (fault_text c.args.begun.now.fault) _ _ _ (ap (λ l. last_text l ++ fault_text c.args.begun.now.fault) (sym c.as_slice-last.ensures.value)) c.in_default-put_last.ensures c.put_fault.ensures)
