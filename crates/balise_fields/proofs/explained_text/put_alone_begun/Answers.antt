use Rattle.std.proofs.Common.{◌++◌, refl, sym, ap}
use Rattle.balise_lines.specs.Writing.{LastFailed}
use Rattle.balise_fields.specs.ExplainedTexts.{alone_line, fault_text, fields_text}
use Rattle.balise_fields.proofs.Sequences.{behind, some_behind, some_front_of}
use Rattle.balise_fields.proofs.explained_text.put_alone_begun.Goals as goal

pub returns-in-Err : goal.returns-in-Err
returns-in-Err g c = some_front_of LastFailed _ _ (alone_line c.from.result) (fields_text c.args.fields.now ++ fault_text c.args.fault.now) _ _ (ap (λ n. alone_line n ++ (fields_text c.args.fields.now ++ fault_text c.args.fault.now)) (sym c.from.ensures)) c.in-Err.ensures

pub returns-in-Err-put_fields : goal.returns-in-Err-put_fields
returns-in-Err-put_fields g c =
    some_behind LastFailed _ _ (alone_line c.from.result) (fields_text c.args.fields.now ++ fault_text c.args.fault.now) _ _ _ (ap (λ n. alone_line n ++ (fields_text c.args.fields.now ++ fault_text c.args.fault.now)) (sym c.from.ensures)) c.in_default.ensures
    (some_front_of LastFailed _ _ (fields_text c.args.fields.now) (fault_text c.args.fault.now) _ _ refl c.in-Err-put_fields.ensures)

pub returns : goal.returns
returns g c =
    behind (λ _. LastFailed) _ c.put_fault.result _ (alone_line c.from.result) (fields_text c.args.fields.now ++ fault_text c.args.fault.now) _ _ _ (ap (λ n. alone_line n ++ (fields_text c.args.fields.now ++ fault_text c.args.fault.now)) (sym c.from.ensures)) c.in_default.ensures
    (behind (λ _. LastFailed) _ c.put_fault.result _ (fields_text c.args.fields.now) (fault_text c.args.fault.now) _ _ _ refl c.in_default-put_fields.ensures c.put_fault.ensures)
