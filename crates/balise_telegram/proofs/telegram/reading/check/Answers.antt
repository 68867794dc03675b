use Rattle.std.proofs.Common.{◌≡◌, ◌∙◌, ◌++◌, ℕ, Result, Ok, Err, IfErr, refl, sym, subst}
use Rattle.balise_rules.specs.Bits.{ones}
use Rattle.balise_rules.specs.Plan.{country_of}
use Rattle.balise_rules.specs.Telegram.{read_header, read_telegram, used, Telegram}
use Rattle.balise_rules.proofs.Cases.{unok}
use Rattle.balise_telegram.specs.declared.fault.TelegramFault.{TelegramFault}
use Rattle.balise_telegram.specs.declared.telegram.names.TelegramNames.{TelegramNames}
use Rattle.balise_telegram.specs.Faults.{refusal_of}
use Rattle.balise_telegram.specs.Linking.{AreNamed}
use Rattle.balise_telegram.proofs.Passing.{error_is}
use Rattle.balise_telegram.proofs.TelegramsRead.{bad_length, is_telegram, no_balise, packets_fail, packets_read}
use Rattle.balise_telegram.proofs.telegram.reading.check.Goals as goal
use Rattle.balise_telegram.proofs.telegram.reading.check.Goals.{In_ok-names}

pub returns-then-len-clause-fault : goal.returns-then-len-clause-fault
returns-then-len-clause-fault c = bad_length c.args.bits.now c.len.result c.len-2.result c.len.ensures c.len-2.ensures c.if-len.true

pub returns-then-not-is_balise_in-clause-fault : goal.returns-then-not-is_balise_in-clause-fault
returns-then-not-is_balise_in-clause-fault c = no_balise c.args.bits.now c.len.result c.len-2.result c.len.ensures c.len-2.ensures c.if-len.false (sym c.is_balise_in.ensures ∙ c.if-not-is_balise_in.true)

pub returns-in_err-names-clause-fault : goal.returns-in_err-names-clause-fault
returns-in_err-names-clause-fault c =
    let b = c.args.bits.now in
    let fault = c.in_err-names.field-0.0 in
    subst (λ (r : Result TelegramNames TelegramFault). IfErr r (λ e. read_telegram b ≡ Err (refusal_of e))) (sym (error_is c.from_residual.result fault c.from_residual.ensures))
    (packets_fail b c.len.result c.len-2.result (read_header b) c.version_in.result (refusal_of fault) c.len.ensures c.len-2.ensures c.if-len.false refl c.version_in.ensures (sym c.is_balise_in.ensures ∙ c.if-not-is_balise_in.false) c.in_err-names.ensures.fault)

-- the telegram that the bits are
read_whole : (c : In_ok-names) → read_telegram c.args.bits.now ≡ Ok (record { head = read_header c.args.bits.now; packets = c.in_ok-names.ensures.ok.0.0; padding = ones (used c.in_ok-names.ensures.ok.0.0) ++ c.in_ok-names.ensures.ok.0.1 })
read_whole c = let r = c.in_ok-names.ensures.ok in packets_read c.args.bits.now c.len.result c.len-2.result (read_header c.args.bits.now) c.version_in.result r.0 c.len.ensures c.len-2.ensures c.if-len.false refl c.version_in.ensures (sym c.is_balise_in.ensures ∙ c.if-not-is_balise_in.false) r.1

pub returns-clause-ok : goal.returns-clause-ok
returns-clause-ok c = is_telegram c.args.bits.now _ (read_whole (goal.at.returns-clause-ok c).In_ok-names)

pub returns-clause-names : goal.returns-clause-names
returns-clause-names c = λ y e.
    let r = c.in_ok-names.ensures.ok in
    let same = unok (sym (read_whole (goal.at.returns-clause-names c).In_ok-names) ∙ e) in
    let here = subst (λ (k : ℕ). AreNamed c.in_ok-names.names k r.0.0) c.identity_in-country.ensures.country r.2 in
    subst (λ (x : Telegram). AreNamed c.in_ok-names.names (country_of x) x.packets) same here
