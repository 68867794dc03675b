-- Names: the country in force at an element after a change of each field, an identity that isn't 16383, and one that nothing names.
-- From the definition of what an element calls.
use Rattle.std.proofs.Common.{◌≡◌, ◌≢◌, ℕ, true, false, eqb, [], ◌∷◌, Some, refl, ap, ◌∙◌}
use Rattle.std.proofs.lemmas.Bool.{eqb-true}
use Rattle.balise_rules.specs.declared.tag.Tag.{Tag}
use Rattle.balise_rules.specs.declared.identity.Id.{Id}
use Rattle.balise_rules.specs.declared.variable.Var.TheVariants.{NidC, NidBg}
use Rattle.balise_rules.specs.Tagged.{find, each}
use Rattle.balise_rules.specs.Tags.{Key, same_tag, same_id, same_key, is_of}
use Rattle.balise_rules.specs.Forms.{Fields}
use Rattle.balise_rules.specs.Packet.{Packet}
use Rattle.balise_rules.specs.Telegram.{Telegram}
use Rattle.balise_rules.specs.Plan.{Plan, reserved, country_of, telegram_at}
use Rattle.balise_rules.specs.Names.{country_at, is_real}
use Rattle.balise_rules.specs.Accepting.{NoName}
use Rattle.balise_rules.proofs.Tests.{split_on, id_test}

-- a change that leaves each NID_C leaves the country
pub country-each : (h : Key → ℕ → ℕ) → ((key : Key) → (v : ℕ) → is_of NidC key ≡ true → h key v ≡ v) → (c k : ℕ) → (fs : Fields) →
    country_at c k (each h fs) ≡ country_at c k fs
country-each h s c k [] = refl
country-each h s c k (y ∷ ys) =
    split_on (is_of NidC y.0)
    (λ e. simp (e, s y.0 y.1 e) (country-each h s y.1 k ys))
    (λ e. split_on (same_key (NidBg, k) y.0) (λ d. simp (e, d)) (λ d. simp (e, d) (country-each h s c k ys)))

-- a number that isn't 16383
pub real_number : (i : Id) → i.number ≢ reserved → is_real i ≡ true
real_number i h = split_on (eqb i.number reserved) (λ e. absurd (h (eqb-true i.number reserved e))) (λ e. simp e)

-- an element that is found has another identity than one that nothing names
pub unnamed : (i : Id) → (plan : Plan) → NoName i plan → is_real i ≡ true → (g : Tag) → (t : ℕ) → (y : Telegram) → telegram_at g t plan ≡ Some y → (p : Tag) → (x : Packet) → find same_tag p y.packets ≡ Some x →
    (k n : ℕ) → find same_key (NidBg, k) x.fields ≡ Some n → same_id (record { country = country_at (country_of y) k x.fields; number = n }) i ≡ false
unnamed i plan none real g t y q p x h k n f =
    split_on (same_id (record { country = country_at (country_of y) k x.fields; number = n }) i)
    (λ e. let w = id_test.one (record { country = country_at (country_of y) k x.fields; number = n }) i e in
    absurd (none g t p k (record { telegram = y; stands = q; packet = x; has_packet = h; number = f ∙ ap (λ (j : Id). Some j.number) w; country = ap (λ (j : Id). j.country) w; real = real })))
    (λ e. e)
