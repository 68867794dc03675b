-- One field of one packet set, as the code does it through the levels, is the rules' setting.
use Rattle.std.proofs.Common.{◌≡◌, ℕ, Bool, true, false, cond, eqb, ◌&&◌, List, Some, refl, sym, ap, ◌∙◌}
use Rattle.std.proofs.lemmas.Map.Steps.{set_value_same}
use Rattle.balise_plan.proofs.items.Places.{value-each}
use Rattle.balise_rules.specs.declared.tag.Tag.{Tag}
use Rattle.balise_rules.specs.declared.identity.Id.{Id}
use Rattle.balise_rules.specs.declared.variable.Var.{Var}
use Rattle.balise_rules.specs.Tagged.{find, each, Distinct}
use Rattle.balise_rules.specs.Tags.{Key, same_tag, same_key}
use Rattle.balise_rules.specs.Forms.{Fields}
use Rattle.balise_rules.specs.Packet.{Packet}
use Rattle.balise_rules.specs.Telegram.{Telegram}
use Rattle.balise_rules.specs.Plan.{Plan, country_of}
use Rattle.balise_rules.specs.Edits.{effect, field_after}
use Rattle.balise_rules.specs.declared.tagged_edit.TaggedEdit.TheVariants.{SetVar}
use Rattle.balise_rules.proofs.Tests.{IsTest}
use Rattle.balise_rules.proofs.Each.{each-id}
use Rattle.balise_layout.specs.Held.{with_field as with_packet_field}
use Rattle.balise_telegram.specs.Setting.{with_changed}
use Rattle.balise_plan.specs.Within.{with_item}
use Rattle.balise_plan.proofs.naming.Walking.{each-same, parts, cond-each, cond-telegram}

-- an item that stands, put in its own place
pub same-item : {K X : Type 0} {same : K → K → Bool} → IsTest same → (k : K) (x : X) (xs : List (K × X)) → Distinct same xs → find same k xs ≡ Some x → with_item same k x xs ≡ xs
same-item {same = same} t k x xs u e = sym (value-each t k (λ _. x) xs x x u e refl) ∙ set_value_same (same k) xs x e

-- the plan with one packet changed
abbrev pub at_packet : Tag → ℕ → Tag → (Packet → Packet) → Plan → Plan
at_packet g t p f plan = each (λ h ys. cond (same_tag g h) (each (λ u y. cond (eqb t u) (with_changed p f y) y) ys) ys) plan

module _ (s : ℕ) (own : Id) (g : Tag) (t : ℕ) (p : Tag) (v : Var) (k n : ℕ) where
  pub set-packet : (h : Tag) (u : ℕ) (c : ℕ) (q : Tag) (x : Packet) → cond (same_tag g h) (cond (eqb t u) (cond (same_tag p q) (with_packet_field v k n x) x) x) x ≡ record { fields = each (field_after (SetVar g t p v k n) own h u c q x.fields) x.fields; rest = x.rest }
  set-packet h u c q x = by (same_tag g h) (eqb t u) (same_tag p q)
    where
      keep : x ≡ record { fields = each (λ (key : Key) (old : ℕ). old) x.fields; rest = x.rest }
      keep = ap (λ (fs : Fields). record { fields = fs; rest = x.rest }) (sym (each-id x.fields))

      by : (a b d : Bool) → cond a (cond b (cond d (with_packet_field v k n x) x) x) x ≡ record { fields = each (λ key old. cond (a && (b && (d && same_key (v, k) key))) n old) x.fields; rest = x.rest }
      by true true true = refl
      by true true false = keep
      by true false d = keep
      by false b d = keep

  pub set-is : (plan : Plan) → at_packet g t p (with_packet_field v k n) plan ≡ effect (s, SetVar g t p v k n) own plan
  set-is plan = each-same _ _ plan (λ h ys. cond-each (same_tag g h) _ ys ∙ each-same _ _ ys (λ u y.
      ap (λ (z : Telegram). cond (same_tag g h) z y) (cond-telegram (eqb t u) _ y) ∙ cond-telegram (same_tag g h) _ y ∙ ap (parts y.head y.padding) (each-same _ _ y.packets (λ q x. set-packet h u (country_of y) q x))
      ∙ ap (λ hs. parts hs y.padding (each (λ q x. record { fields = each (field_after (SetVar g t p v k n) own h u (country_of y) q x.fields) x.fields; rest = x.rest }) y.packets)) (sym (each-id y.head))))
