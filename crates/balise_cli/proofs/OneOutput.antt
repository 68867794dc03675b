-- Where memory runs out at no command there is one output.
use Rattle.std.proofs.Common.{◌≡◌, ◌∙◌, inl, inr, ℕ, ◌+◌, true, false, List, [], ◌∷◌, ◌++◌, length, sym, ap, subst}
use Rattle.balise_rules.specs.Session.{Reply, State}
use Rattle.balise_lines.specs.Lines.{Line, lines_of, whole}
use Rattle.balise_cli.specs.declared.asked.Asked.{Asked}
use Rattle.balise_text.specs.Commands.{call_of}
use Rattle.balise_text.specs.Texts.{Text}
use Rattle.balise_cli.specs.Output.{Between, Commands, Ending, Follows, Header, InGroup, InJournal, IsOutput, IsStep, MayAnswer, Next, On, Over, Phase, after_command, at_end, reply_text, reviewed}
use Rattle.balise_cli.specs.Laws.{OneOutput}
use Rattle.balise_cli.proofs.Outputs.{some_output}

pub one_answer : (line : Text) (s t t' : State) (r r' : Reply) → MayAnswer false line s r t → MayAnswer false line s r' t' → (r ≡ r') × (t ≡ t')
one_answer line s t t' r r' (inl p) (inl q) = let e : ◌≡◌ {A = Reply × State} (r, t) (r', t') = p ∙ sym q in (ap (λ (a : Reply × State). a.0) e, ap (λ (a : Reply × State). a.1) e)
one_answer line s t t' r r' (inr p) q = let z : false ≡ true = p.0 in absurd cc
one_answer line s t t' r r' (inl p) (inr q) = let z : false ≡ true = q.0 in absurd cc

one_step : (asked : Asked) (p : Phase) (n : ℕ) (line now now' : Text) (next next' : Next) → IsStep asked false p n line now next → IsStep asked false p n line now' next' → (now ≡ now') × (next ≡ next')
one_step asked Header n line now now' next next' p q = (p.0 ∙ sym q.0, p.1 ∙ sym q.1)
one_step asked (Between plan) n line now now' next next' p q = (p.0 ∙ sym q.0, p.1 ∙ sym q.1)
one_step asked (InGroup plan g ys) n line now now' next next' p q = (p.0 ∙ sym q.0, p.1 ∙ sym q.1)
one_step asked (InJournal part s) n line now now' next next' p q = (p.0 ∙ sym q.0, p.1 ∙ sym q.1)
one_step asked (Commands s refused) n line now now' next next' p q =
    let o = one_answer line s p.1.0 q.1.0 p.0 q.0 p.1.1.0 q.1.1.0 in (
      p.1.1.1 ∙ ap (λ (r : Reply). reply_text asked.quiet r (reviewed (call_of line) r s)) o.0 ∙ sym q.1.1.1,
      p.1.1.2 ∙ ap (λ (r : Reply). after_command asked r p.1.0 refused) o.0 ∙ ap (λ (t : State). after_command asked q.0 t refused) o.1 ∙ sym q.1.1.2,
    )

abbrev One : (Ending → Phase → Text → Type 0) → Type 0
One goes = (p : Phase) (o o' : Text) (e e' : Ending) → goes e p o → goes e' p o' → (o ≡ o') × (e ≡ e')

one_after : (goes : Ending → Phase → Text → Type 0) (next : Next) (m m' : Text) (e e' : Ending) → One goes → Follows (goes e) next m e → Follows (goes e') next m' e' → (m ≡ m') × (e ≡ e')
one_after goes (On p) m m' e e' one a b = one p m m' e e' a b
one_after goes (Over text status) m m' e e' one a b = (a.0 ∙ sym b.0, a.1 ∙ sym b.1)

one_out : (asked : Asked) (p : Phase) (n place : ℕ) (lines : List Line) (out out' : Text) (e e' : Ending) → IsOutput asked false p n place lines out e → IsOutput asked false p n place lines out' e' → (out ≡ out') × (e ≡ e')
one_out asked p n place [] out out' e e' a b = one_after (λ _ _ _. ⊥) (at_end asked p n) out out' e e' (λ t o o' f f' x y. absurd x) a b
one_out asked p n place (line ∷ lines) out out' e e' (inl a) (inl b) = (a.1 ∙ sym b.1, a.2 ∙ sym b.2)
one_out asked p n place (line ∷ lines) out out' e e' (inl a) (inr b) = absurd (a.0 b.0)
one_out asked p n place (line ∷ lines) out out' e e' (inr a) (inl b) = absurd (b.0 a.0)
one_out asked p n place (line ∷ lines) out out' e e' (inr a) (inr b) =
    let step = one_step asked p n line.bytes a.1.0 b.1.0 a.1.1.0 b.1.1.0 a.1.1.1.1.0 b.1.1.1.1.0 in
    let goes : Ending → Phase → Text → Type 0 = λ f q rest. IsOutput asked false q (n + 1) (place + length (whole line)) lines rest f in
    let mine : Follows (goes e) b.1.1.0 a.1.1.1.0 e = subst (λ x. Follows (goes e) x a.1.1.1.0 e) step.1 a.1.1.1.1.2 in
    let o = one_after goes b.1.1.0 a.1.1.1.0 b.1.1.1.0 e e' (λ q o o' f f' x y. one_out asked q (n + 1) (place + length (whole line)) lines o o' f f' x y) mine b.1.1.1.1.2 in
    (a.1.1.1.1.1 ∙ ap (λ (x : Text). x ++ a.1.1.1.0) step.0 ∙ ap (λ (x : Text). b.1.0 ++ x) o.0 ∙ sym b.1.1.1.1.1, o.1)

pub one_output : OneOutput
one_output asked input =
    let o = some_output asked false Header 1 0 (lines_of input) in
    (o.0, (o.1.0, (o.1.1, λ other f p. one_out asked Header 1 0 (lines_of input) other o.0 f o.1.0 p o.1.1)))
