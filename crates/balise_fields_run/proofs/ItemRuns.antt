-- What a run from fields to digits keeps from line to line, and how it ends.
use Rattle.std.proofs.Common.{◌≡◌, ◌∙◌, ◌||◌, ◌+◌, ℕ, Bool, false, [], ◌∷◌, ◌++◌, Option, None, refl, sym, ap, subst}
use Rattle.std.specs.Io.KnownBytes.{Appends}
use Rattle.std.proofs.KnownBytes.{Appends-nil}
use Rattle.balise_lines.specs.Lines.{Line}
use Rattle.balise_lines.specs.Reading.{OverAtEnd, TookLine, TookNone, ahead, number_of, place_of}
use Rattle.balise_lines.specs.Writing.{IsPartOf, LastFailed, WritesSome}
use Rattle.balise_lines.specs.declared.counted.Counted.{Counted}
use Rattle.balise_lines.specs.declared.lines.Lines.{Lines}
use Rattle.balise_text.specs.Texts.{Text}
use Rattle.balise_text.specs.declared.run_fault.RunFault.{RunFault}
use Rattle.balise_text.specs.declared.run_fault.RunFault.TheVariants.{InputTooLong, OutOfMemory, ReadFault, WriteFault}
use Rattle.balise_items.specs.Items.{GivenItem}
use Rattle.balise_fields_run.specs.declared.status.Status.{Status}
use Rattle.balise_fields_run.specs.ItemLines.{closed_bad, closed_text, line_bad, line_text, lines_bad, lines_text, next_of, open_after, open_of}
use Rattle.balise_fields_run.specs.ItemSteps.{TextFails}
use Rattle.balise_fields_run.specs.Runs.{DidLines, RanToFault}
use Rattle.balise_fields_run.specs.Spelt.{AreItems, ItemsAtEnd, ItemsOutOfMemory, ItemsUnwritten}
use Rattle.balise_fields_run.specs.Statuses.{status_of}
use Rattle.balise_fields_run.proofs.ItemsPushed.{bad_push, fit_push, next_push, open_push, text_push}
use Rattle.balise_fields_run.proofs.RunEnds.{unwritten, without_memory}
use Rattle.balise_fields_run.proofs.RunSteps as steps

-- A run has come so far, before the line of this number, and this item is open.
pub record HaveCome (had old : Option Text) (lines : Lines) (has now : Option Text) (current : Option GivenItem) (refused : Bool) : Type 0 where
  pub run : steps.HasCome AreItems had old lines has now refused
  pub numbered : number_of lines ≡ next_of run.lines
  pub opened : current ≡ open_of run.lines

-- at first
pub at_first : (had old : Option Text) (lines : Lines) → ahead lines ≡ [] → place_of lines ≡ 0 → number_of lines ≡ 1 → HaveCome had old lines had old None false
unfolding steps.at_first
at_first had old lines a e n = record { run = steps.at_first AreItems had old lines (tt, refl, refl) a e; numbered = n; opened = refl }

module _ (had old now : Option Text) (l m : Lines) (before has : Option Text) (current : Option GivenItem) (refused : Bool) (go : HaveCome had old l before now current refused) where
  -- what is said by the number and the open item is said by the lines that have come
  by_lines : {A : Type 0} (f : ℕ → Option GivenItem → A) → f (number_of l) current ≡ f (next_of go.run.lines) (open_of go.run.lines)
  by_lines f = ap (λ (k : ℕ). f k current) go.numbered ∙ ap (f (next_of go.run.lines)) go.opened

  -- a line was taken
  pub went_on : (line : Line) → TookLine l before line m has → (new : Option Text) (opened : Option GivenItem) (bad : Bool) → Appends now new (line_text (number_of l) line.bytes current) → opened ≡ open_after (number_of l) line.bytes current → bad ≡ line_bad (number_of l) line.bytes current
      → HaveCome had old m has new opened (refused || bad)
  unfolding steps.one_more
  went_on line took new opened bad wrote o b =
      let ls = go.run.lines in
      let text = line_text (number_of l) line.bytes current in
      let fits = fit_push 0 ls line go.run.comes.0 (steps.here AreItems had old now l m before has refused go.run line took) in
      let out : go.run.written ++ text ≡ lines_text 1 None (ls ++ line ∷ [])
      = ap (λ (t : Text). t ++ text) go.run.comes.1 ∙ ap (λ (t : Text). lines_text 1 None ls ++ t) (by_lines (λ k i. line_text k line.bytes i)) ∙ sym (text_push ls line) in
      let some : (refused || bad) ≡ lines_bad 1 None (ls ++ line ∷ [])
      = ap (λ (x : Bool). refused || x) (b ∙ by_lines (λ k i. line_bad k line.bytes i)) ∙ ap (λ (x : Bool). x || line_bad (next_of ls) line.bytes (open_of ls)) go.run.comes.2 ∙ sym (bad_push ls line) in
      record {
        run = steps.one_more AreItems had old now l m before has refused go.run line took new text bad (fits, out, some) wrote;
        numbered = took.numbered ∙ ap (λ (k : ℕ). k + 1) go.numbered ∙ sym (next_push ls line);
        opened = o ∙ by_lines (λ k i. open_after k line.bytes i) ∙ sym (open_push ls line);
      }

  -- the input ended
  pub ended : TookNone l before m has → OverAtEnd m has → (new : Option Text) (bad : Bool) (status : Status) → Appends now new (closed_text (number_of l) current) → bad ≡ closed_bad (number_of l) current → status ≡ status_of (refused || bad) → DidLines AreItems had has old new (ItemsAtEnd has status)
  ended took end new bad status wrote b e =
      steps.at_end AreItems had old now l m before has refused go.run took end new (ItemsAtEnd has status) (closed_text (number_of l) current)
      (λ none. (none, refl, by_lines closed_text, e ∙ ap (λ (x : Bool). status_of (refused || x)) (b ∙ by_lines closed_bad))) wrote

-- a text wasn't written, of which both ways to fail are known
text_fails : {W : Type 0} (contents : W → Option Text) (had has old : Option Text) (writer writers : Counted W) (text : Text) (read reads written : ℕ) (e : RunFault) → DidLines AreItems had has old (contents writer.inner) (ItemsOutOfMemory has)
    → ((w : WritesSome LastFailed contents writer writers text) → DidLines AreItems had has old (contents writers.inner) (ItemsUnwritten has)) → TextFails contents writer writers text e → reads ≡ read → writer.failed ≡ written
    → RanToFault AreItems (ItemsOutOfMemory has) (ItemsUnwritten has) had has old (contents writers.inner) read reads written writers.failed e
text_fails contents had has old writer writers text read reads written OutOfMemory none some f r w = without_memory contents had has old writer writers read reads written r w none f
text_fails contents had has old writer writers text read reads written WriteFault none some f r w = unwritten contents had has old writer writers read reads written r w text f (some f)
text_fails contents had has old writer writers text read reads written InputTooLong none some f r w = absurd f
text_fails contents had has old writer writers text read reads written ReadFault none some f r w = absurd f

module _ {W : Type 0} (contents : W → Option Text) (had has old before : Option Text) (l m : Lines) (writer writers : Counted W) (current : Option GivenItem) (refused : Bool) (read reads written : ℕ) (e : RunFault)
    (go : HaveCome had old l before (contents writer.inner) current refused) (end : OverAtEnd m has) (r : reads ≡ read) (w : writer.failed ≡ written) where
  -- a beginning of a text was written
  begun : (text said : Text) → text ≡ said → (s : WritesSome LastFailed contents writer writers text) → IsPartOf s.begun.done said
  begun text said is s = subst (IsPartOf s.begun.done) is (s.begun.begins.0, (s.begun.begins.1, s.left))

  -- what a line prints wasn't written
  pub line_fails : (line : Line) → TookLine l before line m has → TextFails contents writer writers (line_text (number_of l) line.bytes current) e → RanToFault AreItems (ItemsOutOfMemory has) (ItemsUnwritten has) had has old (contents writers.inner) read reads written writers.failed e
  line_fails line took f =
      let stopped = steps.stopped AreItems had old (contents writer.inner) l m before has refused go.run line took end in
      let same = by_lines had old (contents writer.inner) l m before has current refused go (λ k i. line_text k line.bytes i) in
      text_fails contents had has old writer writers (line_text (number_of l) line.bytes current) read reads written e (stopped (contents writer.inner) (ItemsOutOfMemory has) [] (λ behind few. (few, refl)) (Appends-nil (contents writer.inner)))
      (λ s. stopped (contents writers.inner) (ItemsUnwritten has) s.begun.done (λ behind few. (few, begun _ _ same s)) s.begun.appended) f r w

  -- what the last item prints wasn't written
  pub end_fails : TookNone l before m has → TextFails contents writer writers (closed_text (number_of l) current) e → RanToFault AreItems (ItemsOutOfMemory has) (ItemsUnwritten has) had has old (contents writers.inner) read reads written writers.failed e
  end_fails took f =
      let at_end = steps.at_end AreItems had old (contents writer.inner) l m before has refused go.run took end in
      let same = by_lines had old (contents writer.inner) l m before has current refused go closed_text in
      text_fails contents had has old writer writers (closed_text (number_of l) current) read reads written e (at_end (contents writer.inner) (ItemsOutOfMemory has) [] (λ none. (none, refl)) (Appends-nil (contents writer.inner)))
      (λ s. at_end (contents writers.inner) (ItemsUnwritten has) s.begun.done (λ none. (none, begun _ _ same s)) s.begun.appended) f r w
