-- A text that is written part by part: what is done, and what is left of it.
use Rattle.std.proofs.Common.{◌≡◌, ◌≢◌, ◌∙◌, ℕ, List, [], ◌++◌, Option, refl, sym, ap, subst, append_assoc}
use Rattle.std.proofs.lemmas.List.{append-nil}
use Rattle.std.specs.Io.KnownBytes.{Appends}
use Rattle.std.proofs.KnownBytes.{Appends-trans, Appends-nil}
use Rattle.balise_lines.specs.Counts.{one_more}
use Rattle.balise_lines.specs.declared.counted.Counted.{Counted}
use Rattle.balise_lines.proofs.WrittenTexts.{more_left}
use Rattle.balise_lines.specs.Writing.{CountsFor, LastFailed, Leaves, Never, NoneFailed, Reason, WritesAll, WritesSome}

-- of the text, the rest is left, and no call failed
pub record Wrote {W : Type 0} (contents : W → Option (List ℕ)) (text rest : List ℕ) (old now : Counted W) : Type 0 where
  pub done : List ℕ
  pub appended : Appends (contents old.inner) (contents now.inner) done
  pub all : text ≡ done ++ rest
  pub unfailed : now.failed ≡ old.failed

pub wrote_none : {W : Type 0} (contents : W → Option (List ℕ)) (text : List ℕ) (old : Counted W) → Wrote contents text text old old
wrote_none contents text old = record { done = []; appended = Appends-nil (contents old.inner); all = refl; unfailed = refl }

split : (text done rest x more : List ℕ) → text ≡ done ++ rest → rest ≡ x ++ more → text ≡ (done ++ x) ++ more
split text done rest x more a e = a ∙ ap (λ (t : List ℕ). done ++ t) e ∙ sym (append_assoc done x more)

pub wrote_more : {W : Type 0} (contents : W → Option (List ℕ)) (text rest x more : List ℕ) (old now new : Counted W) → rest ≡ x ++ more → Wrote contents text rest old now → WritesAll contents now new x → Wrote contents text more old new
wrote_more contents text rest x more old now new e w a =
    record { done = w.done ++ x; appended = Appends-trans _ _ _ _ _ w.appended a.appended; all = split text w.done rest x more w.all e; unfailed = a.unfailed ∙ w.unfailed }

-- where more comes after it, something is still left
leaves_more : (why : Reason) (rest more : List ℕ) → Leaves why rest → Leaves why (rest ++ more)
leaves_more LastFailed rest more h = more_left rest more h
leaves_more NoneFailed rest more h = more_left rest more h
leaves_more Never rest more h = h

-- the next part was begun
pub wrote_some : {W : Type 0} (why : Reason) (contents : W → Option (List ℕ)) (text rest x more : List ℕ) (old now new : Counted W) → rest ≡ x ++ more → Wrote contents text rest old now →
    WritesSome why contents now new x → WritesSome why contents old new text
wrote_some why contents text rest x more old now new e w s =
    let done = s.begun.done in
    let left = s.begun.begins.0 in record {
      begun = record {
        done = w.done ++ done;
        begins = (
          left ++ more,
          append_assoc w.done done (left ++ more)
              ∙ ap (λ (t : List ℕ). w.done ++ t) (sym (append_assoc done left more) ∙ ap (λ (t : List ℕ). t ++ more) s.begun.begins.1 ∙ sym e)
              ∙ sym w.all,
        );
        appended = Appends-trans _ _ _ _ _ w.appended s.begun.appended;
      };
      cause = subst (λ (n : ℕ). CountsFor why n new.failed) w.unfailed s.cause;
      left = leaves_more why left more s.left;
    }

-- the call for the rest failed, and took nothing
pub wrote_and_failed : {W : Type 0} (contents : W → Option (List ℕ)) (text rest : List ℕ) (old now new : Counted W) → Wrote contents text rest old now → rest ≢ [] →
    Appends (contents now.inner) (contents new.inner) [] → new.failed ≡ one_more now.failed → WritesSome LastFailed contents old new text
wrote_and_failed contents text rest old now new w left none failed = record {
  begun = record {
    done = w.done ++ [];
    begins = (rest, append_assoc w.done [] rest ∙ sym w.all);
    appended = Appends-trans _ _ _ _ _ w.appended none;
  };
  cause = failed ∙ ap one_more w.unfailed;
  left = left;
}

-- nothing is left
pub wrote_all : {W : Type 0} (contents : W → Option (List ℕ)) (text rest : List ℕ) (old now : Counted W) → rest ≡ [] → Wrote contents text rest old now → WritesAll contents old now text
wrote_all contents text rest old now e w = record {
  appended = subst (λ (t : List ℕ). Appends (contents old.inner) (contents now.inner) t) (sym (w.all ∙ ap (λ (t : List ℕ). w.done ++ t) e ∙ append-nil w.done)) w.appended;
  unfailed = w.unfailed;
}

-- The last part, and a part alone.

pub wrote_last : {W : Type 0} (contents : W → Option (List ℕ)) (text rest x : List ℕ) (old now new : Counted W) → rest ≡ x → Wrote contents text rest old now → WritesAll contents now new x → WritesAll contents old new text
wrote_last contents text rest x old now new e w a = wrote_all contents text [] old new refl (wrote_more contents text rest x [] old now new (e ∙ sym (append-nil x)) w a)

pub some_last : {W : Type 0} (why : Reason) (contents : W → Option (List ℕ)) (text rest x : List ℕ) (old now new : Counted W) → rest ≡ x → Wrote contents text rest old now →
    WritesSome why contents now new x → WritesSome why contents old new text
some_last why contents text rest x old now new e w s = wrote_some why contents text rest x [] old now new (e ∙ sym (append-nil x)) w s

pub all_as : {W : Type 0} (contents : W → Option (List ℕ)) (text x : List ℕ) (old new : Counted W) → text ≡ x → WritesAll contents old new x → WritesAll contents old new text
all_as contents text x old new e a = subst (λ (t : List ℕ). WritesAll contents old new t) (sym e) a

pub some_as : {W : Type 0} (why : Reason) (contents : W → Option (List ℕ)) (text x : List ℕ) (old new : Counted W) → text ≡ x → WritesSome why contents old new x → WritesSome why contents old new text
some_as why contents text x old new e s = subst (λ (t : List ℕ). WritesSome why contents old new t) (sym e) s
