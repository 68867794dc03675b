-- From clap's clauses to those of a program's words.
use Rattle.std.proofs.Common.{◌≡◌, ◌≢◌, ◌↔◌, ◌∙◌, inl, inr, Bool, IsTrue, List, Some, [], true, codes, ap, subst, sym}
use Rattle.clap.specs.Words.{App, Text, HasMatchesOf, HasKind, IsAmong, fault_of, first_of, first_value, found_of, is_simple, is_simple_and_free, kind_of, matches_of}
use Rattle.clap.specs.declared.error.Error.{Error}
use Rattle.clap.specs.declared.error.ErrorKind.TheVariants.{DisplayHelp, OutOfMemory}
use Rattle.clap.specs.declared.parser.matches.ArgMatches.{ArgMatches}
use Rattle.clap.proofs.WalkLemmas.{first_value-rows}
use Rattle.balise_arguments.specs.CommandLines.{IsGiven}
use Rattle.balise_arguments.specs.Faults.{IsFor, IsFaultOf}
use Rattle.balise_arguments.specs.declared.fault.ArgsFault.{ArgsFault}
use Rattle.balise_arguments.specs.declared.fault.ArgsFault.TheVariants.{Help, Memory, Other}

-- what clap found of an argument is what it finds among the words
pub found : (program a : App) (m : ArgMatches) (words : List Text) (name : Text) → is_simple program ≡ true → a ≡ program → HasMatchesOf a words m
    → first_value (found_of m) name ≡ first_of name (matches_of program words)
found program a m words name simple e h =
    let P : App → Type 0 = λ x. HasMatchesOf x words m in
    first_value-rows (found_of m) name ∙ ap (first_of name) (subst P e h simple).0

pub used : (program a : App) (m : ArgMatches) (words : List Text) (name : Text) (b : Bool) → is_simple program ≡ true → a ≡ program → HasMatchesOf a words m
    → (IsTrue b ↔ (first_value (found_of m) name ≡ Some (codes "true"))) → (IsTrue b ↔ IsGiven program name words)
used program a m words name b simple e h u = subst (λ t. IsTrue b ↔ (t ≡ Some (codes "true"))) (found program a m words name simple e h) u

among : (program : App) (words : List Text) (error e : Error) → (kind_of error ≢ OutOfMemory) → HasKind (fault_of program words) error → e ≡ error → IsAmong (kind_of e) (fault_of program words)
among program words error e n h q = elim h [ inl m ↦ absurd (n m) | inr i ↦ subst (λ (x : Error). IsAmong (kind_of x) (fault_of program words)) (sym q) i ]

pub faulted : (program : App) (words : List Text) (error : Error) (f : ArgsFault) → HasKind (fault_of program words) error → IsFor error f → IsFaultOf program words f
faulted program words error (Help e) h k = (ap kind_of k.1 ∙ k.0, among program words error e (λ m. help_apart (sym k.0 ∙ m)) h k.1)
  where
    help_apart : DisplayHelp ≢ OutOfMemory
    help_apart e = cc
faulted program words error Memory h k = tt
faulted program words error (Other e) h (help, memory, same) = (
  λ (x : kind_of e ≡ DisplayHelp). help (sym (ap kind_of same) ∙ x),
  among program words error e memory h same,
)

pub none_at_ok : (program a : App) (words : List Text) → is_simple_and_free program ≡ true → a ≡ program → (is_simple_and_free a ≡ true → fault_of a words ≡ []) → fault_of program words ≡ []
none_at_ok program a words free e h = let P : App → Type 0 = λ x. is_simple_and_free x ≡ true → fault_of x words ≡ [] in subst P e h free

pub kind_at_err : (program a : App) (words : List Text) (error : Error) → is_simple_and_free program ≡ true → a ≡ program → (is_simple_and_free a ≡ true → HasKind (fault_of a words) error) → HasKind (fault_of program words) error
kind_at_err program a words error free e h = let P : App → Type 0 = λ x. is_simple_and_free x ≡ true → HasKind (fault_of x words) error in subst P e h free
