-- From clap's clauses to that of the program's words.
use Rattle.std.proofs.Common.{◌≡◌, ◌↔◌, ◌∙◌, inl, inr, Bool, IsTrue, Option, Result, Ok, Err, List, []}
use Rattle.std.proofs.Common.{Some, None, true, false, codes, refl, subst, sym}
use Rattle.clap.specs.Words.{App, Text, HasKind, HasMatchesOf, fault_of, first_value}
use Rattle.clap.specs.Words.{found_of, is_simple, is_simple_and_free}
use Rattle.clap.specs.declared.error.Error.{Error}
use Rattle.clap.specs.declared.parser.matches.ArgMatches.{ArgMatches}
use Rattle.clap.proofs.OnLiterals.{clap_on_literals}
use Rattle.balise_arguments.specs.Faults.{IsFaultOf, IsFor}
use Rattle.balise_arguments.specs.declared.fault.ArgsFault.{ArgsFault}
use Rattle.balise_arguments.specs.declared.fault.ArgsFault.TheVariants.{Help, Memory, Other}
use Rattle.balise_arguments.proofs.Used as used
use Rattle.balise_facts.specs.declared.facts.Facts.{Facts}
use Rattle.balise_facts_cli.specs.Arguments.{Asks, Chooses, IsTags, edit_of, program}

program_simple : is_simple program ≡ true
unfolding program clap_on_literals
program_simple = refl

program_free : is_simple_and_free program ≡ true
unfolding program clap_on_literals
program_free = refl

asked_wrong : (words : List Text) (f : ArgsFault) → IsFaultOf program words f → Asks words (Err f)
asked_wrong words (Help e) f = f
asked_wrong words Memory f = tt
asked_wrong words (Other e) f = inl f

-- clap refuses the words
pub faulted : (a : App) (words : List Text) (error : Error) (f : ArgsFault) → a ≡ program
    → (is_simple_and_free a ≡ true → HasKind (fault_of a words) error) → IsFor error f → Asks words (Err f)
faulted a words error f e h k =
    let kind = used.kind_at_err program a words error program_free e h in
    asked_wrong words f (used.faulted program words error f kind k)

no_tags : (words : List Text) → (IsTrue false ↔ IsTags words) → ¬ IsTags words
no_tags words u s = let f = u.1 s in cc

chosen : (words : List Text) (edit : Option Text) (tags : Bool) (r : Result Facts ArgsFault)
    → edit ≡ edit_of words → (IsTrue tags ↔ IsTags words) → fault_of program words ≡ []
    → Chooses edit tags r → Asks words r
chosen words None false r e u n is = subst (Asks words) (sym is) (n, (sym e, no_tags words u))
chosen words None true r e u n is = subst (Asks words) (sym is) (n, (sym e, u.0 refl))
chosen words (Some text) true (Ok facts) e u n is = absurd is
chosen words (Some text) true (Err (Help f)) e u n is = absurd is
chosen words (Some text) true (Err Memory) e u n is = tt
chosen words (Some text) true (Err (Other f)) e u n is = inr (n, (text, (sym e, inl (u.0 refl, is))))
chosen words (Some text) false (Ok facts) e u n is =
    subst (λ (f : Facts). Asks words (Ok f)) (sym is.1) (n, (text, (sym e, no_tags words u, is.0, refl)))
chosen words (Some text) false (Err (Help f)) e u n is = absurd is.1
chosen words (Some text) false (Err Memory) e u n is = tt
chosen words (Some text) false (Err (Other f)) e u n is =
    inr (n, (text, (sym e, inr (no_tags words u, is.0, is.1))))

-- the words ask for facts, or there is a mistake in them that clap doesn't look for
pub facts_asked : (a : App) (m : ArgMatches) (words : List Text) (edit : Option Text) (tags : Bool)
    (r : Result Facts ArgsFault) → a ≡ program → HasMatchesOf a words m
    → (is_simple_and_free a ≡ true → fault_of a words ≡ []) → edit ≡ first_value (found_of m) (codes "edit")
    → (IsTrue tags ↔ (first_value (found_of m) (codes "tags") ≡ Some (codes "true")))
    → Chooses edit tags r → Asks words r
facts_asked a m words edit tags r e h n is u chooses =
    let clear = used.none_at_ok program a words program_free e n in
    let tagged = used.used program a m words (codes "tags") tags program_simple e h u in
    chosen words edit tags r (is ∙ used.found program a m words (codes "edit") program_simple e h) tagged clear chooses
