-- What an entry keeps of its note when its edit is taken back: its places don't look at the content that was taken out.
use Rattle.std.specs.Prelude.{◌≡◌}
use Rattle.balise_rules.specs.Notes.{without_content}
use Rattle.balise_rules.specs.Paths.{Entry, changes, needs, apart}
use Rattle.balise_rules.specs.Behind.{stands_behind, independent}

-- the entry of an edit that was taken back
abbrev pub taken : Entry → Entry
taken e = (e.0, without_content e.1)

-- An entry whose edit was taken back keeps its places. Each test with another entry answers as before, from both sides.
pub record TestedAlike (e f : Entry) : Type 0 where
  pub changed : changes (taken e) ≡ changes e
  pub needed : needs (taken e) ≡ needs e
  pub apart_first : apart (taken e) f ≡ apart e f
  pub apart_second : apart f (taken e) ≡ apart f e
  pub behind_first : stands_behind (taken e) f ≡ stands_behind e f
  pub behind_second : stands_behind f (taken e) ≡ stands_behind f e
  pub first : independent (taken e) f ≡ independent e f
  pub second : independent f (taken e) ≡ independent f e

abbrev pub ContentAside : Type 0
ContentAside = (e f : Entry) → TestedAlike e f
