-- Places don't look at the content that was taken out.
-- By going through the nine kinds of edits.
use Rattle.std.proofs.Common.{◌≡◌, refl}
use Rattle.balise_rules.specs.declared.tagged_edit.TaggedEdit.TheVariants.{SetVar}
use Rattle.balise_rules.specs.Paths.{Entry, changes, needs}
use Rattle.balise_edit_laws.specs.Content.{taken, ContentAside}

same_places : (e : Entry) → (changes (taken e) ≡ changes e) × (needs (taken e) ≡ needs e)
same_places ((s, SetVar g t p v k n), m) = (refl, refl)
same_places e = (refl, refl)

pub content_aside : ContentAside
content_aside e f =
    let c = (same_places e).0 in
    let n = (same_places e).1 in
    record {
      changed = c;
      needed = n;
      apart_first = rw (c, n) refl;
      apart_second = rw (c, n) refl;
      behind_first = rw (c, n) refl;
      behind_second = rw (c, n) refl;
      first = rw (c, n) refl;
      second = rw (c, n) refl;
    }
