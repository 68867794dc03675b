-- Identities that compare equal are one.
use Rattle.std.proofs.Common.{◌≡◌, true, refl}
use Rattle.balise_rules.specs.declared.identity.Id.{Id}
use Rattle.balise_rules.specs.Tags.{same_id}
use Rattle.balise_rules.proofs.Tests.{id_test}
use Rattle.balise_index.specs.Identities.{is_id}

pub id_is : (a b : Id) → is_id a b ≡ same_id a b
id_is a b = refl

pub id_one : (a b : Id) → is_id a b ≡ true → a ≡ b
id_one a b e = id_test.one a b e

pub id_itself : (a : Id) → is_id a a ≡ true
id_itself a = id_test.itself a
