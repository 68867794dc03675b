-- The tags of groups and packets, their identities, and the keys of fields.
use Rattle.std.specs.Prelude.{ℕ, Bool, ◌&&◌, eqb}
use Rattle.balise_rules.specs.declared.tag.Tag.{Tag}
use Rattle.balise_rules.specs.declared.variable.Var.{Var}
use Rattle.balise_rules.specs.declared.identity.Id.{Id}
use Rattle.balise_rules.specs.contracts.tag.TagPartialEq.TheImpl as tag
use Rattle.balise_rules.specs.contracts.identity.IdPartialEq.TheImpl as identity
use Rattle.balise_rules.specs.contracts.variable.VarPartialEq.TheImpl as variable

-- whether two tags are one: what `==` answers
abbrev pub same_tag : Tag → Tag → Bool
same_tag = tag.eq-value.it

-- whether two identities are one
abbrev pub same_id : Id → Id → Bool
same_id = identity.eq-value.it

abbrev pub same_var : Var → Var → Bool
same_var = variable.eq-value.it

-- a variable, and which occurrence of it in its packet or header, from 0 in bit order
abbrev pub Key : Type 0
Key = Var × ℕ

abbrev pub same_key : Key → Key → Bool
same_key a b = same_var a.0 b.0 && eqb a.1 b.1

-- a field of this variable
abbrev pub is_of : Var → Key → Bool
is_of v k = same_var v k.0
