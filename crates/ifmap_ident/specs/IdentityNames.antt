-- The names of identities, in the form in which they are kept.
use Rattle.std.specs.Prelude.{◌≡◌, ℕ, ◌≤◌, ◌==◌, if◌then◌else◌, List, [], ◌∷◌, codes}
use Rattle.std.specs.List.{list_all}
use Rattle.std.specs.Str.{byte, bytes_eq, str_to_ascii_lowercase}
use Rattle.ifmap_elem.specs.declared.readings.Reading.{Reading}
use Rattle.ifmap_elem.specs.Canonical.{canonical_bytes}
use Rattle.ifmap_elem.specs.Nesting.{nesting}
use Rattle.ifmap_elem.specs.Spells.{Spells}
use Rattle.ifmap_ident.specs.declared.kinds.IdentityType.{IdentityType}
use Rattle.ifmap_ident.specs.declared.kinds.IdentityType.TheVariants.{DnsName, Other}
use Rattle.ifmap_ident.specs.declared.names.NameForm.{NameForm}
use Rattle.ifmap_ident.specs.declared.names.NameForm.TheVariants.{Literal, Domain, Spelled}

-- the text without the full stops at its end
abbrev pub without_last_dots : List ℕ → List ℕ
without_last_dots [] = []
without_last_dots (b ∷ bs) = if list_all (λ c. c == byte ".") (b ∷ bs) then [] else b ∷ without_last_dots bs

-- a name of a domain: letters of ASCII in lower case (RFC 4343, section 3), without the root's dots
abbrev pub domain_name : List ℕ → List ℕ
domain_name text = str_to_ascii_lowercase (without_last_dots text)

-- the most levels of the element that a name spells
abbrev pub name_levels : ℕ
name_levels = 64

-- the text spells an element of no more levels, and the name is the canonical bytes of it: an extended identifier
-- (IF-MAP binding for SOAP, version 2.2, section 3.2.3)
pub record IsSpelledName (text name : List ℕ) : Type 0 where
  pub reading : Reading
  pub spelled : Spells text reading
  pub shallow : nesting reading.root ≤ name_levels
  pub canonical : name ≡ canonical_bytes reading.root

-- in what form a type keeps its names; the second text is what the type `other` is defined as
abbrev pub name_form : IdentityType → List ℕ → NameForm
name_form DnsName other = Domain
name_form Other other = if bytes_eq other (codes "extended") then Spelled else Literal
name_form _ other = Literal

-- this text is kept as this name
abbrev pub IsKeptName : NameForm → List ℕ → List ℕ → Type 0
IsKeptName Literal text name = name ≡ text
IsKeptName Domain text name = name ≡ domain_name text
IsKeptName Spelled text name = IsSpelledName text name
