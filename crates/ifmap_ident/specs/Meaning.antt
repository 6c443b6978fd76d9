-- The answers on the way to an identifier, before its size is looked at.
use Rattle.std.specs.Prelude.{◌≡◌, ℕ, List, [], ◌∷◌, Option, Some, None, Result, Ok, Err, codes, unwrap_or}
use Rattle.ifmap_elem.specs.declared.elements.Element.{Element}
use Rattle.ifmap_ident.specs.declared.errors.IdentError.{IdentError}
use Rattle.ifmap_ident.specs.declared.errors.IdentError.TheVariants.{WrongKind, Invalid, TooLong, NoMemory}
use Rattle.ifmap_ident.specs.declared.identifiers.Identifier.{Identifier}
use Rattle.ifmap_ident.specs.declared.kinds.Kind.{Kind}
use Rattle.ifmap_ident.specs.Canon.{HasParts, IsInvalid, IsMeant, IsWrongKind}
use Rattle.ifmap_ident.specs.Identifiers.{identifier_kind}
use Rattle.ifmap_ident.specs.Parts.{value_of}
use Rattle.ifmap_ident.specs.declared.reading.Version.{Version}
use Rattle.ifmap_ident.specs.declared.reading.Version.TheVariants.{V4, V6}

-- what the element means, or why it means nothing
abbrev pub IsMeaning : Element → Result Identifier IdentError → Type 0
IsMeaning e (Ok i) = IsMeant e i
IsMeaning e (Err WrongKind) = IsWrongKind e
IsMeaning e (Err Invalid) = IsInvalid e
IsMeaning e (Err TooLong) = ⊥
IsMeaning e (Err NoMemory) = Unit {0}

-- the identifier of this kind whose parts the element has, or that it has those of none
abbrev pub ArePartsOf : Kind → Element → Result Identifier IdentError → Type 0
ArePartsOf kind e (Ok i) = (identifier_kind i ≡ kind) × HasParts e i
ArePartsOf kind e (Err WrongKind) = ⊥
ArePartsOf kind e (Err Invalid) = (i : Identifier) → identifier_kind i ≡ kind → HasParts e i → ⊥
ArePartsOf kind e (Err TooLong) = ⊥
ArePartsOf kind e (Err NoMemory) = Unit {0}

-- what passes among texts, or that nothing does; want of memory says nothing
abbrev pub IsFound : {E : Type 0} (Passes : List ℕ → Type 0) → Result (Option (List ℕ)) E → Type 0
IsFound Passes (Ok (Some text)) = Passes text
IsFound Passes (Ok None) = (text : List ℕ) → Passes text → ⊥
IsFound Passes (Err e) = Unit {0}

abbrev pub text_unless_empty : List ℕ → Option (List ℕ)
text_unless_empty [] = None
text_unless_empty (b ∷ bs) = Some (b ∷ bs)

-- the version of an address as it is written in the attribute `type`
abbrev pub version_name : Version → List ℕ
version_name V4 = codes "IPv4"
version_name V6 = codes "IPv6"

-- the version of the addresses of an element
abbrev pub IsVersion : Element → Version → Type 0
IsVersion e version = unwrap_or (value_of (codes "type") e) (codes "IPv4") ≡ version_name version
