-- What laws say of answers.
use Rattle.std.specs.Prelude.{◌≡◌, ◌≢◌, ◌⊎◌, Result, Err}
use Rattle.ifmap_elem.specs.declared.elements.Element.{Element}
use Rattle.ifmap_ident.specs.Canon.{IsAnswer}
use Rattle.ifmap_ident.specs.declared.errors.IdentError.{IdentError}
use Rattle.ifmap_ident.specs.declared.errors.IdentError.TheVariants.{NoMemory}
use Rattle.ifmap_ident.specs.declared.identifiers.Identifier.{Identifier}

-- two answers are one, unless one of them is want of memory
abbrev pub AreOneAnswer : Result Identifier IdentError → Result Identifier IdentError → Type 0
AreOneAnswer one other = (one ≡ other) ⊎ ((one ≡ Err NoMemory) ⊎ (other ≡ Err NoMemory))

-- the element has an answer that is not want of memory
abbrev pub HasAnswer : Element → Type 0
HasAnswer e = (result : Result Identifier IdentError) × IsAnswer e result × (result ≢ Err NoMemory)
