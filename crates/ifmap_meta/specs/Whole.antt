-- Metadata that can be published, and stored elements that are whole.
use Rattle.std.specs.Prelude.{◌≡◌, ◌≤◌, ℕ, List, length, Some, IsSome}
use Rattle.std.specs.List.{filter}
use Rattle.ifmap_elem.specs.Arranged.{arrange}
use Rattle.ifmap_elem.specs.Canonical.{canonical_bytes}
use Rattle.ifmap_elem.specs.Fit.{IsFit}
use Rattle.ifmap_elem.specs.Nesting.{nesting}
use Rattle.ifmap_elem.specs.declared.elements.Element.{Element}
use Rattle.ifmap_meta.specs.declared.metadata.Metadata.{Metadata}
use Rattle.ifmap_meta.specs.declared.stored.Stored.{Stored}
use Rattle.ifmap_meta.specs.Cardinality.{cardinality_of}
use Rattle.ifmap_meta.specs.ClientNames.{IsClientName}
use Rattle.ifmap_meta.specs.Keys.{content_bytes}
use Rattle.ifmap_meta.specs.Stamps.{content_of, is_stamp, stamps_of}

-- how many canonical bytes content can have
abbrev pub content_limit : ℕ
content_limit = 100_000

-- how many levels an element that is published can have
abbrev pub level_limit : ℕ
level_limit = 64

-- its attributes stand in order at every level
abbrev pub IsArranged : Element → Type 0
IsArranged e = arrange e ≡ e

-- an element that a client can send: one that a document can have, of few levels, arranged
pub record IsSent (e : Element) : Type 0 where
  pub fit : IsFit e
  pub levels : nesting e ≤ level_limit
  pub arranged : IsArranged e

-- what is published of an element: its content, arranged and within its limit, with the cardinality that the element says
pub record IsMadeOf (e : Element) (metadata : Metadata) : Type 0 where
  pub element : metadata.element ≡ arrange (content_of e)
  pub cardinality : cardinality_of e ≡ Some metadata.cardinality
  pub size : length (content_bytes e) ≤ content_limit

-- metadata that can be published: an element without stamps, within the limit of content, of this cardinality
pub record IsMetadata (metadata : Metadata) : Type 0 where
  pub sent : IsSent metadata.element
  pub bare : content_of metadata.element ≡ metadata.element
  pub cardinality : cardinality_of metadata.element ≡ Some metadata.cardinality
  pub size : length (canonical_bytes metadata.element) ≤ content_limit

-- its stamps are this publisher and any text in place of the moment
abbrev pub IsStampedBy : List ℕ → Element → Type 0
IsStampedBy publisher e = (moment : List ℕ) × (filter is_stamp e.attributes ≡ stamps_of publisher moment)

-- what is stored is whole: an element that a client can send, with a cardinality, its publisher's stamps, and content within the limit
pub record IsWhole (s : Stored) : Type 0 where
  pub sent : IsSent s.element
  pub cardinality : IsSome (cardinality_of s.element)
  pub publisher : IsClientName s.publisher
  pub stamped : IsStampedBy s.publisher s.element
  pub size : length (content_bytes s.element) ≤ content_limit
