-- Which links a search goes along, and from which identifiers it goes on.
use Rattle.std.specs.Prelude.{◌≡◌, Bool, true, false, List, Option}
use Rattle.std.specs.List.{list_any}
use Rattle.ifmap_search.specs.ifmap_filter.declared.filters.Filter.{Filter}
use Rattle.ifmap_search.specs.ifmap_filter.Meets.{meets_optional}
use Rattle.ifmap_ident.specs.declared.identifiers.Identifier.{Identifier}
use Rattle.ifmap_ident.specs.declared.kinds.Kind.{Kind}
use Rattle.ifmap_ident.specs.declared.kinds.Kind.TheVariants.{AccessRequest, Device, Identity, IpAddress, MacAddress}
use Rattle.ifmap_ident.specs.Canon.{IsIdentifier}
use Rattle.ifmap_ident.specs.Identifiers.{identifier_kind}
use Rattle.ifmap_meta.specs.declared.stored.Stored.{Stored}
use Rattle.ifmap_view.specs.declared.attachments.Attachment.{Attachment}
use Rattle.ifmap_view.specs.Rows.{stored_between}

-- some of what is stored meets the filter
abbrev pub one_meets : Option Filter → List Stored → Bool
one_meets filter = list_any (λ s. meets_optional filter s.element)

-- the link of two identifiers matches: something on it meets the filter
abbrev pub is_match : List Attachment → Option Filter → Identifier → Identifier → Bool
is_match rows filter a b = one_meets filter (stored_between a b rows)

abbrev pub IsMatch : List Attachment → Option Filter → Identifier → Identifier → Type 0
IsMatch rows filter a b = is_match rows filter a b ≡ true

-- a matching link leads from an identifier to this one
abbrev pub LinksTo : List Attachment → Option Filter → Identifier → Identifier → Type 0
LinksTo rows filter a b = IsIdentifier b × IsMatch rows filter a b

-- the two are one kind
abbrev pub same_kind : Kind → Kind → Bool
same_kind AccessRequest AccessRequest = true
same_kind Device Device = true
same_kind Identity Identity = true
same_kind IpAddress IpAddress = true
same_kind MacAddress MacAddress = true
same_kind _ _ = false

-- no walk goes on from the identifier: it is of a terminal kind
abbrev pub is_terminal : List Kind → Identifier → Bool
is_terminal kinds a = list_any (λ kind. same_kind kind (identifier_kind a)) kinds
