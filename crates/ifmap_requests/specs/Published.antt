-- What updates and notifies publish: identifiers, and then a list of metadata.
use Rattle.std.specs.Prelude.{◌≡◌, ◌<◌, List, [], length, Option, None, IsSome, Ok, Err}
use Rattle.ifmap_elem.specs.declared.elements.Element.{Element}
use Rattle.ifmap_ident.specs.declared.codes.Code.{Code}
use Rattle.ifmap_ident.specs.declared.codes.Code.TheVariants.{Failure, InvalidMetadata, MetadataTooLong}
use Rattle.ifmap_ident.specs.declared.identifiers.Identifier.{Identifier}
use Rattle.ifmap_ident.specs.declared.items.Item.{Item}
use Rattle.ifmap_meta.specs.declared.metadata.Metadata.{Metadata}
use Rattle.ifmap_meta.specs.Cardinality.{cardinality_of}
use Rattle.ifmap_meta.specs.Keys.{content_bytes}
use Rattle.ifmap_meta.specs.Whole.{IsMadeOf, content_limit}
use Rattle.ifmap_requests.specs.declared.metadata.Published.{Published}
use Rattle.ifmap_forms.specs.Checks.{Check, check_then, need_some, pass}
use Rattle.ifmap_forms.specs.Items.{before_list, from_list, identifiers_check, item_of, list_if_there}
use Rattle.ifmap_forms.specs.Tables.{Both, ContentCheck, Part, both}

abbrev pub MetadataDefect : Code → Element → Type 0
MetadataDefect InvalidMetadata e = cardinality_of e ≡ None
MetadataDefect MetadataTooLong e = IsSome (cardinality_of e) × (content_limit < length (content_bytes e))
MetadataDefect _ e = ⊥

-- an element in the list
abbrev pub metadata_check : Element → Check Metadata
metadata_check e (Ok metadata) = IsMadeOf e metadata
metadata_check e (Err code) = MetadataDefect code e

-- an item, and the metadata of a list; both must be there
abbrev pub published_from : List Identifier → Option (List Metadata) → Check (Both Item (List Metadata))
published_from identifiers list =
    need_some Failure (item_of identifiers) (λ item. need_some Failure list (λ elements. pass (both item elements)))

-- the identifiers, then the list; what is missing is missed after all that is there was checked
abbrev pub published_check : List Part → Check (Both Item (List Metadata))
published_check parts =
    check_then (identifiers_check 2 [] (before_list parts))
    (λ identifiers. check_then (list_if_there metadata_check (from_list parts))
    (λ list. published_from identifiers list))

abbrev pub published_content : ContentCheck (Both Item (List Metadata))
published_content scopes = published_check

-- the parts of what is published
abbrev pub published_parts : Published → Both Item (List Metadata)
published_parts p = both p.item p.elements
