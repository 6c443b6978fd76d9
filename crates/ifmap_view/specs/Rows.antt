-- What is stored on an item, of a list of attachments.
use Rattle.std.specs.Prelude.{List, [], map, Option, Some, None}
use Rattle.std.specs.List.{filter}
use Rattle.ifmap_ident.specs.declared.identifiers.Identifier.{Identifier}
use Rattle.ifmap_ident.specs.declared.items.Item.{Item}
use Rattle.ifmap_ident.specs.Items.{pair_of, same_item}
use Rattle.ifmap_meta.specs.declared.stored.Stored.{Stored}
use Rattle.ifmap_view.specs.declared.attachments.Attachment.{Attachment}

-- what is stored on an item
abbrev pub stored_on : Item → List Attachment → List Stored
stored_on item rows = map (λ r. r.stored) (filter (λ r. same_item r.item item) rows)

-- what is stored on an item, where there is one
abbrev pub stored_where : Option Item → List Attachment → List Stored
stored_where None rows = []
stored_where (Some item) rows = stored_on item rows

-- what is stored on the link of two identifiers; nothing where they are one
abbrev pub stored_between : Identifier → Identifier → List Attachment → List Stored
stored_between a b rows = stored_where (pair_of a b) rows

-- what is stored on the link of two identifiers, where there are both
abbrev pub stored_linked : Option Identifier → Option Identifier → List Attachment → List Stored
stored_linked None b rows = []
stored_linked (Some a) None rows = []
stored_linked (Some a) (Some b) rows = stored_between a b rows
