-- What a publish notifies: the elements of its notify operations, in their order, with their author's stamps.
use Rattle.std.specs.Prelude.{List, [], map, flat_map}
use Rattle.ifmap_ident.specs.declared.items.Item.{Item}
use Rattle.ifmap_meta.specs.declared.metadata.Metadata.{Metadata}
use Rattle.ifmap_meta.specs.Stamps.{stamp}
use Rattle.ifmap_rows.specs.ifmap_plans.declared.plans.Note.{Note}
use Rattle.ifmap_requests.specs.declared.publish_ops.PublishOp.{PublishOp}
use Rattle.ifmap_requests.specs.declared.publish_ops.PublishOp.TheVariants.{Update, Notify, Delete}
use Rattle.ifmap_publish.specs.Apply.{Authorship}

-- one element on an item
abbrev pub note_of : Authorship → Item → Metadata → Note
note_of by item m = record { item = item; element = stamp by.client by.moment m.element }

-- the elements of one operation
abbrev pub notes_of_op : Authorship → PublishOp → List Note
notes_of_op by (Notify item elements) = map (note_of by item) elements
notes_of_op by (Update item elements forever) = []
notes_of_op by (Delete item f) = []

-- all of them
abbrev pub notes_of : Authorship → List PublishOp → List Note
notes_of by ops = flat_map (notes_of_op by) ops
