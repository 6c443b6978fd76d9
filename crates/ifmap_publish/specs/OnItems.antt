-- What a publish makes of what is stored on one item: of that alone.
use Rattle.std.specs.Prelude.{Bool, cond, not, List, [], ◌∷◌, Option}
use Rattle.std.specs.List.{filter}
use Rattle.ifmap_requests.specs.ifmap_filter.declared.filters.Filter.{Filter}
use Rattle.ifmap_requests.specs.ifmap_filter.Meets.{meets_optional}
use Rattle.ifmap_ident.specs.declared.items.Item.{Item}
use Rattle.ifmap_ident.specs.Items.{same_item}
use Rattle.ifmap_meta.specs.declared.metadata.Metadata.{Metadata}
use Rattle.ifmap_meta.specs.declared.stored.Stored.{Stored}
use Rattle.ifmap_meta.specs.Keys.{same_key}
use Rattle.ifmap_rows.specs.ifmap_plans.Placing.{put}
use Rattle.ifmap_requests.specs.declared.publish_ops.PublishOp.{PublishOp}
use Rattle.ifmap_requests.specs.declared.publish_ops.PublishOp.TheVariants.{Update, Notify, Delete}
use Rattle.ifmap_view.specs.Attachments.{stored_order}
use Rattle.ifmap_publish.specs.Apply.{Authorship, stored_of}

-- one element more, instead of the one with its key
abbrev pub attach_on : List Stored → Stored → List Stored
attach_on list s = put stored_order s (filter (λ t. not (same_key s t)) list)

-- some more, from left to right
abbrev pub attach_all : List Stored → List Stored → List Stored
attach_all list [] = list
attach_all list (s ∷ more) = attach_all (attach_on list s) more

-- elements from left to right
abbrev pub update_on : List Stored → Authorship → Bool → List Metadata → List Stored
update_on list by forever [] = list
update_on list by forever (m ∷ elements) = update_on (attach_on list (stored_of by forever m)) by forever elements

-- without those that meet the filter
abbrev pub delete_on : List Stored → Option Filter → List Stored
delete_on list f = filter (λ s. not (meets_optional f s.element)) list

-- the item of an operation
abbrev pub op_item : PublishOp → Item
op_item (Update item elements forever) = item
op_item (Notify item elements) = item
op_item (Delete item f) = item

-- an operation on what is stored on its item
abbrev pub op_on : Authorship → PublishOp → List Stored → List Stored
op_on by (Update item elements forever) list = update_on list by forever elements
op_on by (Notify item elements) list = list
op_on by (Delete item f) list = delete_on list f

-- an operation on what is stored on an item, its own or another
abbrev pub apply_op_on : Item → Authorship → PublishOp → List Stored → List Stored
apply_op_on x by op list = cond (same_item (op_item op) x) (op_on by op list) list

-- operations from left to right
abbrev pub apply_on : Item → Authorship → List PublishOp → List Stored → List Stored
apply_on x by [] list = list
apply_on x by (op ∷ ops) list = apply_on x by ops (apply_op_on x by op list)
