-- What a publish makes of the attachments: its operations from left to right (IF-MAP binding for SOAP, version 2.2, section 3.7.3).
use Rattle.std.specs.Prelude.{ℕ, Bool, true, false, ◌&&◌, not, List, [], ◌∷◌, Option}
use Rattle.std.specs.List.{filter}
use Rattle.ifmap_requests.specs.ifmap_filter.declared.filters.Filter.{Filter}
use Rattle.ifmap_requests.specs.ifmap_filter.Meets.{meets_optional}
use Rattle.ifmap_ident.specs.declared.items.Item.{Item}
use Rattle.ifmap_ident.specs.Items.{same_item}
use Rattle.ifmap_meta.specs.declared.metadata.Metadata.{Metadata}
use Rattle.ifmap_meta.specs.declared.stored.Life.{Life}
use Rattle.ifmap_meta.specs.declared.stored.Life.TheVariants as the_life
use Rattle.ifmap_meta.specs.declared.stored.Stored.{Stored}
use Rattle.ifmap_meta.specs.Stored.{stored_as}
use Rattle.ifmap_rows.specs.ifmap_plans.Placing.{put}
use Rattle.ifmap_requests.specs.declared.publish_ops.PublishOp.{PublishOp}
use Rattle.ifmap_requests.specs.declared.publish_ops.PublishOp.TheVariants.{Update, Notify, Delete}
use Rattle.ifmap_view.specs.declared.attachments.Attachment.{Attachment}
use Rattle.ifmap_view.specs.Attachments.{attachment_order, of_one_key}

-- who publishes, in the session of which serial, and at which moment
pub record Authorship : Type 0 where
  pub client : List ℕ
  pub serial : ℕ
  pub moment : ℕ

-- how long an element is to stay: forever where that is asked, else as long as the session
abbrev pub life_of : ℕ → Bool → Life
life_of serial true = the_life.Forever
life_of serial false = the_life.Session serial

-- what is stored of an element that is to stay so long: with its author's stamps
abbrev pub stored_for : Authorship → Life → Metadata → Stored
stored_for by life m = stored_as m.element by.client by.moment life

-- what is stored of it, as long as is asked
abbrev pub stored_of : Authorship → Bool → Metadata → Stored
stored_of by forever = stored_for by (life_of by.serial forever)

-- an element as it is attached
abbrev pub attachment_of : Authorship → Item → Bool → Metadata → Attachment
attachment_of by item forever m = record { item = item; stored = stored_of by forever m }

-- with this attachment in its place, instead of the one with its key
abbrev pub attach : List Attachment → Attachment → List Attachment
attach rows a = put attachment_order a (filter (λ b. not (of_one_key a b)) rows)

-- the elements of an update are attached from left to right
abbrev pub update : List Attachment → Authorship → Item → Bool → List Metadata → List Attachment
update rows by item forever [] = rows
update rows by item forever (m ∷ elements) = update (attach rows (attachment_of by item forever m)) by item forever elements

-- without the attachments of the item whose element meets the filter; an absent filter is met by each
abbrev pub delete : List Attachment → Item → Option Filter → List Attachment
delete rows item f = filter (λ a. not (same_item a.item item && meets_optional f a.stored.element)) rows

-- one operation; what is notified is kept nowhere
abbrev pub apply_op : List Attachment → Authorship → PublishOp → List Attachment
apply_op rows by (Update item elements forever) = update rows by item forever elements
apply_op rows by (Notify item elements) = rows
apply_op rows by (Delete item f) = delete rows item f

-- the operations of a publish are applied from left to right
abbrev pub apply : List Attachment → Authorship → List PublishOp → List Attachment
apply rows by [] = rows
apply rows by (op ∷ ops) = apply (apply_op rows by op) by ops
