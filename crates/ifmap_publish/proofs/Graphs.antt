-- Graphs stay graphs, and what is stored on an item of one is a list of it.
use Rattle.std.proofs.Common.{◌≡◌, Bool, true, false, not, List, [], ◌∷◌, inl, inr}
use Rattle.std.proofs.lemmas.Bool.{cases_Bool, not-true}
use Rattle.std.proofs.lemmas.List.Kept.{IsStrictlySortedBy-filter}
use Rattle.std.specs.List.{AllByRecursion, filter}
use Rattle.std.specs.Ordering.{is_gt, is_lt}
use Rattle.ifmap_ident.specs.declared.items.Item.{Item}
use Rattle.ifmap_ident.specs.Items.{IsCanonItem, same_item}
use Rattle.ifmap_lemmas.specs.Filters.{all_around, all_filter, all_weaker, distinct_filter, filter_passes}
use Rattle.ifmap_meta.specs.declared.metadata.Metadata.{Metadata}
use Rattle.ifmap_meta.specs.declared.stored.Stored.{Stored}
use Rattle.ifmap_meta.specs.ClientNames.{IsClientName}
use Rattle.ifmap_meta.specs.Whole.{IsMetadata, IsWhole}
use Rattle.ifmap_meta.specs.laws.WholeLaws.{stamped_is_whole}
use Rattle.ifmap_rows.specs.ifmap_plans.Placing.{put}
use Rattle.ifmap_rows.specs.ifmap_plans.Plans.{AreWhole}
use Rattle.ifmap_rows.specs.ifmap_plans.laws.KeyLaws.{attachments_total, keys_equiv}
use Rattle.ifmap_rows.specs.ifmap_plans.laws.PlacingLaws.{put_distinct, put_sorted}
use Rattle.ifmap_rows.specs.ifmap_plans.laws.GraphLists.{list_on}
use Rattle.ifmap_requests.specs.declared.publish_ops.PublishOp.{PublishOp}
use Rattle.ifmap_requests.specs.declared.publish_ops.PublishOp.TheVariants.{Update, Notify, Delete}
use Rattle.ifmap_requests.specs.Fit.{IsFitOp}
use Rattle.ifmap_view.specs.declared.attachments.Attachment.{Attachment}
use Rattle.ifmap_view.specs.Attachments.{IsGraph, attachment_order, of_one_key}
use Rattle.ifmap_view.specs.Rows.{stored_on}
use Rattle.ifmap_publish.specs.Apply.{Authorship, apply, apply_op, attach, attachment_of, life_of, update}
use Rattle.ifmap_publish.specs.Working.{IsSound}

pub graph_filter : (p : Attachment → Bool) (rows : List Attachment) → IsGraph rows → IsGraph (filter p rows)
graph_filter p rows g = record {
  items = all_filter (λ r. IsCanonItem r.item) p rows g.items;
  rising = IsStrictlySortedBy-filter attachment_order p rows g.rising;
  keys = distinct_filter of_one_key p rows g.keys;
}

-- what is put in keeps a graph, where nothing has its key
graph_put : (a : Attachment) (rows : List Attachment) → IsCanonItem a.item → IsGraph rows
    → AllByRecursion (λ b. of_one_key a b ≡ false) rows → IsGraph (put attachment_order a rows)
graph_put a rows w g differ = record {
  items = all_around (λ r. IsCanonItem r.item) (filter (λ b. is_lt (attachment_order b a)) rows) a
      (filter (λ b. is_gt (attachment_order b a)) rows)
      (all_filter (λ r. IsCanonItem r.item) (λ b. is_lt (attachment_order b a)) rows g.items) w
      (all_filter (λ r. IsCanonItem r.item) (λ b. is_gt (attachment_order b a)) rows g.items);
  rising = put_sorted Attachment attachment_order attachments_total a rows g.rising;
  keys = put_distinct Attachment attachment_order attachments_total of_one_key keys_equiv a rows g.rising g.keys differ;
}

graph_attached : (rows : List Attachment) (a : Attachment) → IsCanonItem a.item → IsGraph rows → IsGraph (attach rows a)
graph_attached rows a w g =
    graph_put a (filter (λ b. not (of_one_key a b)) rows) w (graph_filter (λ b. not (of_one_key a b)) rows g)
    (all_weaker (λ b. not (of_one_key a b) ≡ true) (λ b. of_one_key a b ≡ false)
    (λ b h. not-true (of_one_key a b) h) _ (filter_passes (λ b. not (of_one_key a b)) rows))

graph_updated : (rows : List Attachment) (by : Authorship) (item : Item) (forever : Bool) (ms : List Metadata) → IsCanonItem item
    → IsGraph rows → IsGraph (update rows by item forever ms)
graph_updated rows by item forever [] w g = g
graph_updated rows by item forever (m ∷ ms) w g =
    graph_updated (attach rows (attachment_of by item forever m)) by item forever ms w
    (graph_attached rows (attachment_of by item forever m) w g)

graph_op : (rows : List Attachment) (by : Authorship) (op : PublishOp) → IsFitOp op → IsGraph rows → IsGraph (apply_op rows by op)
graph_op rows by (Update item ms forever) f g = graph_updated rows by item forever ms f.0 g
graph_op rows by (Notify item ms) f g = g
graph_op rows by (Delete item f) fit g = graph_filter _ rows g

pub graph_applied : (rows : List Attachment) (by : Authorship) (ops : List PublishOp) → AllByRecursion IsFitOp ops → IsGraph rows
    → IsGraph (apply rows by ops)
graph_applied rows by [] f g = g
graph_applied rows by (op ∷ ops) f g = graph_applied (apply_op rows by op) by ops f.1 (graph_op rows by op f.0 g)

-- what is stored stays whole
module _ (by : Authorship) (name : IsClientName by.client) where
  whole_updated : (rows : List Attachment) (item : Item) (forever : Bool) (ms : List Metadata) → AllByRecursion IsMetadata ms
      → AreWhole rows → AreWhole (update rows by item forever ms)
  whole_updated rows item forever [] f w = w
  whole_updated rows item forever (m ∷ ms) f w =
      let a = attachment_of by item forever m in
      let others = filter (λ b. not (of_one_key a b)) rows in
      let kept : AreWhole others = all_filter (λ r. IsWhole r.stored) (λ b. not (of_one_key a b)) rows w in
      whole_updated (attach rows a) item forever ms f.1
      (all_around (λ r. IsWhole r.stored) (filter (λ b. is_lt (attachment_order b a)) others) a
      (filter (λ b. is_gt (attachment_order b a)) others)
      (all_filter (λ r. IsWhole r.stored) (λ b. is_lt (attachment_order b a)) others kept)
      (stamped_is_whole m by.client by.moment (life_of by.serial forever) f.0 name)
      (all_filter (λ r. IsWhole r.stored) (λ b. is_gt (attachment_order b a)) others kept))

  whole_op : (rows : List Attachment) (op : PublishOp) → IsFitOp op → AreWhole rows → AreWhole (apply_op rows by op)
  whole_op rows (Update item ms forever) f w = whole_updated rows item forever ms f.1 w
  whole_op rows (Notify item ms) f w = w
  whole_op rows (Delete item f) fit w = all_filter (λ r. IsWhole r.stored) _ rows w

  pub whole_applied : (rows : List Attachment) (ops : List PublishOp) → AllByRecursion IsFitOp ops → AreWhole rows
      → AreWhole (apply rows by ops)
  whole_applied rows [] f w = w
  whole_applied rows (op ∷ ops) f w = whole_applied (apply_op rows by op) ops f.1 (whole_op rows op f.0 w)

-- what is stored on an item
module _ (x : Item) where
  pub all_on : (P : Stored → Type 0) (rows : List Attachment) → AllByRecursion (λ r. P r.stored) rows → AllByRecursion P (stored_on x rows)
  all_on P [] a = tt
  all_on P (r ∷ rows) a = elim (cases_Bool (same_item r.item x)) [
    | inl is ↦ rw is (a.0, all_on P rows a.1)
    | inr is ↦ rw is (all_on P rows a.1)
  ]

  pub sound_on : (rows : List Attachment) → IsGraph rows → AreWhole rows → IsSound (stored_on x rows)
  sound_on rows g w = record { keyed = list_on x rows g; whole = all_on IsWhole rows w }
