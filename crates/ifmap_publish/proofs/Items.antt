-- What stands on an item after the attachments change is made of what stood on it alone.
-- The plan: a filter of attachments is one of what stands on the item where both tests say the same there (on_filter);
-- an attachment that is put in on another item leaves what stands here (the module over an item), and one on this item is put in here,
-- where it stands by its bytes alone (attach_here); an operation is one or the other (op_told), and operations go by their number
-- (apply_told); a retraction is a filter (retract_told).
use Rattle.std.proofs.Common.{◌≡◌, ◌∙◌, refl, sym, ap, Bool, true, false, not, ◌&&◌, List, [], ◌∷◌, ◌++◌, Option, inl, inr}
use Rattle.std.proofs.lemmas.Bool.{cases_Bool}
use Rattle.std.proofs.lemmas.List.{append-nil}
use Rattle.std.specs.List.{filter}
use Rattle.std.specs.Ordering.{is_eq, is_gt, is_lt, ordering_then}
use Rattle.std.specs.declared.cmp.Ordering.{Ordering}
use Rattle.std.specs.declared.cmp.Ordering.TheVariants.{Less, Equal, Greater}
use Rattle.ifmap_requests.specs.ifmap_filter.declared.filters.Filter.{Filter}
use Rattle.ifmap_requests.specs.ifmap_filter.Meets.{meets_optional}
use Rattle.ifmap_ident.specs.declared.items.Item.{Item}
use Rattle.ifmap_ident.specs.Items.{item_order, same_item, items_tie}
use Rattle.ifmap_lemmas.specs.Filtered.{none_pass}
use Rattle.ifmap_lemmas.specs.Filters.{all_pass}
use Rattle.ifmap_meta.specs.declared.metadata.Metadata.{Metadata}
use Rattle.ifmap_meta.specs.declared.stored.Stored.{Stored}
use Rattle.ifmap_meta.specs.Keys.{same_key}
use Rattle.ifmap_rows.specs.ifmap_plans.Placing.{put}
use Rattle.ifmap_requests.specs.declared.publish_ops.PublishOp.{PublishOp}
use Rattle.ifmap_requests.specs.declared.publish_ops.PublishOp.TheVariants.{Update, Notify, Delete}
use Rattle.ifmap_view.specs.declared.attachments.Attachment.{Attachment}
use Rattle.ifmap_view.specs.Attachments.{attachment_order, of_one_key, stored_order}
use Rattle.ifmap_view.specs.Rows.{stored_on}
use Rattle.ifmap_publish.specs.Apply.{Authorship, apply, apply_op, attach, attachment_of, delete, update}
use Rattle.ifmap_publish.specs.declared.who.Who.{Who}
use Rattle.ifmap_publish.specs.Retract.{is_of, retract, retract_on}
use Rattle.ifmap_publish.specs.OnItems.{apply_on, apply_op_on, attach_on, delete_on, update_on}
use Rattle.ifmap_ident.specs.SameLaws.{same_equal, items_equiv, items_total, told_as}

pub ordered_as : (x a b : Item) → same_item b x ≡ true → item_order b a ≡ item_order x a
ordered_as x a b e = items_total.congr b x a (same_equal b x e)

module _ (x : Item) where
  abbrev here : Attachment → Bool
  here r = same_item r.item x

  -- a filter of the attachments that goes by what is stored
  pub on_filter : (p : Attachment → Bool) (q : Stored → Bool) → ((r : Attachment) → here r ≡ true → p r ≡ q r.stored)
      → (rows : List Attachment) → stored_on x (filter p rows) ≡ filter q (stored_on x rows)
  on_filter p q h [] = refl
  on_filter p q h (r ∷ rows) = elim (cases_Bool (here r)) [
    | inl is ↦
        elim (cases_Bool (q r.stored)) [
          | inl t ↦ rw (h r is, t, is, t) (ap (λ l. r.stored ∷ l) (on_filter p q h rows))
          | inr t ↦ rw (h r is, t, is, t) (on_filter p q h rows)
        ]
    | inr is ↦
        elim (cases_Bool (p r)) [
          | inl t ↦ rw (t, is) (on_filter p q h rows)
          | inr t ↦ rw (t, is) (on_filter p q h rows)
        ]
  ]

  -- one attachment between others
  on_between : (a : Attachment) → here a ≡ true → (xs ys : List Attachment)
      → stored_on x (xs ++ a ∷ ys) ≡ stored_on x xs ++ a.stored ∷ stored_on x ys
  on_between a is [] ys = rw is refl
  on_between a is (r ∷ rows) ys = elim (cases_Bool (here r)) [
    | inl t ↦ rw t (ap (λ l. r.stored ∷ l) (on_between a is rows ys))
    | inr t ↦ rw t (on_between a is rows ys)
  ]

  off_between : (a : Attachment) → here a ≡ false → (xs ys : List Attachment)
      → stored_on x (xs ++ a ∷ ys) ≡ stored_on x xs ++ stored_on x ys
  off_between a is [] ys = rw is refl
  off_between a is (r ∷ rows) ys = elim (cases_Bool (here r)) [
    | inl t ↦ rw t (ap (λ l. r.stored ∷ l) (off_between a is rows ys))
    | inr t ↦ rw t (off_between a is rows ys)
  ]

  -- what is attached to the item
  pub attach_here : (rows : List Attachment) (a : Attachment) → here a ≡ true
      → stored_on x (attach rows a) ≡ attach_on (stored_on x rows) a.stored
  attach_here rows a is =
      let others = filter (λ b. not (of_one_key a b)) rows in
      let kept : stored_on x others ≡ filter (λ t. not (same_key a.stored t)) (stored_on x rows) =
      on_filter (λ b. not (of_one_key a b)) (λ t. not (same_key a.stored t))
      (λ r t. ap (λ b. not (b && same_key a.stored r.stored)) (told_as x a.item r.item t ∙ is)) rows in
      let order : (r : Attachment) → here r ≡ true → attachment_order r a ≡ stored_order r.stored a.stored =
      λ r t. ap (λ o. ordering_then o (stored_order r.stored a.stored))
      (ordered_as x a.item r.item t ∙ same_equal x a.item (items_equiv.symm x a.item ∙ is)) in
      on_between a is (filter (λ r. is_lt (attachment_order r a)) others) (filter (λ r. is_gt (attachment_order r a)) others)
      ∙ ap (λ l. l ++ a.stored ∷ stored_on x (filter (λ r. is_gt (attachment_order r a)) others))
      (on_filter (λ r. is_lt (attachment_order r a)) (λ s. is_lt (stored_order s a.stored)) (λ r t. ap is_lt (order r t)) others)
      ∙ ap (λ l. filter (λ s. is_lt (stored_order s a.stored)) (stored_on x others) ++ a.stored ∷ l)
      (on_filter (λ r. is_gt (attachment_order r a)) (λ s. is_gt (stored_order s a.stored)) (λ r t. ap is_gt (order r t)) others)
      ∙ ap (put stored_order a.stored) kept

  -- and to another
  attach_there : (rows : List Attachment) (a : Attachment) → here a ≡ false → stored_on x (attach rows a) ≡ stored_on x rows
  attach_there rows a is =
      let others = filter (λ b. not (of_one_key a b)) rows in
      let kept : stored_on x others ≡ stored_on x rows =
      on_filter (λ b. not (of_one_key a b)) (λ t. true)
      (λ r t. ap (λ b. not (b && same_key a.stored r.stored)) (told_as x a.item r.item t ∙ is)) rows ∙ all_pass (stored_on x rows) in
      off_between a is (filter (λ r. is_lt (attachment_order r a)) others) (filter (λ r. is_gt (attachment_order r a)) others)
      ∙ by (item_order x a.item) refl others
      ∙ kept
    where
      order : (o : Ordering) → item_order x a.item ≡ o → (r : Attachment) → here r ≡ true
          → attachment_order r a ≡ ordering_then o (stored_order r.stored a.stored)
      order o e r t = ap (λ c. ordering_then c (stored_order r.stored a.stored)) (ordered_as x a.item r.item t ∙ e)

      parts : (b c : Bool) (others : List Attachment)
          → ((r : Attachment) → here r ≡ true → is_lt (attachment_order r a) ≡ b)
          → ((r : Attachment) → here r ≡ true → is_gt (attachment_order r a) ≡ c)
          → stored_on x (filter (λ r. is_lt (attachment_order r a)) others)
          ++ stored_on x (filter (λ r. is_gt (attachment_order r a)) others)
          ≡ filter (λ s. b) (stored_on x others) ++ filter (λ s. c) (stored_on x others)
      parts b c others l g =
          ap (λ l. l ++ stored_on x (filter (λ r. is_gt (attachment_order r a)) others))
          (on_filter (λ r. is_lt (attachment_order r a)) (λ s. b) l others)
          ∙ ap (λ l. filter (λ s. b) (stored_on x others) ++ l)
          (on_filter (λ r. is_gt (attachment_order r a)) (λ s. c) g others)

      by : (o : Ordering) → item_order x a.item ≡ o → (others : List Attachment)
          → stored_on x (filter (λ r. is_lt (attachment_order r a)) others)
          ++ stored_on x (filter (λ r. is_gt (attachment_order r a)) others)
          ≡ stored_on x others
      by Less e others =
          parts true false others (λ r t. ap is_lt (order Less e r t)) (λ r t. ap is_gt (order Less e r t))
          ∙ ap (λ l. l ++ filter (λ s. false) (stored_on x others)) (all_pass (stored_on x others))
          ∙ ap (λ l. stored_on x others ++ l) (none_pass (stored_on x others))
          ∙ append-nil (stored_on x others)
      by Equal e others =
          let bad : false ≡ true = sym is ∙ items_equiv.symm a.item x ∙ items_tie x a.item ∙ ap is_eq e in cc
      by Greater e others =
          parts false true others (λ r t. ap is_lt (order Greater e r t)) (λ r t. ap is_gt (order Greater e r t))
          ∙ ap (λ l. l ++ filter (λ s. true) (stored_on x others)) (none_pass (stored_on x others))
          ∙ all_pass (stored_on x others)

  -- updates and deletes of the item and of others
  update_here : (rows : List Attachment) (by : Authorship) (item : Item) (forever : Bool) (ms : List Metadata) → same_item item x ≡ true
      → stored_on x (update rows by item forever ms) ≡ update_on (stored_on x rows) by forever ms
  update_here rows by item forever [] is = refl
  update_here rows by item forever (m ∷ ms) is =
      update_here (attach rows (attachment_of by item forever m)) by item forever ms is
      ∙ ap (λ l. update_on l by forever ms) (attach_here rows (attachment_of by item forever m) is)

  update_there : (rows : List Attachment) (by : Authorship) (item : Item) (forever : Bool) (ms : List Metadata) → same_item item x ≡ false
      → stored_on x (update rows by item forever ms) ≡ stored_on x rows
  update_there rows by item forever [] is = refl
  update_there rows by item forever (m ∷ ms) is =
      update_there (attach rows (attachment_of by item forever m)) by item forever ms is
      ∙ attach_there rows (attachment_of by item forever m) is

  delete_here : (rows : List Attachment) (item : Item) (f : Option Filter) → same_item item x ≡ true
      → stored_on x (delete rows item f) ≡ delete_on (stored_on x rows) f
  delete_here rows item f is =
      on_filter (λ a. not (same_item a.item item && meets_optional f a.stored.element)) (λ s. not (meets_optional f s.element))
      (λ r t. ap (λ b. not (b && meets_optional f r.stored.element)) (items_equiv.symm r.item item ∙ told_as x item r.item t ∙ is)) rows

  delete_there : (rows : List Attachment) (item : Item) (f : Option Filter) → same_item item x ≡ false
      → stored_on x (delete rows item f) ≡ stored_on x rows
  delete_there rows item f is =
      on_filter (λ a. not (same_item a.item item && meets_optional f a.stored.element)) (λ s. true)
      (λ r t. ap (λ b. not (b && meets_optional f r.stored.element)) (items_equiv.symm r.item item ∙ told_as x item r.item t ∙ is)) rows
      ∙ all_pass (stored_on x rows)

  -- one operation
  pub op_told : (rows : List Attachment) (by : Authorship) (op : PublishOp)
      → stored_on x (apply_op rows by op) ≡ apply_op_on x by op (stored_on x rows)
  op_told rows by (Update item ms forever) = elim (cases_Bool (same_item item x)) [
    | inl is ↦ rw is (update_here rows by item forever ms is)
    | inr is ↦ rw is (update_there rows by item forever ms is)
  ]
  op_told rows by (Notify item ms) = elim (cases_Bool (same_item item x)) [
    | inl is ↦ rw is refl
    | inr is ↦ rw is refl
  ]
  op_told rows by (Delete item f) = elim (cases_Bool (same_item item x)) [
    | inl is ↦ rw is (delete_here rows item f is)
    | inr is ↦ rw is (delete_there rows item f is)
  ]

  -- all of them
  pub apply_told : (rows : List Attachment) (by : Authorship) (ops : List PublishOp)
      → stored_on x (apply rows by ops) ≡ apply_on x by ops (stored_on x rows)
  apply_told rows by [] = refl
  apply_told rows by (op ∷ ops) = apply_told (apply_op rows by op) by ops ∙ ap (apply_on x by ops) (op_told rows by op)

-- and what is left by a retraction
pub retract_told : (x : Item) (who : Who) (rows : List Attachment) → stored_on x (retract who rows) ≡ retract_on who (stored_on x rows)
retract_told x who rows = on_filter x (λ a. not (is_of who a.stored)) (λ s. not (is_of who s)) (λ r t. refl) rows
