-- Edits by item, as one operation after another is applied.
use Rattle.std.proofs.Common.{◌≡◌, ◌∙◌, refl, sym, ap, subst, ℕ, ◌+◌, ◌<◌, Bool, true, false, cond, List, [], ◌∷◌, ◌++◌, Option, Some, None}
use Rattle.std.proofs.Common.{map, take, length, get_or, inl, inr}
use Rattle.std.proofs.lemmas.Bool.{cases_Bool}
use Rattle.std.proofs.lemmas.List.{take_more}
use Rattle.std.specs.BTreeMap.{insert_entry, is_at}
use Rattle.std.specs.Map.{lookup, remove_entry}
use Rattle.std.specs.Ordering.{is_eq, match_ordering}
use Rattle.std.specs.declared.cmp.Ordering.{Ordering}
use Rattle.std.specs.declared.cmp.Ordering.TheVariants.{Less, Equal, Greater}
use Rattle.ifmap_ident.specs.declared.items.Item.{Item}
use Rattle.ifmap_ident.specs.Items.{IsCanonItem, item_order, same_item, items_tie}
use Rattle.ifmap_meta.specs.declared.metadata.Metadata.{Metadata}
use Rattle.ifmap_meta.specs.declared.stored.Stored.{Stored}
use Rattle.ifmap_requests.specs.declared.publish_ops.PublishOp.{PublishOp}
use Rattle.ifmap_requests.specs.declared.publish_ops.PublishOp.TheVariants.{Update, Notify, Delete}
use Rattle.ifmap_requests.specs.Fit.{IsFitOp}
use Rattle.ifmap_view.specs.declared.attachments.Attachment.{Attachment}
use Rattle.ifmap_view.specs.Rows.{stored_on}
use Rattle.ifmap_publish.specs.Apply.{Authorship, apply, apply_op, stored_of}
use Rattle.ifmap_publish.specs.OnItems.{apply_op_on, attach_all, op_item, op_on}
use Rattle.ifmap_publish.specs.Working.{AreEdits, EditMakes, IsEdit, IsSound, edit_or, list_by, working_rows}
use Rattle.ifmap_publish.specs.declared.edits.Edit.{Edit}
use Rattle.ifmap_publish.proofs.Attaching.{attached_as_stored}
use Rattle.ifmap_publish.proofs.Editing.{is_edit, makes_it, nothing_made, nothing_moved}
use Rattle.ifmap_publish.proofs.Items.{op_told}
use Rattle.ifmap_ident.specs.SameLaws.{same_equal, items_equiv, items_total, told_as}

abbrev Entry : Type 0
Entry = Item × Edit

-- one item finds what another of the same identifiers does
module _ (item x : Item) (same : same_item item x ≡ true) where
  pub found_alike : (es : List Entry) → lookup (is_at (item_order x)) es ≡ lookup (is_at (item_order item)) es
  found_alike [] = refl
  found_alike (e ∷ es) =
      ap (λ o. cond (is_eq o) (Some e.1) (lookup (is_at (item_order x)) es)) (sym (items_total.congr item x e.0 (same_equal item x same)))
      ∙ ap (λ l. cond (is_at (item_order item) e.0) (Some e.1) l) (found_alike es)

  pub stored_alike : (rows : List Attachment) → stored_on x rows ≡ stored_on item rows
  stored_alike [] = refl
  stored_alike (r ∷ rows) =
      let told : same_item r.item x ≡ same_item r.item item = told_as item r.item x (sym (items_equiv.symm item x) ∙ same) in
      elim (cases_Bool (same_item r.item item)) [
        | inl is ↦ rw (told, is) (ap (λ l. r.stored ∷ l) (stored_alike rows))
        | inr is ↦ rw (told, is) (stored_alike rows)
      ]

  pub working_alike : (rows : List Attachment) (es : List Entry)
      → working_rows rows (λ q. lookup (is_at (item_order q)) es) x ≡ working_rows rows (λ q. lookup (is_at (item_order q)) es) item
  working_alike rows es = λ i. list_by (edit_or (found_alike es i)) (stored_alike rows i)

-- entries stay edits of what is stored on their items
module _ (rows : List Attachment) where
  pub edits_inserted : (es : List Entry) (k : Item) (v : Edit) → IsCanonItem k → IsEdit (stored_on k rows) v → AreEdits rows es
      → AreEdits rows (insert_entry item_order es k v)
  edits_inserted [] k v c s all = (record { canon = c; edit = s }, tt)
  edits_inserted (e ∷ es) k v c s all = by (item_order k e.0) refl (edits_inserted es k v c s all.1)
    where
      by : (o : Ordering) → item_order k e.0 ≡ o → AreEdits rows (insert_entry item_order es k v)
          → AreEdits rows (match_ordering o ((k, v) ∷ e ∷ es) ((e.0, v) ∷ es) (e ∷ insert_entry item_order es k v))
      by Less is rest = (record { canon = c; edit = s }, all)
      by Equal is rest = (
        record {
          canon = all.0.canon;
          edit = subst (λ l. IsEdit l v) (sym (stored_alike k e.0 (items_tie k e.0 ∙ ap is_eq is) rows)) s;
        },
        all.1,
      )
      by Greater is rest = (all.0, rest)

  pub edits_removed : (test : Item → Bool) (es : List Entry) → AreEdits rows es → AreEdits rows (remove_entry test es)
  edits_removed test [] all = tt
  edits_removed test (e ∷ es) all = by (test e.0) (edits_removed test es all.1)
    where
      by : (b : Bool) → AreEdits rows (remove_entry test es) → AreEdits rows (cond b es (e ∷ remove_entry test es))
      by true rest = all.1
      by false rest = (all.0, rest)

  -- the edit of an item, where it has one and where it has none
  pub edit_found : (x : Item) (es : List Entry) → IsSound (stored_on x rows) → AreEdits rows es
      → IsEdit (stored_on x rows) (edit_or (lookup (is_at (item_order x)) es))
  edit_found x [] s all = is_edit (stored_on x rows) (stored_on x rows) (edit_or None) (nothing_made (stored_on x rows) s)
  edit_found x (e ∷ es) s all = by (is_at (item_order x) e.0) refl (edit_found x es s all.1)
    where
      by : (b : Bool) → is_at (item_order x) e.0 ≡ b → IsEdit (stored_on x rows) (edit_or (lookup (is_at (item_order x)) es))
          → IsEdit (stored_on x rows) (edit_or (cond b (Some e.1) (lookup (is_at (item_order x)) es)))
      by true is rest =
          subst (λ l. IsEdit l e.1) (sym (stored_alike e.0 x (items_equiv.symm e.0 x ∙ items_tie x e.0 ∙ is) rows)) all.0.edit
      by false is rest = rest

-- an update makes of its item what its elements do, as they are stored
pub update_made : (rows : List Attachment) (by : Authorship) (op : PublishOp) (item : Item) (elements : List Metadata) (forever : Bool)
    (edit after : Edit) (made : List Stored) → op ≡ Update item elements forever → made ≡ map (stored_of by forever) elements
    → EditMakes (stored_on item rows) after (attach_all (list_by edit (stored_on item rows)) made)
    → EditMakes (stored_on (op_item op) rows) after (op_on by op (list_by edit (stored_on (op_item op) rows)))
update_made rows by op item elements forever edit after made is so m =
    let list = list_by edit (stored_on item rows) in
    subst (λ (o : PublishOp). EditMakes (stored_on (op_item o) rows) after (op_on by o (list_by edit (stored_on (op_item o) rows))))
    (sym is)
    (subst (EditMakes (stored_on item rows) after) (ap (attach_all list) so ∙ attached_as_stored by forever elements list) m)

-- one operation
module _ (rows : List Attachment) (by : Authorship) (op : PublishOp) (es : List Entry) (mid new : Item → Option Edit)
    (key : Item) (edit after : Edit) (is_key : key ≡ op_item op)
    (taken : edit ≡ edit_or (lookup (is_at (item_order (op_item op))) es))
    (others : (q : Item) → same_item (op_item op) q ≡ false → mid q ≡ lookup (is_at (item_order q)) es)
    (put : (q : Item) → new q ≡ cond (is_eq (item_order key q)) (Some after) (mid q))
    (made : EditMakes (stored_on (op_item op) rows) after (op_on by op (list_by edit (stored_on (op_item op) rows)))) where
  pub op_applied : (x : Item)
      → working_rows rows new x ≡ apply_op_on x by op (working_rows rows (λ q. lookup (is_at (item_order q)) es) x)
  op_applied x =
      let hit : new x ≡ cond (same_item (op_item op) x) (Some after) (mid x) =
      put x ∙ ap (λ k. cond (is_eq (item_order k x)) (Some after) (mid x)) is_key
      ∙ ap (λ b. cond b (Some after) (mid x)) (sym (items_tie (op_item op) x)) in
      elim (cases_Bool (same_item (op_item op) x)) [
        | inl is ↦
            ap (λ o. list_by (edit_or o) (stored_on x rows)) (hit ∙ ap (λ b. cond b (Some after) (mid x)) is)
            ∙ ap (list_by after) (stored_alike (op_item op) x is rows)
            ∙ makes_it (stored_on (op_item op) rows) (op_on by op (list_by edit (stored_on (op_item op) rows))) after made
            ∙ ap (λ e. op_on by op (list_by e (stored_on (op_item op) rows))) taken
            ∙ ap (op_on by op) (sym (working_alike (op_item op) x is rows es))
            ∙ ap (λ b. cond b (op_on by op (working_rows rows (λ q. lookup (is_at (item_order q)) es) x))
            (working_rows rows (λ q. lookup (is_at (item_order q)) es) x)) (sym is)
        | inr is ↦
            ap (λ o. list_by (edit_or o) (stored_on x rows)) (hit ∙ ap (λ b. cond b (Some after) (mid x)) is ∙ others x is)
            ∙ ap (λ b. cond b (op_on by op (working_rows rows (λ q. lookup (is_at (item_order q)) es) x))
            (working_rows rows (λ q. lookup (is_at (item_order q)) es) x)) (sym is)
      ]

-- one more operation
apply_push : (rows : List Attachment) (by : Authorship) (ops : List PublishOp) (op : PublishOp)
    → apply rows by (ops ++ op ∷ []) ≡ apply_op (apply rows by ops) by op
apply_push rows by [] op = refl
apply_push rows by (o ∷ ops) op = apply_push (apply_op rows by o) by ops op

pub one_more : (rows : List Attachment) (by : Authorship) (ops : List PublishOp) (i : ℕ) (op : PublishOp) → i < length ops
    → op ≡ get_or ops i op → (old new : Item → List Stored)
    → ((x : Item) → old x ≡ stored_on x (apply rows by (take i ops)))
    → ((x : Item) → new x ≡ apply_op_on x by op (old x))
    → (x : Item) → new x ≡ stored_on x (apply rows by (take (i + 1) ops))
one_more rows by ops i op low at old new so now x =
    let more : take (i + 1) ops ≡ take i ops ++ op ∷ [] =
    take_more ops i op low ∙ ap (λ (y : PublishOp). take i ops ++ y ∷ []) (sym at) in
    now x ∙ ap (apply_op_on x by op) (so x) ∙ sym (op_told x (apply rows by (take i ops)) by op)
    ∙ ap (stored_on x) (sym (ap (apply rows by) more ∙ apply_push rows by (take i ops) op))

pub keeps_list : (by : Authorship) (op : PublishOp) (x : Item) (list : List Stored) → ((l : List Stored) → op_on by op l ≡ l)
    → list ≡ apply_op_on x by op list
keeps_list by op x list stays = elim (cases_Bool (same_item (op_item op) x)) [
  | inl is ↦ rw is (sym (stays list))
  | inr is ↦ rw is refl
]

-- before the first operation
pub none_applied : (rows : List Attachment) (by : Authorship) (ops : List PublishOp) (es : List Entry) → es ≡ []
    → record {
      edits : AreEdits rows es;
      applied : (x : Item) → working_rows rows (λ q. lookup (is_at (item_order q)) es) x ≡ stored_on x (apply rows by (take 0 ops));
    }
none_applied rows by ops [] is = record { edits = tt; applied = λ x. nothing_moved (stored_on x rows) }
none_applied rows by ops (e ∷ es) is = cc

pub fit_item : (op : PublishOp) → IsFitOp op → IsCanonItem (op_item op)
fit_item (Update item elements forever) f = f.0
fit_item (Notify item elements) f = f.0
fit_item (Delete item f) fit = fit.0
