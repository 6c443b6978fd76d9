-- What a publish notes is canonical.
use Rattle.std.proofs.Common.{List, [], ◌∷◌, map}
use Rattle.std.specs.List.{AllByRecursion}
use Rattle.ifmap_ident.specs.declared.items.Item.{Item}
use Rattle.ifmap_ident.specs.Items.{IsCanonItem}
use Rattle.ifmap_lemmas.specs.Members.{both_all}
use Rattle.ifmap_meta.specs.declared.metadata.Metadata.{Metadata}
use Rattle.ifmap_rows.specs.ifmap_plans.declared.plans.Note.{Note}
use Rattle.ifmap_publish.specs.Apply.{Authorship}
use Rattle.ifmap_publish.specs.Notes.{note_of, notes_of, notes_of_op}
use Rattle.ifmap_requests.specs.declared.publish_ops.PublishOp.{PublishOp}
use Rattle.ifmap_requests.specs.declared.publish_ops.PublishOp.TheVariants.{Update, Notify, Delete}
use Rattle.ifmap_requests.specs.Fit.{IsFitOp}

-- what is notified is on items that elements are
pub notes_canon : (by : Authorship) (ops : List PublishOp) → AllByRecursion IsFitOp ops
    → AllByRecursion (λ (n : Note). IsCanonItem n.item) (notes_of by ops)
notes_canon by [] fit = tt
notes_canon by (op ∷ ops) fit =
    both_all (λ (n : Note). IsCanonItem n.item) (notes_of_op by op) (notes_of by ops) (of_op op fit.0) (notes_canon by ops fit.1)
  where
    all : (item : Item) (elements : List Metadata) → IsCanonItem item
        → AllByRecursion (λ (n : Note). IsCanonItem n.item) (map (note_of by item) elements)
    all item [] is = tt
    all item (m ∷ elements) is = (is, all item elements is)

    of_op : (one : PublishOp) → IsFitOp one → AllByRecursion (λ (n : Note). IsCanonItem n.item) (notes_of_op by one)
    of_op (Update item elements forever) fit = tt
    of_op (Notify item elements) fit = all item elements fit.0
    of_op (Delete item filter) fit = tt
