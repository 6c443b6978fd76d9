-- What is taken from items and put there while a publish is applied, and what is to stand on them.
use Rattle.std.specs.Prelude.{◌≡◌, Bool, cond, not, List, [], ◌∷◌, ◌++◌, MatchOption, Option, Some, None}
use Rattle.std.specs.List.{AllByRecursion, filter, list_any}
use Rattle.std.specs.List.Sorted.{IsStrictlySortedBy}
use Rattle.std.specs.Ordering.{eq_by_cmp}
use Rattle.ifmap_ident.specs.declared.items.Item.{Item}
use Rattle.ifmap_ident.specs.Items.{IsCanonItem}
use Rattle.ifmap_lemmas.specs.Having.{Has}
use Rattle.ifmap_meta.specs.declared.stored.Stored.{Stored}
use Rattle.ifmap_meta.specs.Keys.{same_key}
use Rattle.ifmap_meta.specs.Whole.{IsWhole}
use Rattle.ifmap_rows.specs.ifmap_plans.declared.plans.ItemChange.{ItemChange}
use Rattle.ifmap_rows.specs.ifmap_plans.Lists.{IsList, is_among, list_without, next_on, put_each, stored_difference}
use Rattle.ifmap_view.specs.declared.attachments.Attachment.{Attachment}
use Rattle.ifmap_view.specs.Attachments.{stored_order}
use Rattle.ifmap_view.specs.Rows.{stored_on}
use Rattle.ifmap_publish.specs.declared.edits.Edit.{Edit}

-- a list of what is stored on an item, each whole
pub record IsSound (list : List Stored) : Type 0 where
  pub keyed : IsList list
  pub whole : AllByRecursion IsWhole list

-- one of these has its key
abbrev pub is_keyed : List Stored → Stored → Bool
is_keyed keys s = list_any (λ r. same_key r s) keys

-- of a list, those that have the key of one of some
pub record AreKeyed (list keys found : List Stored) : Type 0 where
  pub there : (s : Stored) → Has found s → Has list s
  pub among : (s : Stored) → Has list s → is_among found s ≡ is_keyed keys s

-- some more in a list, instead of those with their keys
abbrev pub over_keys : List Stored → List Stored → List Stored
over_keys list more = put_each more (filter (λ s. not (is_keyed more s)) list)

-- what follows the first of these, where that has the canonical bytes of another
abbrev pub after_like : Stored → List Stored → Option (List Stored)
after_like s [] = None
after_like s (r ∷ rest) = cond (eq_by_cmp stored_order r s) (Some rest) None

-- one of a list is passed: where it is the first of those that are taken, that one is passed too, else it is met if it passes a test
abbrev pub PassesOneStored : (Stored → Bool) → Stored → List Stored → List Stored → List Stored → List Stored → Type 0
PassesOneStored test s taken rest met next =
    MatchOption (after_like s taken) ((rest ≡ taken) × (next ≡ met ++ filter test (s ∷ []))) (λ after. (rest ≡ after) × (next ≡ met))

-- an edit makes a list of what is stored on an item: what it takes is stored, what it puts is in the list, and all else is in both
pub record EditMakes (stored : List Stored) (e : Edit) (list : List Stored) : Type 0 where
  pub taken : e.taken ≡ filter (is_among e.taken) stored
  pub put : e.put ≡ filter (is_among e.put) list
  pub stays : list_without e.taken stored ≡ list_without e.put list
  pub sound : IsSound list

-- the list that is meant by an edit
abbrev pub list_by : Edit → List Stored → List Stored
list_by e stored = next_on e.taken e.put stored

-- an edit of what is stored makes the list that it means
abbrev pub IsEdit : List Stored → Edit → Type 0
IsEdit stored e = EditMakes stored e (list_by e stored)

-- the edit that is there, or one that takes and puts nothing
abbrev pub edit_or : Option Edit → Edit
edit_or None = record { taken = []; put = [] }
edit_or (Some e) = e

-- what is to stand on an item, by the edits made so far
abbrev pub working_rows : List Attachment → (Item → Option Edit) → Item → List Stored
working_rows rows made x = list_by (edit_or (made x)) (stored_on x rows)

-- the item is one that elements are, and its edit is one of what is stored there
pub record IsEntry (rows : List Attachment) (e : Item × Edit) : Type 0 where
  pub canon : IsCanonItem e.0
  pub edit : IsEdit (stored_on e.0 rows) e.1

-- all are
abbrev pub AreEdits : List Attachment → List (Item × Edit) → Type 0
AreEdits rows entries = AllByRecursion (IsEntry rows) entries

-- what an edit takes and what it puts stand in order
pub record IsRising (e : Item × Edit) : Type 0 where
  pub taken : IsStrictlySortedBy stored_order e.1.taken
  pub put : IsStrictlySortedBy stored_order e.1.put

-- a change where something goes or comes
abbrev pub kept_change : ItemChange → List Stored → List ItemChange
kept_change c [] = []
kept_change c (s ∷ stored) = c ∷ []

-- what goes and what comes by an edit: what it takes and does not put again, and what it puts and has not taken
abbrev pub change_by : Item × Edit → ItemChange
change_by e = record {
  item = e.0;
  removed = stored_difference e.1.taken e.1.put;
  added = stored_difference e.1.put e.1.taken;
}

-- the changes of items on which something does
abbrev pub changes_by : List (Item × Edit) → List ItemChange
changes_by [] = []
changes_by (e ∷ entries) = kept_change (change_by e) ((change_by e).removed ++ (change_by e).added) ++ changes_by entries

-- what goes and what comes on an item where another list is to stand
abbrev pub change_to : List Attachment → Item × List Stored → ItemChange
change_to rows e = record {
  item = e.0;
  removed = stored_difference (stored_on e.0 rows) e.1;
  added = stored_difference e.1 (stored_on e.0 rows);
}

-- the changes of items on which something does
abbrev pub changes_to : List Attachment → List (Item × List Stored) → List ItemChange
changes_to rows [] = []
changes_to rows (e ∷ entries) =
    kept_change (change_to rows e) ((change_to rows e).removed ++ (change_to rows e).added) ++ changes_to rows entries
