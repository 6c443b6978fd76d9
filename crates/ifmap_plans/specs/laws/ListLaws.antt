-- Lists of what is stored on an item stay such.
use Rattle.std.proofs.Common.{◌≡◌, Bool, false, List}
use Rattle.std.proofs.lemmas.List.Kept.{IsStrictlySortedBy-filter}
use Rattle.std.specs.List.{AllByRecursion, filter}
use Rattle.std.specs.List.Sorted.{IsStrictlySortedBy}
use Rattle.ifmap_lemmas.specs.Filters.{distinct_filter}
use Rattle.ifmap_meta.specs.declared.stored.Stored.{Stored}
use Rattle.ifmap_meta.specs.Keys.{same_key}
use Rattle.ifmap_view.specs.Attachments.{stored_order}
use Rattle.ifmap_plans.specs.Lists.{IsList}
use Rattle.ifmap_plans.specs.Placing.{put}
use Rattle.ifmap_plans.specs.laws.KeyLaws.{stored_equiv, stored_total}
use Rattle.ifmap_plans.specs.laws.PlacingLaws.{put_distinct, put_sorted}

pub list_filter : (p : Stored → Bool) (list : List Stored) → IsList list → IsList (filter p list)
list_filter p list l = record {
  rising = IsStrictlySortedBy-filter stored_order p list l.rising;
  keys = distinct_filter same_key p list l.keys;
}

pub rising_put : (s : Stored) (list : List Stored) → IsStrictlySortedBy stored_order list
    → IsStrictlySortedBy stored_order (put stored_order s list)
rising_put s list up = put_sorted Stored stored_order stored_total s list up

-- where nothing has its key
pub list_put : (s : Stored) (list : List Stored) → IsList list → AllByRecursion (λ t. same_key s t ≡ false) list
    → IsList (put stored_order s list)
list_put s list l differ = record {
  rising = rising_put s list l.rising;
  keys = put_distinct Stored stored_order stored_total same_key stored_equiv s list l.rising l.keys differ;
}
