-- What is stored on one item, and how it changes.
use Rattle.std.specs.Prelude.{◌==◌, ◌&&◌, Bool, true, false, not, List, [], ◌∷◌}
use Rattle.std.specs.List.{IsDistinct, filter, list_any}
use Rattle.std.specs.List.Sorted.{IsStrictlySortedBy}
use Rattle.std.specs.Ordering.{eq_by_cmp}
use Rattle.std.specs.Str.{bytes_eq}
use Rattle.ifmap_meta.specs.declared.stored.Life.{Life}
use Rattle.ifmap_meta.specs.declared.stored.Life.TheVariants.{Session, Forever}
use Rattle.ifmap_meta.specs.declared.stored.Stored.{Stored}
use Rattle.ifmap_meta.specs.Keys.{same_key}
use Rattle.ifmap_view.specs.Attachments.{stored_bytes, stored_order}
use Rattle.ifmap_plans.specs.Placing.{put}

-- a list rises by canonical bytes, and no two of it have one key
pub record IsList (list : List Stored) : Type 0 where
  pub rising : IsStrictlySortedBy stored_order list
  pub keys : IsDistinct same_key list

-- one of its canonical bytes is among these
abbrev pub is_among : List Stored → Stored → Bool
is_among list s = list_any (λ r. eq_by_cmp stored_order r s) list

-- without what has the canonical bytes of one of these
abbrev pub list_without : List Stored → List Stored → List Stored
list_without removed list = filter (λ s. not (is_among removed s)) list

-- with each of these in its place, one after the other
abbrev pub put_each : List Stored → List Stored → List Stored
put_each [] list = list
put_each (a ∷ added) list = put_each added (put stored_order a list)

-- what is stored on an item after a change of it
abbrev pub next_on : List Stored → List Stored → List Stored → List Stored
next_on removed added list = put_each added (list_without removed list)

-- one lifetime
abbrev pub same_life : Life → Life → Bool
same_life (Session a) (Session b) = a == b
same_life (Session a) Forever = false
same_life Forever (Session b) = false
same_life Forever Forever = true

-- one stored element, of one publisher, for one lifetime
abbrev pub same_stored : Stored → Stored → Bool
same_stored a b = bytes_eq (stored_bytes a) (stored_bytes b) && bytes_eq a.publisher b.publisher && same_life a.life b.life

-- what is in the first list and not in the second
abbrev pub stored_difference : List Stored → List Stored → List Stored
stored_difference one other = filter (λ s. not (list_any (same_stored s) other)) one
