-- What is stored on an item rises.
use Rattle.std.proofs.Common.{◌≡◌, Bool, true, false, cond, List, [], ◌∷◌, map, ap, ◌∙◌, sym}
use Rattle.std.proofs.lemmas.List.Kept.{IsStrictlySortedBy-filter}
use Rattle.std.specs.List.{AllByRecursion, filter}
use Rattle.std.specs.List.Sorted.{IsStrictlySortedBy}
use Rattle.std.specs.Ordering.{ordering_reverse, ordering_then}
use Rattle.std.specs.declared.cmp.Ordering.TheVariants.{Less, Equal}
use Rattle.ifmap_ident.specs.declared.items.Item.{Item}
use Rattle.ifmap_ident.specs.Items.{item_order, same_item}
use Rattle.ifmap_lemmas.specs.Having.{filter_has, has_all}
use Rattle.ifmap_lemmas.specs.Rising.{nothing_rises}
use Rattle.ifmap_search.specs.declared.searches.Search.{Search}
use Rattle.ifmap_view.specs.declared.attachments.Attachment.{Attachment}
use Rattle.ifmap_view.specs.Attachments.{IsGraph, attachment_order, stored_order}
use Rattle.ifmap_view.specs.Rows.{stored_on}
use Rattle.ifmap_fresh.specs.Fresh.{is_looked_at}
use Rattle.ifmap_delta.specs.Shown.{shown_on}
use Rattle.ifmap_ident.specs.SameLaws.{same_equal, items_total}

-- on one item, attachments are in the order of what is stored
less_stored : (x : Item) (a b : Attachment) → same_item a.item x ≡ true → same_item b.item x ≡ true → attachment_order a b ≡ Less
    → stored_order a.stored b.stored ≡ Less
less_stored x a b p q l =
    let e : item_order a.item b.item ≡ Equal
    = items_total.congr a.item x b.item (same_equal a.item x p) ∙ items_total.antisymm x b.item
    ∙ ap ordering_reverse (same_equal b.item x q)
    in sym (ap (λ o. ordering_then o (stored_order a.stored b.stored)) e) ∙ l

all_less : (x : Item) (a : Attachment) (bs : List Attachment) → same_item a.item x ≡ true
    → AllByRecursion (λ b. same_item b.item x ≡ true) bs → AllByRecursion (λ b. attachment_order a b ≡ Less) bs
    → AllByRecursion (λ t. stored_order a.stored t ≡ Less) (map (λ r. r.stored) bs)
all_less x a [] p q l = tt
all_less x a (b ∷ bs) p q l = (less_stored x a b p q.0 l.0, all_less x a bs p q.1 l.1)

map_rises : (x : Item) (rs : List Attachment) → AllByRecursion (λ b. same_item b.item x ≡ true) rs
    → IsStrictlySortedBy attachment_order rs → IsStrictlySortedBy stored_order (map (λ r. r.stored) rs)
unfolding IsStrictlySortedBy
map_rises x [] q r = tt
map_rises x (a ∷ bs) q r = (all_less x a bs q.0 q.1 r.0, map_rises x bs q.1 r.1)

pub stored_rises : (rows : List Attachment) (x : Item) → IsGraph rows → IsStrictlySortedBy stored_order (stored_on x rows)
stored_rises rows x graph =
    let on : Attachment → Bool = λ r. same_item r.item x
    in map_rises x (filter on rows) (has_all (λ b. same_item b.item x ≡ true) (filter on rows) (λ b h. (filter_has on rows b h).1))
    (IsStrictlySortedBy-filter attachment_order on rows graph.rising)

pub shown_rises : (rows : List Attachment) (s : Search) (x : Item) → IsGraph rows → IsStrictlySortedBy stored_order (shown_on rows s x)
shown_rises rows s x graph = by (is_looked_at rows s x)
  where
    by : (b : Bool) → IsStrictlySortedBy stored_order (cond b (stored_on x rows) [])
    by true = stored_rises rows x graph
    by false = nothing_rises stored_order
