-- The result of a search.
use Rattle.std.specs.Prelude.{◌≡◌, ℕ, ◌<◌, ◌≤◌, Bool, ◌&&◌, ◌||◌, List, map, Result, Ok, Err}
use Rattle.std.specs.List.{filter}
use Rattle.ifmap_search.specs.ifmap_filter.Meets.{meets_optional}
use Rattle.ifmap_ident.specs.declared.items.Item.{Item}
use Rattle.ifmap_ident.specs.declared.items.Item.TheVariants.{One, Pair}
use Rattle.ifmap_search.specs.declared.results.Entry.{Entry}
use Rattle.ifmap_search.specs.declared.results.Found.{Found}
use Rattle.ifmap_search.specs.declared.results.SearchError.{SearchError}
use Rattle.ifmap_search.specs.declared.results.SearchError.TheVariants.{TooBig, NoMemory}
use Rattle.ifmap_search.specs.declared.searches.Search.{Search}
use Rattle.ifmap_search.specs.Sizes.{entries_size}
use Rattle.ifmap_view.specs.declared.attachments.Attachment.{Attachment}
use Rattle.ifmap_fresh.specs.Matching.{is_match}
use Rattle.ifmap_fresh.specs.Reached.{is_expanded, is_reached}

module _ (rows : List Attachment) (s : Search) where
  -- the search looks at the item: a reached identifier, or a matching link of which an end is expanded
  abbrev pub is_looked_at : Item → Bool
  is_looked_at (One a) = is_reached rows s a
  is_looked_at (Pair a b) = is_match rows s.match_links a b && (is_expanded rows s a || is_expanded rows s b)

  -- the attachment is in the result
  abbrev pub is_found : Attachment → Bool
  is_found r = is_looked_at r.item && meets_optional s.result_filter r.stored.element

  -- the result, in the order of the attachments
  abbrev pub fresh : List Entry
  fresh = map (λ r. record { item = r.item; element = r.stored.element }) (filter is_found rows)

  -- its size
  abbrev pub fresh_size : ℕ
  fresh_size = entries_size fresh

  -- what a search is answered: the result with its size, or the size where it is greater than the search allows
  abbrev pub IsSearchAnswer : Result Found SearchError → Type 0
  IsSearchAnswer (Ok found) = (found.entries ≡ fresh) × (found.size ≡ fresh_size) × (fresh_size ≤ s.max_size)
  IsSearchAnswer (Err (TooBig size)) = (size ≡ fresh_size) × (s.max_size < fresh_size)
  IsSearchAnswer (Err NoMemory) = Unit {0}
