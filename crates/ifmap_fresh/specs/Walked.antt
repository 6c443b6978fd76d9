-- The walks of a search, and which identifiers it expands by them.
use Rattle.std.specs.Prelude.{◌≡◌, ◌<◌, ℕ, false, List}
use Rattle.ifmap_ident.specs.declared.identifiers.Identifier.{Identifier}
use Rattle.ifmap_region.specs.Walks.{Walk}
use Rattle.ifmap_search.specs.declared.searches.Search.{Search}
use Rattle.ifmap_view.specs.declared.attachments.Attachment.{Attachment}
use Rattle.ifmap_fresh.specs.Matching.{LinksTo, is_terminal}

-- a walk of the search of so many links ends in the identifier
abbrev pub SearchWalk : List Attachment → Search → ℕ → Identifier → Type 0
SearchWalk rows s k a = Walk (LinksTo rows s.match_links) (is_terminal s.terminal) s.start k a

-- the identifier is not of a terminal kind, and a walk of fewer links than the most ends in it
abbrev pub IsExpanded : List Attachment → Search → Identifier → Type 0
IsExpanded rows s a =
    (is_terminal s.terminal a ≡ false) × ((k : ℕ) × (k < s.max_depth) × SearchWalk rows s k a)
