-- The links of a view that a search goes along, by numbers.
use Rattle.std.specs.Prelude.{◌≡◌, ℕ, Bool, false, List, Option, Some, None, if◌then◌else◌}
use Rattle.ifmap_search.specs.ifmap_filter.declared.filters.Filter.{Filter}
use Rattle.ifmap_ident.specs.declared.identifiers.Identifier.{Identifier}
use Rattle.ifmap_ident.specs.declared.kinds.Kind.{Kind}
use Rattle.ifmap_region.specs.Walks.{IsReached}
use Rattle.ifmap_search.specs.declared.searches.Search.{Search}
use Rattle.ifmap_view.specs.declared.attachments.Attachment.{Attachment}
use Rattle.ifmap_view.specs.declared.views.LinkSeen.{LinkSeen}
use Rattle.ifmap_view.specs.Rows.{stored_linked}
use Rattle.ifmap_fresh.specs.Matching.{LinksTo, is_terminal, one_meets}

-- the other end of a link of a number, where it matches
abbrev pub end_where : List Attachment → (ℕ → Option Identifier) → Option Filter → ℕ → Option LinkSeen → Option ℕ
end_where rows id_at filter v None = None
end_where rows id_at filter v (Some seen) = if one_meets filter
    (stored_linked (id_at v) (id_at seen.other) rows) then Some seen.other else None

-- no walk goes on from the identifier of a number
abbrev pub is_terminal_at : List Kind → Option Identifier → Bool
is_terminal_at kinds None = false
is_terminal_at kinds (Some a) = is_terminal kinds a

-- a walk of the search ends in the identifier of the number
abbrev pub IsReachedAt : List Attachment → (ℕ → Option Identifier) → Search → ℕ → Type 0
IsReachedAt rows id_at s v =
    (a : Identifier) × (id_at v ≡ Some a) × IsReached (LinksTo rows s.match_links) (is_terminal s.terminal) s.start s.max_depth a
