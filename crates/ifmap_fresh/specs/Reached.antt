-- Which identifiers a search reaches and which it expands, level by level.
use Rattle.std.specs.Prelude.{ℕ, Bool, false, not, ◌&&◌, List, [], ◌∷◌, ◌++◌, if◌then◌else◌}
use Rattle.std.proofs.Common.{zero, suc}
use Rattle.std.specs.List.{filter, flat_map, list_any}
use Rattle.ifmap_ident.specs.declared.identifiers.Identifier.{Identifier}
use Rattle.ifmap_ident.specs.Identifiers.{same_identifier}
use Rattle.ifmap_ident.specs.Items.{identifiers_of}
use Rattle.ifmap_search.specs.declared.searches.Search.{Search}
use Rattle.ifmap_view.specs.declared.attachments.Attachment.{Attachment}
use Rattle.ifmap_fresh.specs.Matching.{is_match, is_terminal}

-- the identifiers that stand in items with attachments
abbrev pub identifiers_in : List Attachment → List Identifier
identifiers_in rows = flat_map (λ r. identifiers_of r.item) rows

module _ (rows : List Attachment) (s : Search) where
  -- the identifiers that walks lead to by one link more from this one
  abbrev pub next_to : Identifier → List Identifier
  next_to a = if is_terminal s.terminal a then [] else filter (is_match rows s.match_links a) (identifiers_in rows)

  -- the identifiers that walks of at most so many links end in
  abbrev pub ends_within : ℕ → List Identifier
  ends_within zero = s.start ∷ []
  ends_within (suc n) = ends_within n ++ flat_map next_to (ends_within n)

  abbrev pub is_within : ℕ → Identifier → Bool
  is_within n a = list_any (same_identifier a) (ends_within n)

  -- a walk ends in the identifier
  abbrev pub is_reached : Identifier → Bool
  is_reached a = is_within s.max_depth a

  -- of fewer than so many links
  abbrev pub is_below : ℕ → Identifier → Bool
  is_below zero a = false
  is_below (suc n) a = is_within n a

  -- a walk may go on from the identifier
  abbrev pub is_expanded : Identifier → Bool
  is_expanded a = not (is_terminal s.terminal a) && is_below s.max_depth a
