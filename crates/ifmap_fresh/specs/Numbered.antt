-- The walks of a search over the numbers of a view.
use Rattle.std.specs.Prelude.{◌≡◌, ◌↔◌, ℕ, Bool, List, Option, Some, length, slice_get}
use Rattle.ifmap_ident.specs.declared.identifiers.Identifier.{Identifier}
use Rattle.ifmap_region.specs.Links.{Linked}
use Rattle.ifmap_region.specs.Walks.{HasDepth, Walk}
use Rattle.ifmap_search.specs.declared.searches.Search.{Search}
use Rattle.ifmap_view.specs.declared.attachments.Attachment.{Attachment}
use Rattle.ifmap_view.specs.declared.views.LinkSeen.{LinkSeen}
use Rattle.ifmap_fresh.specs.Linking.{end_where, is_terminal_at}
use Rattle.ifmap_fresh.specs.Matching.{LinksTo, is_terminal}
use Rattle.ifmap_fresh.specs.Walked.{SearchWalk}

module _ (rows : List Attachment) (id_at : ℕ → Option Identifier) (links : ℕ → List LinkSeen) (s : Search) where
  -- a number has a link with another that matches
  abbrev pub HaveMatchingLink : ℕ → ℕ → Type 0
  HaveMatchingLink = Linked (λ v. length (links v)) (λ v i. end_where rows id_at s.match_links v (slice_get (links v) i))

  -- no walk goes on from the number
  abbrev pub is_terminal_number : ℕ → Bool
  is_terminal_number v = is_terminal_at s.terminal (id_at v)

  -- a walk of so many links from a number ends in another
  abbrev pub NumberWalk : ℕ → ℕ → ℕ → Type 0
  NumberWalk start k v = Walk HaveMatchingLink is_terminal_number start k v

  -- walks over numbers are walks over their identifiers, of as many links: each number in which one ends has an
  -- identifier, and each identifier in which one ends has a number; so both have one depth
  pub record KeepsWalks (start : ℕ) : Type 0 where
    pub identified : (k v : ℕ) → NumberWalk start k v → (a : Identifier) × (id_at v ≡ Some a)
    pub numbered : (k : ℕ) (a : Identifier) → SearchWalk rows s k a → (v : ℕ) × (id_at v ≡ Some a)
    pub walks : (k v : ℕ) (a : Identifier) → id_at v ≡ Some a → NumberWalk start k v ↔ SearchWalk rows s k a
    pub depths : (top k v : ℕ) (a : Identifier) → id_at v ≡ Some a
        → HasDepth HaveMatchingLink is_terminal_number start top v k
        ↔ HasDepth (LinksTo rows s.match_links) (is_terminal s.terminal) s.start top a k
