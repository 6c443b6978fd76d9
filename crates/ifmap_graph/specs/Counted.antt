-- How many identifiers are such, and how many links carry something.
use Rattle.std.specs.Prelude.{◌≡◌, ℕ, ◌+◌, Bool, true, false, List, [], ◌∷◌, length, if◌then◌else◌}
use Rattle.std.specs.List.{IsDistinct, filter}
use Rattle.ifmap_lemmas.specs.Having.{Has}
use Rattle.ifmap_ident.specs.declared.identifiers.Identifier.{Identifier}
use Rattle.ifmap_ident.specs.declared.items.Item.{Item}
use Rattle.ifmap_ident.specs.declared.items.Item.TheVariants.{One, Pair}
use Rattle.ifmap_ident.specs.Identifiers.{same_identifier}
use Rattle.ifmap_meta.specs.declared.stored.Stored.{Stored}
use Rattle.ifmap_plans.specs.After.{items_of}
use Rattle.ifmap_view.specs.declared.attachments.Attachment.{Attachment}
use Rattle.ifmap_graph.specs.Joined.{is_not_empty}

-- so many identifiers are such: a list has each of them once, and no other
abbrev pub AreSoMany : ℕ → (Identifier → Type 0) → Type 0
AreSoMany n P =
    (ids : List Identifier) × IsDistinct same_identifier ids × (length ids ≡ n)
    × ((a : Identifier) → (Has ids a → P a) × (P a → Has ids a))

-- the item is a link
abbrev pub is_link : Item → Bool
is_link (One a) = false
is_link (Pair a b) = true

-- how many links carry an attachment
abbrev pub count_links : List Attachment → ℕ
count_links rows = length (filter is_link (items_of rows))

-- one, where the item is a link that has something on it
abbrev pub link_once : Item → List Stored → ℕ
link_once (One a) xs = 0
link_once (Pair a b) xs = if is_not_empty xs then 1 else 0

-- how many entries are of such links
abbrev pub links_among : {X : Type 0} → (X → List Stored) → List (Item × X) → ℕ
links_among list_of [] = 0
links_among list_of (e ∷ es) = link_once e.0 (list_of e.1) + links_among list_of es
