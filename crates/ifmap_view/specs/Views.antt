-- What holds of every view: attachments, the identifiers of numbers, and the links of each number.
use Rattle.std.specs.Prelude.{◌≡◌, ◌≢◌, ℕ, List, [], ◌∷◌, map, Option, Some, Contains, nat_eq}
use Rattle.std.specs.List.{IsDistinct}
use Rattle.ifmap_ident.specs.declared.identifiers.Identifier.{Identifier}
use Rattle.ifmap_ident.specs.declared.items.Item.TheVariants.{One}
use Rattle.ifmap_ident.specs.Canon.{IsIdentifier}
use Rattle.ifmap_view.specs.declared.attachments.Attachment.{Attachment}
use Rattle.ifmap_view.specs.declared.views.LinkSeen.{LinkSeen}
use Rattle.ifmap_view.specs.Attachments.{IsGraph}
use Rattle.ifmap_view.specs.Rows.{stored_between, stored_linked, stored_on}

-- the other ends of links
abbrev pub others : List LinkSeen → List ℕ
others links = map (λ l. l.other) links

-- two numbers have a link: something is stored on the link of their identifiers
abbrev pub IsLink : List Attachment → (ℕ → Option Identifier) → ℕ → ℕ → Type 0
IsLink rows id_at v w = stored_linked (id_at v) (id_at w) rows ≢ []

-- the attachments are a graph; numbers have identifiers that elements are; no identifier has two numbers, and each that
-- an element is and that carries something, alone or on a link, has one; the links of a number name each other number
-- once with which it has a link, and no other
pub record IsView (rows : List Attachment) (id_at : ℕ → Option Identifier) (links : ℕ → List LinkSeen) : Type 0 where
  pub graph : IsGraph rows
  pub canon : (v : ℕ) (a : Identifier) → id_at v ≡ Some a → IsIdentifier a
  pub one_to_one : (v w : ℕ) (a : Identifier) → id_at v ≡ Some a → id_at w ≡ Some a → v ≡ w
  pub alone : (a : Identifier) → IsIdentifier a → stored_on (One a) rows ≢ [] → (v : ℕ) × (id_at v ≡ Some a)
  pub linked : (a b : Identifier) → IsIdentifier b → stored_between a b rows ≢ [] → (w : ℕ) × (id_at w ≡ Some b)
  pub apart : (v : ℕ) → IsDistinct nat_eq (others (links v))
  pub only : (v w : ℕ) → Contains (others (links v)) w → IsLink rows id_at v w
  pub each : (v w : ℕ) → IsLink rows id_at v w → Contains (others (links v)) w
