-- What a door has, and what its two calls do to it.
use Rattle.std.specs.Prelude.{◌≡◌, ℕ, ◌-◌, List, [], ◌∷◌, ◌++◌, ⊤, Option, None, Some, Result, MatchResult, if◌then◌else◌, ◌==◌}
use Rattle.ifmap_io.specs.Links.{Seen}

-- a door: the links that it has left, the links that came back, and its room for more of these
pub record Doorway : Type 0 where
  pub left : List Seen
  pub back : List Seen
  pub room : ℕ

-- what a door tells stays as it was
abbrev pub StaysOpen : Option Doorway → Option Doorway → Type 0
StaysOpen None new = ⊤
StaysOpen (Some door) None = ⊥
StaysOpen (Some door) (Some after) = after ≡ door

-- nothing where no link is left, and else the first link that is left, which leaves; the rest stays
abbrev pub HandsOut : Doorway → Doorway → Option Seen → Type 0
HandsOut door after None = (door.left ≡ []) × (after ≡ door)
HandsOut door after (Some link) =
    (door.left ≡ link ∷ after.left) × (after.back ≡ door.back) × (after.room ≡ door.room)

-- the same of a door that tells
abbrev pub Hands : Option Doorway → Option Doorway → Option Seen → Type 0
Hands None new link = ⊤
Hands (Some door) None link = ⊥
Hands (Some door) (Some after) link = HandsOut door after link

-- a link as contracts see it, where there is one
abbrev pub seen_in : {L : Type 0} → (L → Seen) → Option L → Option Seen
seen_in see None = None
seen_in see (Some link) = Some (see link)

-- `accept` hands out the first link that is left, and where it fails it changes nothing
abbrev pub Accepts : {L E : Type 0} → (L → Seen) → Option Doorway → Option Doorway → Result (Option L) E → Type 0
Accepts see old new result = MatchResult result (λ link. Hands old new (seen_in see link)) (λ _. StaysOpen old new)

-- a door with one more link last among those that came back, where there is room for it
abbrev pub take_back : Doorway → Seen → Doorway
take_back door link =
    if door.room == 0 then door
    else record { left = door.left; back = door.back ++ link ∷ []; room = door.room - 1 }

-- `ended` takes the link back
abbrev pub TakesBack : Option Doorway → Option Doorway → Seen → Type 0
TakesBack None new link = ⊤
TakesBack (Some door) None link = ⊥
TakesBack (Some door) (Some after) link = after ≡ take_back door link
