-- A link as contracts see it: a source and a sink in one object.
use Rattle.std.specs.Prelude.{ℕ, List, Option, None}

-- one side of a link: the bytes that it has left or holds, where they are told, and its count of faults
pub record LinkSide : Type 0 where
  pub bytes : Option (List ℕ)
  pub faults : ℕ

-- the side that an object does not have
abbrev pub no_side : LinkSide
no_side = record { bytes = None; faults = 0 }

-- a link: what it has left, what it holds, and its counts of reading and of writing
pub record Seen : Type 0 where
  pub left : Option (List ℕ)
  pub held : Option (List ℕ)
  pub read_faults : ℕ
  pub write_faults : ℕ

-- a link by its four meanings
abbrev pub wire_link_seen : {L : Type 0} → (L → Option (List ℕ)) → (L → Option (List ℕ)) → (L → ℕ) → (L → ℕ) → L → Seen
wire_link_seen left held reading writing link =
    record { left = left link; held = held link; read_faults = reading link; write_faults = writing link }
