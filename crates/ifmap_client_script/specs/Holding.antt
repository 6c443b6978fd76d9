-- What a client has in memory, and what it knows by it.
use Rattle.std.specs.Prelude.{ℕ, List, Option}
use Rattle.ifmap_client.specs.Keeping.{Kept, sets_of}
use Rattle.ifmap_client_script.specs.Deeds.{Known, known_with}

-- the session that was begun last, if one was, and names with their sets
pub record Holding : Type 0 where
  pub session : Option (List ℕ)
  pub kept : Kept

abbrev pub known_of : Holding → Known
known_of holding = known_with holding.session (sets_of holding.kept)
