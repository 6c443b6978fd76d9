-- What holds of a session that is ready to begin.
use Rattle.std.specs.Prelude.{◌≡◌, ℕ, List}
use Rattle.ifmap_session.specs.SessionIds.{session_id}

-- its id has its serial, and both copies of the id and of the client's name are alike
pub record IsReadyToBegin (serial : ℕ) (id told client holder : List ℕ) : Type 0 where
  pub named : (random : ℕ) × (id ≡ session_id serial random)
  pub one_id : told ≡ id
  pub one_client : holder ≡ client
