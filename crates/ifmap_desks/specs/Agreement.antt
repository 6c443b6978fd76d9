-- What the clients of a hall fold of all that their polls were told.
use Rattle.std.specs.Prelude.{◌≡◌, ℕ, List}
use Rattle.ifmap_desks.specs.Calls.{calls_from}
use Rattle.ifmap_desks.specs.Machines.{CoreView, core_next}
use Rattle.ifmap_dialogue.specs.Desks.{Call}
use Rattle.ifmap_hall.specs.Views.{sight_by}
use Rattle.ifmap_dialogue.specs.ifmap_machine.Agreeing.{Agrees}
use Rattle.ifmap_dialogue.specs.ifmap_machine.Since.{AgreesFrom}
use Rattle.ifmap_dialogue.specs.ifmap_machine.State.{opening_state}

-- all calls of the hall's machine that the pass has seen, from the opening state on
abbrev pub calls_in : CoreView → List Call
calls_in v = calls_from v.terms.opening.value.core v.history.log

-- where the hall began with a core in an opening state, its clients agree: after each poll among these calls that is told something or
-- held, what its client folds of all that it was told since is, for each subscription that the session keeps, the fresh result of its
-- search
abbrev pub ClientsAgree : CoreView → Type 0
ClientsAgree v =
    (ttl : ℕ) → v.terms.opening.value.core ≡ opening_state ttl → Agrees ttl (calls_in v)

-- the same can be seen in the base of a pass and the entries after it alone: at each poll among these entries that is told something or
-- held, for each subscription that its session keeps then, what the client folds of these entries is the fresh result of its search,
-- where an accepted update of it is one of them; and where an earlier poll of the session is one of them, what was told since, folded
-- onto the fresh result there, is the fresh result
abbrev pub EntriesAgree : CoreView → Type 0
EntriesAgree v =
    (ttl : ℕ) → v.terms.opening.value.core ≡ opening_state ttl
    → AgreesFrom (sight_by core_next v).base.core (calls_from (sight_by core_next v).base.core (sight_by core_next v).seen)
