-- What a desk knows of its pass at the end of its work.
use Rattle.std.proofs.Common.{◌≡◌, ℕ, ◌<◌, Some, subst, arith}
use Rattle.rand_chacha.specs.ChaCha.{ChaCha}
use Rattle.ifmap_desks.specs.Machines.{CoreView}
use Rattle.ifmap_desks.specs.ifmap_dialogue.Desks.{CountsOn, CountRises}
use Rattle.ifmap_serving.specs.Stands.{ServerHall, WorksBy}
use Rattle.ifmap_serving.specs.Works.{DoorSeen}

-- the same of a pass that is seen as the desk's is
pub works_as : (gives : ℕ → Type 0) (hall : ServerHall) (words : ChaCha) (v w : CoreView) (door left : DoorSeen) (status : ℕ) → v ≡ w
    → WorksBy gives hall words v door left status → WorksBy gives hall words w door left status
works_as gives hall words v w door left status is works = subst (λ (x : CoreView). WorksBy gives hall words x door left status) is works

-- a pass that had taken no turn has taken so many
pub turns_are : (before after many : ℕ) → CountsOn (Some before) (Some after) many → before ≡ 0 → after ≡ many
turns_are before after many (former, was, is) none = let same : before ≡ former = cc was in omega (arith, none, same, is)

-- a count that was 0 has risen
pub some_spent : (many before after : ℕ) → CountRises many before after → before ≡ 0 → 0 < many → 0 < after
some_spent many before after rises none some = omega (arith, rises.least, none, some)
