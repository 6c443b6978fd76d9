use Rattle.ifmap_machine.specs.State.{opening_state}
use Rattle.ifmap_machine.proofs.Standing.{stood_after, stood_none}
use Rattle.ifmap_machine.proofs.laws.subscriptions_are_apart.Goals as goal

pub returns-clause-rising : goal.returns-clause-rising
returns-clause-rising c = λ ttl history. (stood_after (opening_state ttl) history stood_none).rising

pub returns-clause-few : goal.returns-clause-few
returns-clause-few c = λ ttl history serial. (stood_after (opening_state ttl) history stood_none).few serial
