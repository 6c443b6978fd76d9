use Rattle.std.proofs.Common.{arith}
use Rattle.std.proofs.lemmas.Bool.{eq-eqb}
use Rattle.ifmap_core.proofs.Holds.{empty_size, size_empty}
use Rattle.ifmap_core.proofs.empty_polls.is_queue_empty.Goals as goal
use Rattle.ifmap_lemmas.specs.Numbers.{equal_numbers}

pub returns : goal.returns
returns c = λ s found.
    let size = (c.queue_size.ensures s found).0 in (
      (λ yes. size_empty s.queue c.queue_size.result.0 size (equal_numbers c.queue_size.result.0 0 yes)),
      (λ none. let nothing = empty_size s.queue none in eq-eqb c.queue_size.result.0 0 (omega (arith, size, nothing))),
    )
