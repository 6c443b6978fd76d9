use Rattle.std.proofs.Common.{◌≡◌, Some, subst, sym}
use Rattle.ifmap_standing.specs.ifmap_machine.Telling.{overflow_session}
use Rattle.ifmap_tellings.specs.Tellings.{IsSized, tell_if}
use Rattle.ifmap_tellings.proofs.OverflowLaws.{alone_stays}
use Rattle.ifmap_tellings.proofs.overflowing.overflow.Goals as goal

pub returns-in-Alone-clause-told : goal.returns-in-Alone-clause-told
returns-in-Alone-clause-told c = λ n live s sized found own wide.
    subst (λ t. tell_if (Some t) s ≡ overflow_session (tell_if (Some t) s)) (sym c.in-Alone.is)
    (alone_stays n c.args.limit live s own c.in-Alone.field-0 (subst (λ t. IsSized n t live) c.in-Alone.is sized) wide)
