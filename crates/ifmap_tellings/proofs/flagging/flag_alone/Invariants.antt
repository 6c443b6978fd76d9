use Rattle.std.proofs.Common.{◌≡◌}
use Rattle.std.specs.BTreeMap.{get}
use Rattle.std.specs.Ordering.{nat_cmp}
use Rattle.ifmap_lemmas.specs.Flags.{flags_to}
use Rattle.ifmap_tellings.specs.Tellings.{is_alone}
use Rattle.ifmap_tellings.proofs.flagging.flag_alone.Given as goal

abbrev pub invariant-loop-at : goal.invariant-loop-at
invariant-loop-at l =
    l.gone.items ≡ flags_to (λ x. is_alone (get nat_cmp l.tellings x.serial)) l.at l.fn.gone.items l.standing
