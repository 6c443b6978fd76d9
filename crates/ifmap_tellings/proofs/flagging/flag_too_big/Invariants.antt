use Rattle.std.proofs.Common.{◌≡◌}
use Rattle.ifmap_lemmas.specs.Flags.{flags_to}
use Rattle.ifmap_tellings.proofs.flagging.flag_too_big.Given as goal

abbrev pub invariant-loop-at : goal.invariant-loop-at
invariant-loop-at l = l.gone.items ≡ flags_to (λ one. one.is_too_big) l.at l.fn.gone.items l.news
