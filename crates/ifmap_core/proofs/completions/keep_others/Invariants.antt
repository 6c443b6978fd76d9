use Rattle.std.proofs.Common.{◌≡◌}
use Rattle.std.specs.Prelude.{vec_capacity, vec_len}
use Rattle.ifmap_lemmas.specs.Keeping.{KeptInPlace}
use Rattle.ifmap_core.proofs.completions.keep_others.Given as goal

abbrev pub invariant-loop-at : goal.invariant-loop-at
invariant-loop-at l = record {
  kept : KeptInPlace l.gone l.initial.standing.items l.standing.items l.count l.at;
  len : vec_len l.standing ≡ vec_len l.initial.standing;
  capacity : vec_capacity l.standing ≡ vec_capacity l.initial.standing;
}
