use Rattle.std.proofs.Common.{rules, arith}
use Rattle.std.proofs.lemmas.List.Sorted.{IsNonDecreasingBy-from_sort_by_key, Contains-permutation, IsPermutation-sym}
use Rattle.ifmap_region.proofs.levels.Seeds.sort_seeds.Goals as goal

pub invariant_of-result : goal.invariant_of-result
invariant_of-result c = (
  IsNonDecreasingBy-from_sort_by_key (λ s. s.0) _ c.sort_unstable_by_key.ensures.sorted (λ a r q k. search rules),
  omega arith,
)

pub returns-clause-kept : goal.returns-clause-kept
returns-clause-kept c s h = Contains-permutation _ _ s c.sort_unstable_by_key.ensures.permutation h

pub returns-clause-only : goal.returns-clause-only
returns-clause-only c s h = Contains-permutation _ _ s (IsPermutation-sym _ _ c.sort_unstable_by_key.ensures.permutation) h
