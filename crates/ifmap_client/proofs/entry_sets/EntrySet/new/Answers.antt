use Rattle.std.proofs.Common.{List, subst, sym}
use Rattle.std.specs.List.Sorted.{IsStrictlySortedBy}
use Rattle.ifmap_folds.specs.Differences.{entry_order}
use Rattle.ifmap_lemmas.specs.Rising.{nothing_rises}
use Rattle.ifmap_search.specs.declared.results.Entry.{Entry}
use Rattle.ifmap_client.proofs.entry_sets.EntrySet.new.Goals as goal

pub invariant_of-result : goal.invariant_of-result
invariant_of-result c = subst (λ (l : List Entry). IsStrictlySortedBy entry_order l) (sym c.new.ensures) (nothing_rises entry_order)
