use Rattle.std.proofs.Common.{◌≡◌, drop}
use Rattle.ifmap_client.specs.Keeping.{sets_of}
use Rattle.ifmap_client.specs.ifmap_folds.Folds.{fold_items}
use Rattle.ifmap_client_script.proofs.clients.take_items.Given as goal

-- the rest folded makes what all folded is to make
abbrev pub invariant-loop-item : goal.invariant-loop-item
invariant-loop-item l = fold_items (drop l.item-index l.items) (sets_of l.sets) ≡ fold_items l.items (sets_of l.fn.sets)
