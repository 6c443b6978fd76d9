use Rattle.std.proofs.Common.{◌≡◌, map, take}
use Rattle.std.specs.List.{AllByRecursion}
use Rattle.ifmap_meta.specs.Whole.{IsWhole}
use Rattle.ifmap_publish.specs.Apply.{stored_for}
use Rattle.ifmap_publish.proofs.applying.rows_of_elements.Given as goal

abbrev pub invariant-loop-metadata : goal.invariant-loop-metadata
invariant-loop-metadata l = record {
  rows : l.rows.items ≡ map (stored_for l.author l.life) (take l.metadata-index l.elements);
  whole : AllByRecursion IsWhole l.rows.items;
}
