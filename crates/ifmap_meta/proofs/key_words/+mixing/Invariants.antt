use Rattle.std.proofs.Common.{◌≡◌, take}
use Rattle.std.specs.List.{flat_map}
use Rattle.ifmap_meta.specs.KeyWords.{parts_of_child, mix_all}
use Rattle.ifmap_meta.proofs.key_words.+mixing.Given as goal

abbrev pub invariant-mix_children-loop-child : goal.invariant-mix_children-loop-child
invariant-mix_children-loop-child l = l.mixed ≡ mix_all l.word (flat_map parts_of_child (take l.child-index l.children))
