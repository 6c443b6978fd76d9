use Rattle.std.proofs.Common.{◌≡◌, take}
use Rattle.std.specs.List.{flat_map}
use Rattle.ifmap_meta.specs.KeyWords.{attribute_parts, mix_all}
use Rattle.ifmap_meta.specs.Stamps.{without_stamps}
use Rattle.ifmap_meta.proofs.key_words.mix_content.Given as goal

abbrev pub invariant-loop-attribute : goal.invariant-loop-attribute
invariant-loop-attribute l = l.mixed ≡ mix_all l.word (flat_map attribute_parts (without_stamps (take l.attribute-index l.attributes)))
