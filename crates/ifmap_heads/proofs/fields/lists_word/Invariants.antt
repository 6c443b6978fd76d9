use Rattle.std.proofs.Common.{◌≡◌, length}
use Rattle.ifmap_heads.specs.Fields.{lists_word}
use Rattle.ifmap_heads.proofs.fields.lists_word.Given as goal

abbrev pub invariant-parts : goal.invariant-parts
invariant-parts l = lists_word l.word l.value ≡ lists_word l.word l.rest

abbrev pub decreases-parts : goal.decreases-parts
decreases-parts l = length l.rest
