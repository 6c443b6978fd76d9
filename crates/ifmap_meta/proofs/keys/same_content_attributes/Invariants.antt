use Rattle.std.proofs.Common.{◌≡◌, ◌↔◌, drop}
use Rattle.ifmap_meta.specs.Stamps.{without_stamps}
use Rattle.ifmap_meta.proofs.keys.same_content_attributes.Given as goal

-- both contents are the same exactly where what is left of both is
abbrev pub invariant-loop-attribute : goal.invariant-loop-attribute
invariant-loop-attribute l = (without_stamps l.fn.one ≡ without_stamps l.fn.other)
    ↔ (without_stamps (drop l.attribute-index l.one) ≡ without_stamps l.rest)
