use Rattle.std.proofs.Common.{◌≡◌, ◌++◌, take}
use Rattle.std.specs.Prelude.{codes, string_bytes}
use Rattle.std.specs.List.{flat_map}
use Rattle.ifmap_ident.specs.Kinds.{kind_name}
use Rattle.ifmap_writing.proofs.attributes.kinds_text.Given as goal

abbrev pub invariant-loop-kind : goal.invariant-loop-kind
invariant-loop-kind l =
    string_bytes l.text ≡ kind_name l.fn.first ++ flat_map (λ kind. codes "," ++ kind_name kind) (take l.kind-index l.others)
