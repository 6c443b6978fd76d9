use Rattle.std.proofs.Common.{◌≡◌, ◌++◌, take}
use Rattle.std.specs.List.{flat_map}
use Rattle.ifmap_elem.specs.Canonical.{declaration_bytes}
use Rattle.ifmap_elem.specs.Namespaces.{numbered_prefixes}
use Rattle.ifmap_elem.proofs.KeyLaws.{bytes_of}
use Rattle.ifmap_elem.proofs.printing.write_declarations.Given as goal

abbrev pub invariant-loop-space : goal.invariant-loop-space
invariant-loop-space l =
    (l.count ≡ l.space-index)
    × (l.out.items ≡ l.initial.out.items ++ flat_map declaration_bytes (numbered_prefixes l.letter 1 (take
    l.space-index (bytes_of l.spaces))))
