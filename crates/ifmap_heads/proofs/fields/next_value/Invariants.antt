use Rattle.std.proofs.Common.{◌≡◌, drop, map}
use Rattle.httparse.specs.Borrowed.{header_parts}
use Rattle.ifmap_heads.specs.Fields.{values}
use Rattle.ifmap_heads.proofs.fields.next_value.Given as goal

abbrev pub invariant-loop-i : goal.invariant-loop-i
invariant-loop-i l =
    values l.name (map header_parts l.headers) ≡ values l.name (map header_parts (drop l.i l.headers))
