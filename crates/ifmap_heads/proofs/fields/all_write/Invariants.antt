use Rattle.std.proofs.Common.{◌≡◌, drop, map}
use Rattle.std.specs.List.{list_all}
use Rattle.httparse.specs.Borrowed.{header_parts}
use Rattle.ifmap_heads.specs.Fields.{values, writes_number}
use Rattle.ifmap_heads.proofs.fields.all_write.Given as goal

abbrev pub invariant-loop-header : goal.invariant-loop-header
invariant-loop-header l =
    list_all (writes_number l.number) (values l.name (map header_parts l.headers))
    ≡ list_all (writes_number l.number) (values l.name (map header_parts (drop l.header-index l.headers)))
