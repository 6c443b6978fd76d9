use Rattle.std.proofs.Common.{◌≡◌, drop, map}
use Rattle.std.specs.List.{list_all}
use Rattle.std.specs.Str.{bytes_eq}
use Rattle.httparse.specs.Borrowed.{header_parts}
use Rattle.ifmap_heads.specs.Fields.{values}
use Rattle.ifmap_heads.proofs.fields.has_only_value.Given as goal

abbrev pub invariant-loop-header : goal.invariant-loop-header
invariant-loop-header l =
    list_all (λ v. bytes_eq v l.value) (values l.name (map header_parts l.headers))
    ≡ list_all (λ v. bytes_eq v l.value) (values l.name (map header_parts (drop l.header-index l.headers)))
