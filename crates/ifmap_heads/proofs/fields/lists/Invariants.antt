use Rattle.std.proofs.Common.{◌≡◌, drop, map}
use Rattle.std.specs.List.{list_any}
use Rattle.httparse.specs.Borrowed.{header_parts}
use Rattle.ifmap_heads.specs.Fields.{lists_word, values}
use Rattle.ifmap_heads.proofs.fields.lists.Given as goal

abbrev pub invariant-loop-header : goal.invariant-loop-header
invariant-loop-header l =
    list_any (lists_word l.word) (values l.name (map header_parts l.headers))
    ≡ list_any (lists_word l.word) (values l.name (map header_parts (drop l.header-index l.headers)))
