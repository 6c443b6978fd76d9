use Rattle.std.proofs.Common.{◌≡◌, ◌++◌, List, length}
use Rattle.httparse.specs.Grammar.{LineEnd, print_blank}
use Rattle.ifmap_heads.proofs.beginnings.after_empty_lines.Given as goal

abbrev pub invariant-lines : goal.invariant-lines
invariant-lines l = (blank : List LineEnd) × (l.bytes ≡ print_blank blank ++ l.rest)

abbrev pub decreases-lines : goal.decreases-lines
decreases-lines l = length l.rest
