use Rattle.std.proofs.Common.{◌≡◌, ◌++◌, length, string_bytes}
use denote.Text.{Utf8}
use denote.Shadow.{shadow}
use Rattle.ifmap_elem.specs.Values.{Plain}
use Rattle.ifmap_lexer.specs.Runs.{part_in}
use Rattle.ifmap_lexer.proofs.values.push_run.Given as goal

abbrev pub invariant-loop-line : goal.invariant-loop-line
invariant-loop-line l =
    shadow (Utf8 l.rest)
    × (string_bytes l.text ++ part_in l.place (Plain l.rest) ≡ string_bytes l.initial.text ++ part_in l.place (Plain l.run))

abbrev pub decreases-loop-line : goal.decreases-loop-line
decreases-loop-line l = length l.rest
