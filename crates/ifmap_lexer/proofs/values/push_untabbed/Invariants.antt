use Rattle.std.proofs.Common.{◌≡◌, ◌++◌, length, map, string_bytes}
use denote.Text.{Utf8}
use denote.Shadow.{shadow}
use Rattle.ifmap_elem.specs.Chars.{AllAre, line_feed}
use Rattle.ifmap_elem.specs.Values.{as_space}
use Rattle.ifmap_lexer.specs.Cutting.{is_but}
use Rattle.ifmap_lexer.proofs.values.push_untabbed.Given as goal

abbrev pub invariant-loop-front : goal.invariant-loop-front
invariant-loop-front l = shadow (Utf8 l.rest) × AllAre (is_but line_feed) l.rest
    × (string_bytes l.text ++ map as_space l.rest ≡ string_bytes l.initial.text ++ map as_space l.line)

abbrev pub decreases-loop-front : goal.decreases-loop-front
decreases-loop-front l = length l.rest
