use Rattle.std.proofs.Common.{length, string_bytes}
use denote.Text.{Utf8}
use denote.Shadow.{shadow}
use Rattle.ifmap_lexer.proofs.ExpansionLaws.{Along}
use Rattle.ifmap_lexer.proofs.values.expand.Given as goal

abbrev pub invariant-loop-run : goal.invariant-loop-run
invariant-loop-run l = shadow (Utf8 l.rest) × Along l.place l.written (string_bytes l.text) l.rest

abbrev pub decreases-loop-run : goal.decreases-loop-run
decreases-loop-run l = length l.rest
