use Rattle.std.proofs.Common.{take}
use Rattle.std.specs.Bool.{OnFalse}
use Rattle.ifmap_elem.specs.Chars.{AllAre}
use Rattle.ifmap_lexer.specs.Common.{is_verbatim}
use Rattle.ifmap_lexer.proofs.values.are_verbatim.Given as goal

abbrev pub invariant-loop-byte : goal.invariant-loop-byte
invariant-loop-byte l = OnFalse l.other (AllAre is_verbatim (take l.byte-index l.bytes))
