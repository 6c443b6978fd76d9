use Rattle.std.proofs.Common.{take}
use Rattle.std.specs.Bool.{OnFalse}
use Rattle.ifmap_elem.specs.Chars.{AllAre}
use Rattle.ifmap_lexer.specs.Common.{is_common}
use Rattle.ifmap_lexer.proofs.characters.are_common.Given as goal

abbrev pub invariant-loop-byte : goal.invariant-loop-byte
invariant-loop-byte l = OnFalse l.uncommon (AllAre is_common (take l.byte-index l.bytes))
