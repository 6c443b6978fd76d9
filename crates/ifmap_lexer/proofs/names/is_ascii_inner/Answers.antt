use Rattle.std.proofs.Common.{refl, arith}
use Rattle.ifmap_lexer.specs.Names.{stands_in_ascii}
use Rattle.ifmap_lexer.specs.declared.names.TheConstants.{PART_BYTES}
use Rattle.ifmap_lexer.proofs.Tables.{agree_below, from_table}
use Rattle.ifmap_lexer.proofs.names.is_ascii_inner.Goals as goal

pub returns : goal.returns
unfolding agree_below
returns c = from_table PART_BYTES stands_in_ascii c.args.byte (omega arith) refl
