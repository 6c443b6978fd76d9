use Rattle.std.proofs.Common.{refl, arith}
use Rattle.ifmap_elem.specs.laws.NameBytes.{is_name_byte}
use Rattle.ifmap_lexer.specs.declared.names.TheConstants.{NAME_BYTES}
use Rattle.ifmap_lexer.proofs.Tables.{agree_below, from_table}
use Rattle.ifmap_lexer.proofs.names.may_be_named.Goals as goal

pub returns : goal.returns
unfolding agree_below
returns c = from_table NAME_BYTES is_name_byte c.args.byte (omega arith) refl
