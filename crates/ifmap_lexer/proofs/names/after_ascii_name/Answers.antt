use Rattle.ifmap_lexer.proofs.EndLaws.{both_named_if}
use Rattle.ifmap_lexer.proofs.names.after_ascii_name.Goals as goal

pub returns : goal.returns
returns c =
    both_named_if c.after_ascii_part-3.result c.args.prefix.now c.args.local.now c.args.bytes.now c.in_ok-after_prefix.after_prefix.now
    c.in_ok-after_colon.after_colon.now c.in_ok-after_prefix.ensures.0 c.in_ok-after_prefix.ensures.1 c.in_ok-after_colon.ensures.found
    c.after_ascii_part-3.ensures
