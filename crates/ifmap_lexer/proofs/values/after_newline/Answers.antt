use Rattle.std.proofs.Common.{None, refl, lit<}
use Rattle.std.proofs.lemmas.Str.Pattern.{strip_prefix_char}
use Rattle.ifmap_lexer.proofs.RunLaws.{no_newline}
use Rattle.ifmap_lexer.proofs.values.after_newline.Goals as goal
use Rattle.ifmap_elem.specs.Chars.{line_feed}

pub returns-in-None-clause-line : goal.returns-in-None-clause-line
returns-in-None-clause-line c =
    rw (no_newline c.args.text.now (strip_prefix_char line_feed c.args.text.now None c.in-None.ensures.cases (lit< tt))) refl
