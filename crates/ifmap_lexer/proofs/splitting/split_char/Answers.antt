use Rattle.std.proofs.lemmas.Str.Pattern.{split_parts}
use Rattle.ifmap_lexer.proofs.SplitLaws.{char_found, char_none}
use Rattle.ifmap_lexer.proofs.splitting.split_char.Goals as goal

pub returns-clause-found : goal.returns-clause-found
returns-clause-found c =
    char_found c.args.character c.args.text.now c.split_once.result
    (split_parts c.args.character c.args.text.now c.split_once.result c.split_once.ensures.cases c.requires)

pub returns-clause-none : goal.returns-clause-none
returns-clause-none c =
    char_none c.args.character c.args.text.now c.split_once.result
    (split_parts c.args.character c.args.text.now c.split_once.result c.split_once.ensures.cases c.requires)
