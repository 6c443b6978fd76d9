use Rattle.std.proofs.Common.{rules, tests}
use Rattle.std.proofs.lemmas.Iterator.{YieldsList-from_chars}
use Rattle.std.proofs.lemmas.Iterator.Search.{all_from_yields_List}
use Rattle.ifmap_elem.specs.Chars.{is_character}
use Rattle.ifmap_lexer.proofs.CharacterLaws.{tells_characters}
use Rattle.ifmap_lexer.proofs.characters.are_allowed.Goals as goal

pub returns : goal.returns
returns c =
    tells_characters c.args.text.now c.all.result c.utf8.text
    (all_from_yields_List is_character _ _ c.all.result c.all.ensures.ran (YieldsList-from_chars c.args.text.now c.utf8.text cc)
    (λ x b q k. search (rules, tests)))
