use Rattle.std.proofs.Common.{◌∷◌, sym, ◌∙◌, ap, length}
use Rattle.std.specs.Prelude.{chars}
use Rattle.std.proofs.lemmas.Str.{chars_past_char}
use Rattle.ifmap_filter.proofs.CharLaws.{no_characters}
use Rattle.ifmap_filter.proofs.lexing.first_character.Goals as goal

pub returns-in-Some-clause-found : goal.returns-in-Some-clause-found
returns-in-Some-clause-found c =
    chars_past_char c.args.text.now c.next.new.self.rest.now c.in-Some.first c.utf8.text
    (sym c.chars-characters.ensures.rest ∙ c.in-Some.ensures.steps.0)
    ∙ ap (λ rest. c.in-Some.first ∷ chars rest) (sym c.as_str.ensures)

pub returns-in-None-clause-none : goal.returns-in-None-clause-none
returns-in-None-clause-none c =
    no_characters c.args.text.now (sym (ap length c.chars-characters.ensures.rest) ∙ c.in-None.ensures.steps.0.0)
