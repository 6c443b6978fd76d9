use Rattle.std.proofs.Common.{◌≡◌, ◌++◌, false, true, ap, length, sym, ◌∙◌, refl, rules, tests}
use Rattle.std.specs.Prelude.{encode_utf8}
use Rattle.std.proofs.lemmas.Iterator.{YieldsList-from_chars}
use Rattle.std.proofs.lemmas.Iterator.Search.{all_from_yields_List}
use Rattle.std.proofs.lemmas.Str.{IsUtf8-past_char}
use Rattle.ifmap_elem.specs.Names.{is_name_character}
use Rattle.ifmap_lexer.proofs.NameLaws.{tells_part, part_begins, no_part_of_none}
use Rattle.ifmap_lexer.proofs.names.is_any_name_part.Goals as goal

pub returns-then-is_name_start : goal.returns-then-is_name_start
returns-then-is_name_start c =
    let rest = c.next.new.self.rest.now in
    let split : c.args.text.now ≡ encode_utf8 c.in-Some.first ++ rest = sym c.chars-characters.ensures.rest ∙ c.in-Some.ensures.steps.0 in
    tells_part c.args.text.now rest c.in-Some.first split c.all.result c.utf8.text (sym c.is_name_start.ensures ∙ c.if-is_name_start.true)
    (all_from_yields_List is_name_character _ _ c.all.result c.all.ensures.ran
    (YieldsList-from_chars rest (IsUtf8-past_char c.args.text.now rest c.in-Some.first c.utf8.text split) refl)
    (λ x b q k. search (rules, tests)))

pub returns-else-is_name_start : goal.returns-else-is_name_start
returns-else-is_name_start c =
    let rest = c.next.new.self.rest.now in
    let split : c.args.text.now ≡ encode_utf8 c.in-Some.first ++ rest = sym c.chars-characters.ensures.rest ∙ c.in-Some.ensures.steps.0 in (
      (λ t. let wrong : true ≡ false = sym t ∙ c.if-is_name_start.false in absurd (cc)),
      (λ p. c.is_name_start.ensures ∙ part_begins c.args.text.now rest c.in-Some.first split p),
    )

pub returns-in-None : goal.returns-in-None
returns-in-None c = (
  (λ t. let wrong : false ≡ true = t in absurd (cc)),
  (λ p. absurd (no_part_of_none c.args.text.now (sym (ap length c.chars-characters.ensures.rest) ∙ c.in-None.ensures.steps.0.0) p)),
)
