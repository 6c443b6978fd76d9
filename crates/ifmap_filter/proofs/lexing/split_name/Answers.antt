use Rattle.std.proofs.Common.{refl, rules, tests}
use Rattle.std.proofs.lemmas.List.Sorted.{answers_always}
use Rattle.std.specs.Prelude.{not}
use Rattle.ifmap_elem.specs.Names.{is_name_character}
use Rattle.ifmap_filter.proofs.CharLaws.{cuts_all, cuts_from}
use Rattle.ifmap_filter.proofs.lexing.split_name.Goals as goal

pub returns-in-Some : goal.returns-in-Some
returns-in-Some c =
    let found = c.in-Some.ensures.cases.1 (λ x. not (is_name_character x)) (answers_always _ _ _ (λ f a r q k. search (rules, tests))) in
    cuts_from is_name_character (λ x. not (is_name_character x)) (λ x. refl) c.args.text.now c.in-Some.place c.in-Some.ensures.cases.0
    c.split_at.result.0.now c.split_at.result.1.now
    c.utf8.text c.in-Some.ensures.cases.3 found c.split_at.ensures.front c.split_at.ensures.back

pub returns-in-None : goal.returns-in-None
returns-in-None c =
    cuts_all is_name_character (λ x. not (is_name_character x)) (λ x. refl) c.args.text.now c.utf8.text
    (c.in-None.ensures.cases (λ x. not (is_name_character x)) (answers_always _ _ _ (λ f a r q k. search (rules, tests))))
