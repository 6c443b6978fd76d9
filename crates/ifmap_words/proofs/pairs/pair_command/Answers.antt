use Rattle.std.proofs.Common.{rules, ◌≡◌, ◌∙◌, true, ap, ap₂}
use Rattle.std.proofs.lemmas.Result.{IfOk-weaker}
use Rattle.clap.specs.Walk.{rule_of}
use Rattle.clap.specs.Simple.{App, app_of, app_of_fields, new_app, with_rule}
use Rattle.ifmap_words.specs.Pairs.{first_id, required_rule, second_id}
use Rattle.ifmap_words.proofs.pairs.pair_command.Goals as goal

pub returns-clause-app : goal.returns-clause-app
returns-clause-app c =
    let first_is : rule_of c.required.result ≡ required_rule first_id = search rules in
    let second_is : rule_of c.required-2.result ≡ required_rule second_id = search rules in
    let unnamed : app_of c.no_binary_name.result
    ≡ record (new_app c.args.name.now) { top = record (new_app c.args.name.now).top { no_binary_name = true } } =
    ap app_of_fields c.no_binary_name.ensures
    ∙ ap (λ (a : App). record a { top = record a.top { no_binary_name = true } }) c.new.ensures.app in
    let helpless = ap app_of_fields c.disable_help_flag.ensures
    ∙ ap (λ (a : App). record a { top = record a.top { disable_help_flag = true } }) unnamed in
    let one = c.in_ok-arg.ensures.shape (search rules) ∙ ap₂ with_rule helpless first_is in
    IfOk-weaker c.arg-2.result _ _ (λ command added. added.shape (search rules) ∙ ap₂ with_rule one second_is) c.arg-2.ensures
