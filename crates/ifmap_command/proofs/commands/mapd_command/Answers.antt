use Rattle.std.proofs.Common.{◌∙◌, true, ap, ap₂}
use Rattle.std.proofs.lemmas.Result.{IfOk-weaker}
use Rattle.clap.specs.Simple.{App, app_of_fields, with_subcommand}
use Rattle.ifmap_command.proofs.commands.mapd_command.Goals as goal

pub returns : goal.returns
returns c =
    let unnamed = ap app_of_fields c.no_binary_name.ensures
    ∙ ap (λ (a : App). record a { top = record a.top { no_binary_name = true } }) c.new.ensures.app in
    let helpless = ap app_of_fields c.disable_help_flag.ensures
    ∙ ap (λ (a : App). record a { top = record a.top { disable_help_flag = true } }) unnamed in
    let alone = ap app_of_fields c.disable_help_subcommand.ensures
    ∙ ap (λ (a : App). record a { top = record a.top { disable_help_subcommand = true } }) helpless in
    let strict = ap app_of_fields c.subcommand_required.ensures
    ∙ ap (λ (a : App). record a { top = record a.top { subcommand_required = true } }) alone in
    let one = c.in_ok-subcommand.ensures.shape c.new-2.ensures.local
    ∙ ap₂ with_subcommand strict (ap (λ (a : App). a.top) c.new-2.ensures.app) in
    let two = c.in_ok-subcommand-2.ensures.shape c.in_ok-pair_command.ensures.local
    ∙ ap₂ with_subcommand one (ap (λ (a : App). a.top) c.in_ok-pair_command.ensures.app) in
    IfOk-weaker c.subcommand-3.result _ _ (λ command added. added.shape c.in_ok-pair_command-2.ensures.local
    ∙ ap₂ with_subcommand two (ap (λ (a : App). a.top) c.in_ok-pair_command-2.ensures.app)) c.subcommand-3.ensures
