use Rattle.std.proofs.Common.{◌≡◌, ◌∙◌, false, map, string_bytes, sym}
use Rattle.std.proofs.lemmas.Bool.{both_ways}
use Rattle.std.proofs.lemmas.Result.{IfOk-weaker}
use Rattle.std.specs.List.{list_any}
use Rattle.clap.proofs.WalkLemmas.{list_any-map}
use Rattle.clap.specs.Simple.{app_of, subcommand_rows_of}
use Rattle.ifmap_words.specs.Options.{is_option}
use Rattle.ifmap_command.proofs.Asking.{option_is_wrong}
use Rattle.ifmap_command.proofs.Walking.{failed_words, parsed_words}
use Rattle.ifmap_command.proofs.commands.read_words.Goals as goal

pub returns-then-has_option : goal.returns-then-has_option
returns-then-has_option c =
    option_is_wrong (map string_bytes c.args.words.now)
    (sym (list_any-map is_option string_bytes c.args.words.now) ∙ sym c.has_option.ensures ∙ c.if-has_option.true)

pub returns-in-Ok : goal.returns-in-Ok
returns-in-Ok c =
    let words = map string_bytes c.args.words.now in
    let plain : list_any is_option words ≡ false =
    sym (list_any-map is_option string_bytes c.args.words.now) ∙ sym c.has_option.ensures ∙ c.if-has_option.false in
    IfOk-weaker c.form_in.result _ _ (λ form asks. asks words
    (parsed_words (app_of c.in_ok-mapd_command.field-0) words (subcommand_rows_of c.in-Ok.matches) _
    c.in_ok-mapd_command.ensures plain c.in-Ok.ensures.kinds c.in-Ok.ensures.matches)) c.form_in.ensures

pub returns-in-Err-2 : goal.returns-in-Err-2
returns-in-Err-2 c =
    failed_words (app_of c.in_ok-mapd_command.field-0) (map string_bytes c.args.words.now) c.in-Err.error
    c.in_ok-mapd_command.ensures c.in-Err.ensures.kinds
    (λ memory. both_ways c.lacks_memory.result c.if-lacks_memory.false (c.lacks_memory.ensures.1 memory))
