use Rattle.std.proofs.Common.{◌≡◌, false, map, string_bytes, sym, ◌∙◌}
use Rattle.std.proofs.lemmas.Bool.{both_ways, true≢false}
use Rattle.std.specs.List.{list_any}
use Rattle.clap.proofs.WalkLemmas.{list_any-map}
use Rattle.clap.specs.Simple.{app_of}
use Rattle.clap.specs.Words.{found_of, rows_of}
use Rattle.ifmap_words.specs.Options.{is_option}
use Rattle.ifmap_words.proofs.Reading.{no_pair_missed, pair_fails, pair_is_plain, some_pair}
use Rattle.ifmap_words.proofs.pairs.two_words.Goals as goal

pub returns-then-has_option-clause-none : goal.returns-then-has_option-clause-none
returns-then-has_option-clause-none c = λ x y is.
    let words = map string_bytes c.args.words.now in
    true≢false (sym c.if-has_option.true ∙ c.has_option.ensures ∙ list_any-map is_option string_bytes c.args.words.now
    ∙ pair_is_plain words x y is)

pub returns-in-Ok-clause-some : goal.returns-in-Ok-clause-some
returns-in-Ok-clause-some c =
    let words = map string_bytes c.args.words.now in
    let plain : list_any is_option words ≡ false =
    sym (list_any-map is_option string_bytes c.args.words.now) ∙ sym c.has_option.ensures ∙ c.if-has_option.false in
    some_pair (app_of c.in_ok-pair_command.field-0) c.args.name.now words (rows_of (found_of c.in-Ok.matches)) _ c.pair_in.result
    c.in_ok-pair_command.ensures.app plain c.in-Ok.ensures.kinds c.in-Ok.ensures.matches c.pair_in.ensures

pub returns-in-Ok-clause-none : goal.returns-in-Ok-clause-none
returns-in-Ok-clause-none c =
    let words = map string_bytes c.args.words.now in
    let plain : list_any is_option words ≡ false =
    sym (list_any-map is_option string_bytes c.args.words.now) ∙ sym c.has_option.ensures ∙ c.if-has_option.false in
    no_pair_missed (app_of c.in_ok-pair_command.field-0) c.args.name.now words (rows_of (found_of c.in-Ok.matches)) _ c.pair_in.result _
    c.in_ok-pair_command.ensures.app plain c.in-Ok.ensures.kinds c.in-Ok.ensures.matches c.pair_in.ensures

pub returns-clause-none : goal.returns-clause-none
returns-clause-none c =
    pair_fails (app_of c.in_ok-pair_command.field-0) c.args.name.now (map string_bytes c.args.words.now) c.in-Err.error
    c.in_ok-pair_command.ensures.app c.in-Err.ensures.kinds
    (λ memory. both_ways c.lacks_memory.result c.if-lacks_memory.false (c.lacks_memory.ensures.1 memory))
