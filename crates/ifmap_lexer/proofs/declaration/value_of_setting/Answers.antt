use Rattle.std.proofs.Common.{sym, ◌∙◌}
use Rattle.ifmap_lemmas.specs.Absent.{if_none_weaker}
use Rattle.ifmap_lemmas.specs.Joined.{none_by_length, some_by_length}
use Rattle.std.proofs.lemmas.Option.{IfSome_then}
use Rattle.ifmap_lexer.proofs.SettingLaws.{not_spaced, not_named, not_given, setting_found}
use Rattle.ifmap_lexer.proofs.declaration.value_of_setting.Goals as goal

pub returns-then-is_empty-clause-none : goal.returns-then-is_empty-clause-none
returns-then-is_empty-clause-none c =
    not_spaced c.args.name.now c.requires c.args.bytes.now c.split_white.result.0.now c.split_white.result.1.now c.split_white.ensures
    (none_by_length c.split_white.result.0.now (sym c.is_empty.ensures ∙ c.if-is_empty.true))

pub returns-in_default-clause-none : goal.returns-in_default-clause-none
returns-in_default-clause-none c =
    not_named c.args.name.now c.requires c.args.bytes.now c.split_white.result.0.now c.split_white.result.1.now c.split_white.ensures
    c.in_default.ensures.none

pub returns-clause-found : goal.returns-clause-found
returns-clause-found c =
    IfSome_then c.quoted_value.result c.quoted_value.ensures.found
    (λ x q. setting_found c.args.name.now c.requires c.args.bytes.now c.split_white.result.0.now c.split_white.result.1.now
    c.split_white.ensures c.in-Some.after.now c.in-Some.ensures.found x.0.now x.1.now
    (some_by_length c.split_white.result.0.now (sym c.is_empty.ensures ∙ c.if-is_empty.false)) q)

pub returns-clause-none : goal.returns-clause-none
returns-clause-none c =
    if_none_weaker c.quoted_value.result _ _
    (λ n. not_given c.args.name.now c.requires c.args.bytes.now c.split_white.result.0.now c.split_white.result.1.now
    c.split_white.ensures c.in-Some.after.now c.in-Some.ensures.found n)
    c.quoted_value.ensures.none
