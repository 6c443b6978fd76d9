use Rattle.std.proofs.Common.{codes, refl, inl, inr}
use Rattle.ifmap_lemmas.specs.Branches.{fails_where_false}
use Rattle.ifmap_lexer.specs.Settings.{IsYesOrNo}
use Rattle.ifmap_lexer.proofs.SettingLaws.{taken_with, not_allowed, not_set}
use Rattle.ifmap_lexer.proofs.declaration.after_standalone.Goals as goal

pub returns-in_default : goal.returns-in_default
returns-in_default c = inr (refl, not_set (codes "standalone") refl IsYesOrNo c.args.bytes.now c.in_default.ensures.none)

pub returns-then-is_yes_or_no : goal.returns-then-is_yes_or_no
returns-then-is_yes_or_no c =
    inl (taken_with (codes "standalone") refl IsYesOrNo c.args.bytes.now c.in-Some.written.now c.in-Some.rest.now c.in-Some.ensures.found
    (c.is_yes_or_no.ensures.0 c.if-is_yes_or_no.true))

pub returns-else-is_yes_or_no : goal.returns-else-is_yes_or_no
returns-else-is_yes_or_no c =
    inr (
      refl,
      not_allowed (codes "standalone") refl IsYesOrNo c.args.bytes.now c.in-Some.written.now c.in-Some.rest.now c.in-Some.ensures.found
          (fails_where_false _ _ c.is_yes_or_no.ensures c.if-is_yes_or_no.false),
    )
