use Rattle.std.proofs.Common.{codes, refl, inl, inr}
use Rattle.ifmap_lemmas.specs.Branches.{fails_where_false}
use Rattle.ifmap_lexer.specs.Settings.{IsEncoding}
use Rattle.ifmap_lexer.proofs.SettingLaws.{taken_with, not_allowed, not_set, encoding_from, from_encoding}
use Rattle.ifmap_lexer.proofs.declaration.after_encoding.Goals as goal

pub returns-in_default : goal.returns-in_default
returns-in_default c = inr (refl, not_set (codes "encoding") refl IsEncoding c.args.bytes.now c.in_default.ensures.none)

pub returns-then-eq_ignore_ascii_case : goal.returns-then-eq_ignore_ascii_case
returns-then-eq_ignore_ascii_case c =
    inl (taken_with (codes "encoding") refl IsEncoding c.args.bytes.now c.in-Some.written.now c.in-Some.rest.now c.in-Some.ensures.found
    (encoding_from c.in-Some.written.now (c.eq_ignore_ascii_case.ensures.test.0 c.if-eq_ignore_ascii_case.true)))

pub returns-else-eq_ignore_ascii_case : goal.returns-else-eq_ignore_ascii_case
returns-else-eq_ignore_ascii_case c =
    inr (
      refl,
      not_allowed (codes "encoding") refl IsEncoding c.args.bytes.now c.in-Some.written.now c.in-Some.rest.now c.in-Some.ensures.found
          (λ is. fails_where_false _ _ c.eq_ignore_ascii_case.ensures.test c.if-eq_ignore_ascii_case.false
          (from_encoding c.in-Some.written.now is)),
    )
