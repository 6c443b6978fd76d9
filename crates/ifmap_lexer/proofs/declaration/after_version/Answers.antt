use Rattle.std.proofs.Common.{codes, refl, sym, ◌∙◌}
use Rattle.std.proofs.lemmas.Slice.Eq.{bytes_eq-Decides}
use Rattle.std.proofs.lemmas.Bool.{both_ways}
use Rattle.ifmap_lexer.specs.Settings.{IsXmlVersion}
use Rattle.ifmap_lexer.proofs.SettingLaws.{not_allowed, not_set}
use Rattle.ifmap_lexer.proofs.declaration.after_version.Goals as goal

pub returns-in_default-clause-none : goal.returns-in_default-clause-none
returns-in_default-clause-none c = not_set (codes "version") refl IsXmlVersion c.args.bytes.now c.in_default.ensures.none

pub returns-else-eq-clause-none : goal.returns-else-eq-clause-none
returns-else-eq-clause-none c =
    not_allowed (codes "version") refl IsXmlVersion c.args.bytes.now c.in-Some.written.now c.in-Some.rest.now c.in-Some.ensures.found
    (λ is. both_ways _ (sym c.eq.ensures ∙ c.if-eq.false)
    ((bytes_eq-Decides c.in-Some.written.now c.as_slice.result.now).1 (is ∙ sym c.as_slice.ensures)))
