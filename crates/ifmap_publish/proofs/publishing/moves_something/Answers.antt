use Rattle.std.proofs.Common.{◌∙◌, not, sym}
use Rattle.std.proofs.lemmas.Bool.{OnFalse_from, OnTrue_from, not-false, not-true}
use Rattle.ifmap_publish.proofs.Changing.{filled_first, filled_not, filled_second}
use Rattle.ifmap_publish.proofs.publishing.moves_something.Goals as goal

pub returns-then-is_empty-clause-yes : goal.returns-then-is_empty-clause-yes
returns-then-is_empty-clause-yes c =
    OnTrue_from (not c.is_empty-then-is_empty.result) _ (λ e change. filled_second change c.args.removed.now c.args.added.now
    (sym c.is_empty.ensures ∙ c.if-is_empty.true) (sym c.is_empty-then-is_empty.ensures ∙ not-true c.is_empty-then-is_empty.result e))

pub returns-then-is_empty-clause-no : goal.returns-then-is_empty-clause-no
returns-then-is_empty-clause-no c =
    OnFalse_from (not c.is_empty-then-is_empty.result) _ (λ e change. filled_not change c.args.removed.now c.args.added.now
    (sym c.is_empty.ensures ∙ c.if-is_empty.true) (sym c.is_empty-then-is_empty.ensures ∙ not-false c.is_empty-then-is_empty.result e))

pub returns-clause-yes : goal.returns-clause-yes
returns-clause-yes c change = filled_first change c.args.removed.now c.args.added.now (sym c.is_empty.ensures ∙ c.if-is_empty.false)
