use Rattle.std.proofs.Common.{rules, ◌≡◌, ◌∙◌, ap, ◌++◌}
use Rattle.ifmap_delta.specs.Touched.{surplus}
use Rattle.ifmap_delta.proofs.Touching.{comes_told, goes_told}
use Rattle.ifmap_delta.proofs.differing.add_named.Goals as goal

pub returns-clause-deleted : goal.returns-clause-deleted
returns-clause-deleted c =
    let s = c.args.shown.now
    in let at : c.deref.result.now ≡ c.in_ok-going.going.items = search rules
    in c.in_ok-add_left_out.ensures
    ∙ ap (λ l. c.args.told.now.deleted.items ++ l)
    (ap (λ l. surplus s.filter.now s.item.now l s.after.now) (at ∙ c.in_ok-going.ensures)
    ∙ goes_told s.filter.now s.item.now c.args.change.now s.before.now s.after.now c.requires.change)

pub returns-clause-updated : goal.returns-clause-updated
returns-clause-updated c =
    let s = c.args.shown.now
    in let at : c.deref-2.result.now ≡ c.in_ok-coming.coming.items = search rules
    in c.in_ok-add_left_out-2.ensures
    ∙ ap (λ l. c.args.told.now.updated.items ++ l)
    (ap (λ l. surplus s.filter.now s.item.now l s.before.now) (at ∙ c.in_ok-coming.ensures)
    ∙ comes_told s.filter.now s.item.now c.args.change.now s.before.now s.after.now c.requires.change)
